-- What calls give that find the behaviour of a tree by its form.
use Rattle.std.proofs.Common.{◌≡◌, List, Ok, Err, Result}
use Rattle.std.specs.Result.{IsErrAnd}
use Rattle.answers.specs.Answers.{Answer, Gives, ◌>>=◌, refused_by}
use Rattle.answers.proofs.AnswerLemmas.{gives_bind, gives_first, gives_stop}
use Rattle.rational.specs.Rational.{ℚ}
use Rattle.game_core.specs.Tree.{GameTree}
use Rattle.behaviour_profile.specs.Plans.{plan_behaviour}
use Rattle.sequence_data.specs.Data.{FormData}
use Rattle.sequence_data.specs.PlanPairs.{PlanPair}
use Rattle.refusals.specs.Told.{behaviour_refusal}
use Rattle.refusals.specs.declared.refusal.Refusal.{Refusal}
use Rattle.refusals.specs.declared.refusal.Refusal.TheVariants as refusal
use Rattle.two_player_tools.specs.Perfect.{entries_by, plans_by}
use Rattle.two_player_tools.specs.TwoPlayers.{tree_form_within, rows_by}
use Rattle.two_player_tools.specs.declared.forms.Method.{Method}

-- the entries of the behaviour of two plans
abbrev pub entries_of : GameTree → PlanPair → Answer Refusal (List ℚ)
entries_of t plans = refused_by behaviour_refusal (plan_behaviour t plans.one plans.two)

-- where a tree has no form, it has no behaviour
pub entries-formless : (method : Method) (t : GameTree) (r : Refusal) (answer : Result (List ℚ) Refusal) → Gives refusal.Memory (tree_form_within (rows_by method) t) (Err r) → IsErrAnd answer (λ q. q ≡ r) → Gives refusal.Memory (entries_by method t) answer
entries-formless method t r answer g e =
    gives_stop refusal.Memory (entries_by method t) r answer (gives_first refusal.Memory (tree_form_within (rows_by method) t) (λ f. plans_by method f >>= entries_of t) r g) e

module _ (method : Method) (t : GameTree) (f : FormData) (answer : Result (List ℚ) Refusal) (is_form : tree_form_within (rows_by method) t (Ok f)) where
  -- the behaviour of the form's plans is that of the tree
  pub entries-of_plans : (plans : PlanPair) → plans_by method f (Ok plans) → Gives refusal.Memory (entries_of t plans) answer → Gives refusal.Memory (entries_by method t) answer
  entries-of_plans plans h g =
      gives_bind refusal.Memory (tree_form_within (rows_by method) t) (λ f. plans_by method f >>= entries_of t) f answer is_form (gives_bind refusal.Memory (plans_by method f) (entries_of t) plans answer h g)

  -- where the form has no plans, the tree has no behaviour
  pub entries-stop : (r : Refusal) → Gives refusal.Memory (plans_by method f) (Err r) → IsErrAnd answer (λ q. q ≡ r) → Gives refusal.Memory (entries_by method t) answer
  entries-stop r g e =
      gives_bind refusal.Memory (tree_form_within (rows_by method) t) (λ f. plans_by method f >>= entries_of t) f answer is_form (gives_stop refusal.Memory (plans_by method f >>= entries_of t) r answer (gives_first refusal.Memory (plans_by method f) (entries_of t) r g) e)
