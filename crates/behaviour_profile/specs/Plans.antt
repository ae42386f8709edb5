-- The behaviour of two plans on a tree, and the first of its quotients that does not fit. Source:
-- von Stengel 1996.
use Rattle.std.specs.Prelude.{ℕ, List, [], ◌∷◌, map, if◌then◌else◌, Some}
use Rattle.std.specs.List.{range_with_len, flat_map}
use Rattle.answers.specs.Answers.{Answer, ◌>>◌, only, refused_by}
use Rattle.rational.specs.Rational.{ℚ, zero_ℚ}
use Rattle.rational.specs.Tests.{eq_ℚ}
use Rattle.frac128.specs.Steps.{step_of, Step}
use Rattle.frac128.specs.declared.steps.Op.TheVariants.{Div}
use Rattle.game_theory.specs.Trees.{Tree}
use Rattle.game_theory.specs.OwnSets.{own_sets}
use Rattle.game_theory.specs.TreeEntries.{tree_entries}
use Rattle.sequence_forms.specs.PlanBehaviour.{of_two, behaviour_of}
use Rattle.sequence_forms.specs.Sequences.{sequence, sequence_before}
use Rattle.game_core.specs.Tree.{GameTree, label_of}
use Rattle.game_core.specs.TreeGame.{game_of_tree}
use Rattle.frac128.specs.FirstUnfit.{all_fit}
use Rattle.rational.specs.Sum.{entry_at}
use Rattle.behaviour_profile.specs.declared.plans.BehaviourStop.{BehaviourStop}
use Rattle.behaviour_profile.specs.declared.plans.BehaviourStop.TheVariants as stops

-- ---- quotients
-- an action at an own set of a player
pub record OwnAction : Type 0 where
  pub player : ℕ
  pub set : ℕ
  pub action : ℕ

-- the actions of set s, which is player i's own
abbrev pub actions_at : Tree → ℕ → ℕ → List OwnAction
actions_at t i s =
    map (λ a. record { player = i; set = s; action = a }) (range_with_len 0 (t.actions s))

-- player i's actions, set by set
abbrev pub own_actions : Tree → ℕ → List OwnAction
own_actions t i = flat_map (actions_at t i) (own_sets t i)

-- the step of a share: the weight after is divided by the weight before; there is none where that
-- is 0
abbrev pub share_steps : ℚ → ℚ → List Step
share_steps before after = if eq_ℚ before zero_ℚ then [] else step_of Div after before ∷ []

-- the step at an action: the weight before its set and that of its sequence give its share
abbrev pub quotient_steps : Tree → (ℕ → ℕ → ℚ) → OwnAction → List Step
quotient_steps t plans k =
    share_steps (plans k.player (sequence_before t k.player k.set))
    (plans k.player (sequence t k.player (Some (k.set, k.action))))

-- ---- the behaviour
-- the plans of two lists of weights
abbrev pub both_plans : List ℚ → List ℚ → ℕ → ℕ → ℚ
both_plans one two = of_two (entry_at one) (entry_at two)

-- a quotient that does not fit is told by its player, its set as the file numbers it, and its step
abbrev pub quotient_stop : GameTree → OwnAction × Step → BehaviourStop
quotient_stop t unfit = stops.Range unfit.0.player (label_of t unfit.0.set) unfit.1

-- the quotients of player i all fit; or the first that does not
abbrev pub own_quotients_in : GameTree → (ℕ → ℕ → ℚ) → ℕ → Answer BehaviourStop (Unit {0})
own_quotients_in t plans i =
    refused_by (quotient_stop t)
    (all_fit (quotient_steps (game_of_tree t) plans) (own_actions (game_of_tree t) i))

-- The entries of the behaviour of two plans, all quotients of which fit, player 0's and then
-- player 1's; or the first that does not.
abbrev pub plan_behaviour : GameTree → List ℚ → List ℚ → Answer BehaviourStop (List ℚ)
plan_behaviour t one two =
    own_quotients_in t (both_plans one two) 0
    >> (own_quotients_in t (both_plans one two) 1
    >> only (tree_entries (game_of_tree t) (behaviour_of (game_of_tree t) (both_plans one two))))
