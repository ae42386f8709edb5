-- The shares of a player's plan at a set, and the first that does not fit.
use Rattle.std.specs.Prelude.{ℕ, ◌+◌, List}
use Rattle.std.specs.List.{range_with_len}
use Rattle.answers.specs.Answers.{Answer, refused_by}
use Rattle.rational.specs.Rational.{ℚ}
use Rattle.frac128.specs.Steps.{Step}
use Rattle.frac128.specs.FirstUnfit.{all_fit}
use Rattle.sequence_forms.specs.PlanBehaviour.{share}
use Rattle.rational.specs.Sum.{entry_at}
use Rattle.sequence_data.specs.declared.types.SetRow.{SetRow}
use Rattle.behaviour_profile.specs.Plans.{share_steps}
use Rattle.behaviour_profile.specs.declared.plans.BehaviourStop.{BehaviourStop}
use Rattle.behaviour_profile.specs.declared.plans.BehaviourStop.TheVariants as stops

-- the share of action a of a set
abbrev pub share_at : List ℚ → SetRow → ℕ → ℚ
share_at weights row a =
    share row.count (entry_at weights row.before) (entry_at weights (row.first + a))

-- its step
abbrev pub steps_at : List ℚ → SetRow → ℕ → List Step
steps_at weights row a =
    share_steps (entry_at weights row.before) (entry_at weights (row.first + a))

-- the actions of a set
abbrev pub actions_of : SetRow → List ℕ
actions_of row = range_with_len 0 row.count

-- The shares of a set of player i, which has this number in the file, all fit; or the first that
-- does not.
abbrev pub shares_in : List ℚ → SetRow → ℕ → ℕ → Answer BehaviourStop (Unit {0})
shares_in weights row i label =
    refused_by (λ (stop : ℕ × Step). stops.Range i label stop.1)
    (all_fit (steps_at weights row) (actions_of row))
