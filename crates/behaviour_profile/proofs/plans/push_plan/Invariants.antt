use Rattle.std.proofs.Common.{◌≡◌, ℕ}
use Rattle.rational.specs.Rational.{ℚ}
use Rattle.game_core.specs.TreeGame.{game_of_tree}
use Rattle.rational.specs.Sum.{entry_at}
use Rattle.behaviour_profile.proofs.PlanStopLemmas.{AddsSets}
use Rattle.behaviour_profile.proofs.plans.push_plan.Given as goal

abbrev pub invariant-loop-place : goal.invariant-loop-place
invariant-loop-place l =
    (plans : ℕ → ℕ → ℚ) → plans l.player ≡ entry_at l.plan → AddsSets (game_of_tree l.tree) l.player plans l.place l.initial.entries.items l.entries.items
