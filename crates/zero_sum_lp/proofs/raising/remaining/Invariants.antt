use Rattle.std.proofs.Common.{All, ◌≡◌}
use Rattle.rational.specs.Rational.{◌-ℚ◌}
use Rattle.rational.specs.Sum.{sum_to, entry_at}
use Rattle.frac128.specs.Steps.{StepFits}
use Rattle.zero_sum_lp.specs.PlanLists.{weights_from}
use Rattle.zero_sum_lp.specs.PlanSteps.{rest_steps}
use Rattle.zero_sum_lp.proofs.raising.remaining.Given as goal

abbrev pub invariant-loop-action : goal.invariant-loop-action
invariant-loop-action l =
    record {
      value : l.rest ≡ entry_at l.weights l.before -ℚ sum_to l.action (weights_from l.weights l.first);
      fits : All StepFits (rest_steps (entry_at l.weights l.before) (weights_from l.weights l.first) l.action);
    }
