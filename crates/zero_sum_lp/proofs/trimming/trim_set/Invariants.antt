use Rattle.std.proofs.Common.{All, ℕ, ◌≡◌, ◌+◌, ◌<◌, ◌≤◌, length}
use Rattle.rational.specs.Rational.{◌-ℚ◌}
use Rattle.rational.specs.Sum.{sum_to, entry_at}
use Rattle.frac128.specs.Steps.{StepFits}
use Rattle.zero_sum_lp.specs.PlanLists.{AreShares, weights_from}
use Rattle.zero_sum_lp.specs.PlanSteps.{rest_steps}
use Rattle.zero_sum_lp.proofs.trimming.trim_set.Given as goal

abbrev pub invariant-loop-action : goal.invariant-loop-action
invariant-loop-action l =
    record {
      shape : length l.weights ≡ length l.initial.weights;
      low : (q : ℕ) → q < l.first → entry_at l.weights q ≡ entry_at l.initial.weights q;
      high : (q : ℕ) → l.first + l.action ≤ q → entry_at l.weights q ≡ entry_at l.initial.weights q;
      shares : AreShares (entry_at l.initial.weights l.before) (weights_from l.initial.weights l.first) (weights_from l.weights l.first) l.action;
      fits : All StepFits (rest_steps (entry_at l.initial.weights l.before) (weights_from l.weights l.first) l.action);
      rest : l.left ≡ entry_at l.initial.weights l.before -ℚ sum_to l.action (weights_from l.weights l.first);
    }
