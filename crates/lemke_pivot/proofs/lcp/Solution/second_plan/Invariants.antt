use Rattle.std.proofs.Common.{◌≡◌}
use Rattle.game_theory.specs.Lines.{listed}
use Rattle.lemke_pivot.specs.Parts.{plan_two}
use Rattle.lemke_pivot.proofs.lcp.Solution.second_plan.Given as goal

-- the weights so far
abbrev pub invariant-loop-sequence : goal.invariant-loop-sequence
invariant-loop-sequence l = l.plan.items ≡ listed l.sequence (plan_two l.self)
