use Rattle.std.proofs.Common.{◌≡◌, All, []}
use Rattle.rational.specs.Sum.{sum_to, entry_at}
use Rattle.frac128.specs.Steps.{StepFits, sum_steps}
use Rattle.label_pairing.proofs.scaling.sum.Given as goal

abbrev pub invariant-loop-entry : goal.invariant-loop-entry
invariant-loop-entry l = record { value : l.sum ≡ sum_to l.entry-index (entry_at l.point); fits : All StepFits (sum_steps l.entry-index (entry_at l.point) (λ _. [])) }
