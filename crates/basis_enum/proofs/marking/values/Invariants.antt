use Rattle.std.proofs.Common.{◌≡◌, take}
use Rattle.basis_enum.specs.Marks.{values_of}
use Rattle.basis_enum.proofs.marking.values.Given as goal

abbrev pub invariant-loop-variable : goal.invariant-loop-variable
invariant-loop-variable l = l.values.items ≡ values_of l.tableau (take l.variable-index l.variables)
