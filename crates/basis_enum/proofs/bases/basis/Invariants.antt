use Rattle.std.proofs.Common.{◌≡◌, take}
use Rattle.basis_enum.specs.Bases.{basis_of}
use Rattle.basis_enum.proofs.bases.basis.Given as goal

abbrev pub invariant-loop-variable : goal.invariant-loop-variable
invariant-loop-variable l = l.basis ≡ basis_of (take l.variable-index l.nonbasics)
