use Rattle.std.proofs.Common.{suc}
use Rattle.lex_tableau.specs.Rows.{tableau as fractions_of}
use Rattle.linear_systems.specs.Vertices.{IsZeroWord}
use Rattle.basis_enum.proofs.MaskLemmas.{solution_to}
use Rattle.basis_enum.proofs.marking.mask.Given as goal

abbrev pub invariant-loop-row : goal.invariant-loop-row
invariant-loop-row l =
    IsZeroWord l.count (λ v. solution_to (fractions_of l.tableau) l.row (suc v)) l.mask
