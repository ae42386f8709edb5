use Rattle.std.proofs.Common.{◌<◌, ◌≤◌, subst, sym}
use Rattle.basis_enum.proofs.FoundPivotLemmas.{leaving_bounds, entering_bounds, target_fits}
use Rattle.basis_enum.proofs.found_pivots.target.Goals as goal

pub neighbour-requires-clause-leaving_above : goal.neighbour-requires-clause-leaving_above
neighbour-requires-clause-leaving_above c = subst (λ v. 0 < v) (sym c.basic.ensures) (leaving_bounds c.args.tableau.now c.args.row c.requires.digits c.requires.row_in).0

pub neighbour-requires-clause-leaving_most : goal.neighbour-requires-clause-leaving_most
neighbour-requires-clause-leaving_most c = subst (λ v. v ≤ 128) (sym c.basic.ensures) (leaving_bounds c.args.tableau.now c.args.row c.requires.digits c.requires.row_in).1

pub neighbour-requires-clause-entering_most : goal.neighbour-requires-clause-entering_most
neighbour-requires-clause-entering_most c = subst (λ v. v ≤ 128) (sym c.nonbasic.ensures) (entering_bounds c.args.tableau.now c.args.column c.requires.digits c.requires.column_in).1

pub neighbour-requires-clause-fits : goal.neighbour-requires-clause-fits
neighbour-requires-clause-fits c = target_fits c.args.tableau.now c.args.row c.args.column c.args.basis c.basic.result c.nonbasic.result c.requires.valid c.requires.digits c.requires.row_in c.requires.column_in c.requires.basis c.basic.ensures c.nonbasic.ensures
