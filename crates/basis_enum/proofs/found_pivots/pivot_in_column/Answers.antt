use Rattle.std.proofs.Common.{refl, subst}
use Rattle.std.specs.List.{Contains}
use Rattle.basis_enum.proofs.FoundPivotLemmas.{leads_back, no_row}
use Rattle.basis_enum.proofs.found_pivots.pivot_in_column.Goals as goal

pub returns-then-is_known : goal.returns-then-is_known
returns-then-is_known c = leads_back c.args.tableau.now c.args.known.now c.args.column c.in_ok-row.row c.in_ok-row.ensures.best (subst (λ b. Contains c.args.known.now b) c.target-target.ensures (c.is_known.ensures.known c.if-is_known.true))

pub returns-in_err-row : goal.returns-in_err-row
returns-in_err-row c = rw c.from_residual.ensures (no_row c.args.tableau.now c.args.known.now c.args.column c.in_err-row.ensures.best)

pub returns : goal.returns
returns c = record {
  parent = refl;
  column = refl;
  row = c.in_ok-row.ensures.best;
  entering = c.nonbasic.ensures;
  target = c.target-target.ensures;
  new = c.is_known.ensures.new c.if-is_known.false;
}
