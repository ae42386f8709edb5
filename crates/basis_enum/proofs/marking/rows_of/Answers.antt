use Rattle.std.proofs.Common.{◌<◌, ◌≤◌, ◌≡◌, ap, get_or, length, refl, subst, arith}
use Rattle.basis_enum.proofs.BasicValueLemmas.{rows_all, rows_more, rows_start}
use Rattle.basis_enum.proofs.marking.rows_of.Goals as goal

pub returns : goal.returns
returns c =
    let t = c.args.tableau.now in
    let items = c.basics-variable-items.ensures in
    let end : c.loop-row.row ≡ length t.basics = omega (arith, ap length items) in
    rows_all t c.loop-row.row c.loop-row.rows end c.loop-row.invariant

pub loop-row-init : goal.loop-row-init
loop-row-init c = rows_start c.args.tableau.now _ refl

pub loop-row-preserved : goal.loop-row-preserved
loop-row-preserved c =
    let t = c.args.tableau.now in
    let row = c.loop-row.row in
    let items = c.basics-variable-items.ensures in
    let is : get_or c.basics-variable-items.result.now row 0 ≡ get_or t.basics row 0 = ap (λ xs. get_or xs row 0) items in
    let ends = c.requires row 0 (subst (λ xs. row < length xs) items c.loop-row-test.true) in
    let above : 0 < get_or t.basics row 0 = ends.0 in
    let most : get_or t.basics row 0 ≤ 128 = ends.1 in
    rows_more t row _ c.loop-row.rows _ is (omega arith) (omega arith) refl c.loop-row.invariant
