use Rattle.std.proofs.Common.{◌≡◌, ◌+◌, ◌∙◌, length, ap, sym, subst, arith}
use Rattle.basis_enum.proofs.FoundPivotLemmas.{AreFoundBelow, found_all, found_none, found_push, found_start}
use Rattle.basis_enum.proofs.found_pivots.pivots_from.Goals as goal
use Rattle.basis_enum.proofs.found_pivots.pivots_from.Goals.{in-Some+in_ok-push, in_default}

pub returns : goal.returns
returns c =
    let end : c.loop-column.column ≡ length c.args.tableau.now.nonbasics = omega (arith, c.loop-column-test.false, c.loop-column.auto.column-end, ap length c.nonbasics-column-end.ensures) in
    found_all c.args.tableau.now c.args.parent c.args.known.now c.loop-column.column c.loop-column.found.items end c.loop-column.invariant

pub loop-column-init : goal.loop-column-init
loop-column-init c = subst (AreFoundBelow c.args.tableau.now c.args.parent c.args.known.now 0) (sym c.in_ok-found.ensures.items) (found_start c.args.tableau.now c.args.parent c.args.known.now)

pub loop-column-preserved : goal.loop-column-preserved
loop-column-preserved c =
    let t = c.args.tableau.now in
    let n = c.loop-column.column in
    let found = c.loop-column.found.items in
    elim c.match-pivot_in_column.branch [
      | in-Some+in_ok-push w ↦ subst (AreFoundBelow t c.args.parent c.args.known.now (n + 1)) (sym (ap (λ v. v.items) w.found-is ∙ w.in_ok-push.ensures.items)) (found_push t c.args.parent c.args.known.now n found _ c.loop-column.invariant w.in-Some.ensures)
      | in_default w ↦ subst (AreFoundBelow t c.args.parent c.args.known.now (n + 1)) (sym (ap (λ v. v.items) w.found-is)) (found_none t c.args.parent c.args.known.now n found c.loop-column.invariant w.in_default.ensures)
    ]
