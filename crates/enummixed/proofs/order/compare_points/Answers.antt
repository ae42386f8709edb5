use Rattle.std.proofs.Common.{◌∙◌, inl, inr, sym, arith}
use Rattle.enummixed.specs.Order.{greater_first}
use Rattle.enummixed.proofs.LineOrderLemmas.{ended}
use Rattle.enummixed.proofs.order.compare_points.Goals as goal
use Rattle.enummixed.proofs.order.compare_points.Goals.{then-loop-k-test+else-k-right, else-loop-k-test}

pub returns : goal.returns
returns c =
    c.cmp.ensures ∙ ended greater_first c.args.left.now c.args.right.now c.loop-k.k c.loop-k.invariant.left_in c.loop-k.invariant.right_in (elim c.loop-k-test.branch [
      | then-loop-k-test+else-k-right w ↦ inr (omega (arith, w.if-k-right.false))
      | else-loop-k-test w ↦ inl (omega (arith, w.loop-k-test.false))
    ]) ∙ sym c.loop-k.invariant.same
