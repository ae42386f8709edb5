use Rattle.std.proofs.Common.{◌∙◌, true, false, ap}
use Rattle.label_pairing.proofs.RowLemmas.{found-next, found-same}
use Rattle.label_pairing.proofs.pairing.push_found.Goals as goal
use Rattle.label_pairing.proofs.pairing.push_found.Goals.{then-is_found+in_ok-push, else-is_found}

pub loop-j-preserved : goal.loop-j-preserved
loop-j-preserved c =
    elim c.if-is_found.branch [
      | then-is_found+in_ok-push w ↦ found-next c.args.found.now c.args.i c.loop-j.j c.args.pairs.now.items c.loop-j.pairs.items c.if-is_found.pairs.items true w.if-is_found.true c.loop-j.invariant (ap (λ v. v.items) w.pairs-is ∙ w.in_ok-push.ensures.items)
      | else-is_found w ↦ found-next c.args.found.now c.args.i c.loop-j.j c.args.pairs.now.items c.loop-j.pairs.items c.if-is_found.pairs.items false w.if-is_found.false c.loop-j.invariant (found-same c.loop-j.pairs.items c.if-is_found.pairs.items (ap (λ v. v.items) w.pairs-is))
    ]
