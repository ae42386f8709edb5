use Rattle.std.proofs.Common.{◌+◌, ◌∙◌, cond, sym, ap, arith}
use Rattle.label_pairing.proofs.PartnerLemmas.{partners_below, partners_more}
use Rattle.label_pairing.proofs.counting.place_count.Goals.{then-completes, else-completes}
use Rattle.label_pairing.proofs.counting.place_count.Goals as goal

pub loop-i-preserved : goal.loop-i-preserved
loop-i-preserved c =
    let below = partners_below c.args.mask c.args.all c.args.low.now c.args.high.now in
    let next = partners_more c.args.mask c.args.all c.args.low.now c.args.high.now c.loop-i.i in
    elim c.if-completes.branch [
      | then-completes w ↦ record {
        count = w.count-is ∙ ap (λ n. n + 1) c.loop-i.invariant.count ∙ ap (λ b. below c.loop-i.i + cond b 1 0) (sym w.if-completes.true ∙ c.completes.ensures) ∙ sym next;
        few = omega (arith, w.count-is, c.loop-i.invariant.few);
      }
      | else-completes w ↦ record {
        count = w.count-is ∙ c.loop-i.invariant.count ∙ omega arith ∙ ap (λ b. below c.loop-i.i + cond b 1 0) (sym w.if-completes.false ∙ c.completes.ensures) ∙ sym next;
        few = omega (arith, w.count-is, c.loop-i.invariant.few);
      }
    ]
