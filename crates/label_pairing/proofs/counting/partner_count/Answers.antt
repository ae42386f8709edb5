use Rattle.std.proofs.Common.{ℕ, ◌+◌, ◌*◌, ◌/◌, ◌≡◌, ◌∙◌, length, ap, ap₂, subst, sym, arith}
use Rattle.std.specs.List.{between}
use Rattle.label_pairing.specs.Matches.{partner_count}
use Rattle.label_pairing.proofs.PartnerLemmas.{partners_below, partners-next}
use Rattle.label_pairing.proofs.counting.partner_count.Goals as goal

pub loop-block-preserved : goal.loop-block-preserved
loop-block-preserved c =
    let at : ℕ = 8 * c.loop-block.block in
    let next : at + 8 ≡ 8 * (c.loop-block.block + 1) = omega arith in
    record {
      count =
          ap₂ (λ m n. m + n) c.loop-block.invariant.count c.count_in_block-count.ensures.count
          ∙ partners-next c.args.mask c.args.candidates.now.all c.args.candidates.now.low.now c.args.candidates.now.high.now at (at + 8) (omega arith) (omega (arith, c.loop-block-test.true)) c.args.candidates.now.as_many
          ∙ ap (partners_below c.args.mask c.args.candidates.now.all c.args.candidates.now.low.now c.args.candidates.now.high.now) next;
      few = omega (arith, c.loop-block.invariant.few, c.count_in_block-count.ensures.few);
    }

pub returns : goal.returns
returns c =
    let at : ℕ = 8 * (length c.args.candidates.now.low.now / 8) in
    let end : c.loop-block.block ≡ length c.args.candidates.now.low.now / 8 = omega (arith, c.loop-block-test.false, c.loop-block.auto.block-end) in
    ap₂ (λ m n. m + n) (c.loop-block.invariant.count ∙ ap (λ k. partners_below c.args.mask c.args.candidates.now.all c.args.candidates.now.low.now c.args.candidates.now.high.now (8 * k)) end) c.place_count.ensures.count
    ∙ subst (λ n. partners_below c.args.mask c.args.candidates.now.all c.args.candidates.now.low.now c.args.candidates.now.high.now at + partner_count c.args.mask c.args.candidates.now.all (between at (length c.args.candidates.now.low.now) c.args.candidates.now.low.now) (between at n c.args.candidates.now.high.now) ≡ partners_below c.args.mask c.args.candidates.now.all c.args.candidates.now.low.now c.args.candidates.now.high.now (length c.args.candidates.now.low.now)) (sym c.args.candidates.now.as_many)
    (partners-next c.args.mask c.args.candidates.now.all c.args.candidates.now.low.now c.args.candidates.now.high.now at (length c.args.candidates.now.low.now) (omega arith) (omega arith) c.args.candidates.now.as_many)
