use Rattle.std.proofs.Common.{ℕ, ◌∙◌, Bool, sym, ap, arith}
use Rattle.std.specs.Prelude.{count_by}
use Rattle.std.specs.List.{range_with_len}
use Rattle.std.proofs.lemmas.Nat.{ones-le}
use Rattle.label_pairing.proofs.PartnerLemmas.{bits_count, test}
use Rattle.label_pairing.proofs.matching.block_count.Goals as goal

pub returns-clause-count : goal.returns-clause-count
returns-clause-count c =
    let passes : ℕ → Bool = test c.args.mask c.args.all c.args.low.now c.args.high.now in
    bits_count passes 0 8 c.block_bits.result c.block_bits.ensures.no_more (λ i l. c.block_bits.ensures.bits i l ∙ ap passes (omega arith))
    ∙ ap (λ n. count_by passes (range_with_len 0 n)) (sym c.requires.low)

pub returns-clause-few : goal.returns-clause-few
returns-clause-few c = ones-le 8 c.block_bits.result c.block_bits.ensures.no_more
