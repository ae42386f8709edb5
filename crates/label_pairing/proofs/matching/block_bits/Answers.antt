use Rattle.label_pairing.proofs.BlockLemmas.{both_bits, both_few, no_bits}
use Rattle.label_pairing.proofs.matching.block_bits.Goals as goal

pub returns-then-lows-eq0-clause-bits : goal.returns-then-lows-eq0-clause-bits
returns-then-lows-eq0-clause-bits c =
    no_bits c.args.mask c.args.all c.args.low.now c.args.high.now c.word_bits-lows.result c.if-lows-eq0.true c.word_bits-lows.ensures.bits

pub returns-clause-bits : goal.returns-clause-bits
returns-clause-bits c =
    both_bits c.args.mask c.args.all c.args.low.now c.args.high.now c.word_bits-lows.result c.word_bits.result c.word_bits-lows.ensures.bits c.word_bits.ensures.bits

pub returns-clause-no_more : goal.returns-clause-no_more
returns-clause-no_more c = both_few c.word_bits-lows.result c.word_bits.result c.word_bits-lows.ensures.no_more
