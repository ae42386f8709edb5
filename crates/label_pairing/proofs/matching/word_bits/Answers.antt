use Rattle.label_pairing.proofs.BlockLemmas.{lane_bit, lanes_few}
use Rattle.label_pairing.proofs.matching.word_bits.Goals as goal

pub returns-clause-bits : goal.returns-clause-bits
returns-clause-bits c = λ i l. lane_bit c.args.word c.args.all c.args.others.now i c.requires l

pub returns-clause-no_more : goal.returns-clause-no_more
returns-clause-no_more c = lanes_few c.args.word c.args.all c.args.others.now c.requires
