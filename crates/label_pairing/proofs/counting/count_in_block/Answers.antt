use Rattle.label_pairing.proofs.PartnerLemmas.{none-in_union}
use Rattle.label_pairing.proofs.counting.count_in_block.Goals as goal

pub returns-then-together-all-clause-count : goal.returns-then-together-all-clause-count
returns-then-together-all-clause-count c =
    none-in_union c.args.mask c.args.all c.args.low.now c.args.high.now c.args.union c.requires.union c.if-together-all.true c.requires.low
