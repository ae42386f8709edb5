use Rattle.subgames.proofs.CutSetLemmas.{number-inserted}
use Rattle.subgames.proofs.cut_sets.set_number.Goals as goal

pub returns : goal.returns
returns c =
    let full = c.in_ok-number.ensures in
    number-inserted c.args.set _ _ _ full.stored.0 full.keys full.stored.1 full.stored.2
