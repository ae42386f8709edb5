use Rattle.lists.proofs.AscendingNumberLemmas.{number-missed}
use Rattle.lists.proofs.ListedLemmas.{none-index}
use Rattle.subgames.proofs.cut_parts.index_among.Goals as goal

pub returns-in-Err : goal.returns-in-Err
returns-in-Err c =
    none-index c.args.nodes.now c.args.node (number-missed c.args.nodes.now c.args.node c.in-Err.field-0 c.requires.ascending (c.in-Err.ensures {u = tt}).position)
