use Rattle.game_core.proofs.TreeLaws.{numbered_by_first_nodes}
use Rattle.game_core.proofs.tree.sets_are_numbered_by_first_nodes.Goals as goal

pub returns : goal.returns
returns c = numbered_by_first_nodes
