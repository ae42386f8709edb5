use Rattle.lists.proofs.OrderLemmas.{lists_ordered}
use Rattle.lists.proofs.lists_are_ordered.Goals as goal

pub returns : goal.returns
returns c = lists_ordered
