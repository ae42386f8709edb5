use Rattle.reduced_strategies.proofs.NodeLemmas.{nodes-tell}
use Rattle.reduced_strategies.proofs.nodes_determine_strategies.Goals as goal

pub returns : goal.returns
returns c = nodes-tell
