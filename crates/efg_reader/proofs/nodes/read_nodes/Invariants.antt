use Rattle.std.proofs.Common.{length}
use Rattle.game_core.specs.TokenList.{bare}
use Rattle.efg_reader.proofs.NodesLoopLemmas.{IsUnderWay}
use Rattle.efg_reader.proofs.nodes.read_nodes.Given as goal

abbrev pub invariant-loop-alloc : goal.invariant-loop-alloc
invariant-loop-alloc l = IsUnderWay l.players l.builder (bare l.rest) (bare l.tokens)

abbrev pub decreases-loop-alloc : goal.decreases-loop-alloc
decreases-loop-alloc l = length l.rest
