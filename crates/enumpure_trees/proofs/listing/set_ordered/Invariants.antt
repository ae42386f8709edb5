use Rattle.std.proofs.Common.{length, map}
use Rattle.game_theory.specs.Ranks.{ranked}
use Rattle.enumpure_trees.proofs.RankedProfileLemmas.{IsWrittenBelow}
use Rattle.enumpure_trees.proofs.listing.set_ordered.Given as goal

abbrev pub invariant-loop-player : goal.invariant-loop-player
invariant-loop-player l = IsWrittenBelow (map (λ v. v.items) l.orders) (ranked (map length (map (λ v. v.items) l.orders)) l.fn.rank) l.profile l.player l.later l.rest
