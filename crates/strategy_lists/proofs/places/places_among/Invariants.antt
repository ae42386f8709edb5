use Rattle.std.proofs.Common.{◌≡◌, None, length, get_or}
use Rattle.strategy_lists.proofs.OwnNumberLemmas.{AreCounts, ArePlacesBelow}
use Rattle.strategy_lists.proofs.places.places_among.Given as goal

-- the counts of the players' numbers so far, and the places of those numbers
abbrev pub invariant-loop-owner : goal.invariant-loop-owner
invariant-loop-owner l =
    (length l.counts.items ≡ l.players)
    × AreCounts (λ k. get_or l.owners k None) l.owner-index l.counts.items
    × ArePlacesBelow (λ k. get_or l.owners k None) l.owner-index l.places.items
