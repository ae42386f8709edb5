use Rattle.std.proofs.Common.{ℕ, ◌≡◌, [], map, get_or}
use Rattle.enummixed.proofs.RankLemmas.{IsRanked}
use Rattle.enummixed.proofs.order.ranks.Given as goal

abbrev pub invariant-loop-place : goal.invariant-loop-place
invariant-loop-place l =
    (previous : ℕ) × IsRanked (map (λ v. v.items) l.points) l.place-items l.place-index l.ranks.items previous l.rank
    × (l.previous ≡ get_or (map (λ v. v.items) l.points) previous [])
