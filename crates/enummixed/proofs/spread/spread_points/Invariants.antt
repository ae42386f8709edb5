use Rattle.std.proofs.Common.{ℕ, ◌<◌, ◌≡◌, [], length, map, get_or}
use Rattle.enummixed.specs.Spread.{IsSpreadOrEmpty}
use Rattle.enummixed.proofs.spread.spread_points.Given as goal

abbrev pub invariant-loop-i : goal.invariant-loop-i
invariant-loop-i l = record {
  count : length (map (λ v. v.items) l.wide.items) ≡ l.i;
  each : (j : ℕ) → j < l.i → IsSpreadOrEmpty l.size l.places (get_or (map (λ v. v.items) l.points) j []) (get_or (map (λ v. v.items) l.wide.items) j []);
}
