use Rattle.std.proofs.Common.{ℕ, ◌<◌, ◌≡◌, length, get_or}
use Rattle.std.specs.Prelude.{Contains}
use Rattle.rational.specs.Rational.{zero_ℚ}
use Rattle.enummixed.proofs.spread.spread.Given as goal

abbrev pub invariant-loop-k : goal.invariant-loop-k
invariant-loop-k l = record {
  size : length l.wide.items ≡ l.size;
  at_places : (j : ℕ) → j < l.k → get_or l.wide.items (get_or l.places j 0) zero_ℚ ≡ get_or l.point j zero_ℚ;
  elsewhere : (s : ℕ) → (Contains l.places s → ⊥) → get_or l.wide.items s zero_ℚ ≡ zero_ℚ;
}
