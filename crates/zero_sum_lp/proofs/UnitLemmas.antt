-- Sums with units, and signs.
use Rattle.std.proofs.Common.{ℕ, pos, ◌<◌, ◌≡◌, refl, ap, ◌∙◌, [], ◌∷◌, arith}
use Rattle.std.proofs.lemmas.Int.{ints}
use Rattle.rational.specs.Rational.{ℚ, ◌*ℚ◌, neg_ℚ, zero_ℚ, ◌≤ℚ◌}
use Rattle.rational.specs.Sum.{sum_to}
use Rattle.rational.proofs.RationalRing.{rational_ring}
use Rattle.rational.proofs.Ring.{ring, num, ◌:*◌, A}
use Rattle.rational.proofs.Linear.{linear, minus, at, lit, ◌⟨≤⟩◌}
use Rattle.rational.proofs.SumLemmas.{sum_to-only}
use Rattle.rational.proofs.Rules.{times_zero}
use Rattle.linear_systems.specs.Rows.{unit_at}
use Rattle.linear_systems.proofs.RowLemmas.{unit_self, unit_other}

pub neg_nonneg : (a : ℚ) → a ≤ℚ zero_ℚ → zero_ℚ ≤ℚ neg_ℚ a
neg_nonneg a h = linear (a ∷ []) ((at 0 ⟨≤⟩ lit (pos 0)) ∷ []) (lit (pos 0) ⟨≤⟩ minus (at 0)) (λ one z p h. omega (arith, ints)) (h, tt)

-- the entry that the unit picks
pub sum_unit : (n : ℕ) (f : ℕ → ℚ) (c : ℕ) → c < n → sum_to n (λ j. f j *ℚ unit_at c j) ≡ f c
sum_unit n f c h =
    sum_to-only n c _ h (λ j _ ne. times_zero (f j) _ (unit_other c j ne)) ∙ ap (λ u. f c *ℚ u) (unit_self c) ∙ ring rational_ring (f c ∷ []) (A :* num 1) A refl
