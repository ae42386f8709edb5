-- Two masks together have all labels exactly where each variable is 0 at one of the two solutions.
use Rattle.std.proofs.Common.{ℕ, ◌+◌, ◌-◌, ◌^◌, suc, min, ◌<◌, ◌≡◌, ◌⊎◌, inl, inr, ◌↔◌, max, bit_or, sym, ap, ap₂, ◌∙◌, subst, arith}
use Rattle.std.specs.Int.{bit_at}
use Rattle.std.proofs.lemmas.Bool.{cases_lt, cases_eq}
use Rattle.std.proofs.lemmas.Nat.Bits.{bit_at_or, bit_at_ones, bit_at_ones_above, bit_at_above, bit_at-lt, same_from_bits}
use Rattle.rational.specs.Rational.{ℚ, zero_ℚ}
use Rattle.linear_systems.specs.Vertices.{IsZeroWord}
use Rattle.extreme_equilibria.specs.PairLines.{HaveAllLabels}
use Rattle.extreme_equilibria.specs.Laws.{MasksDetermineLabels}

max_out : (a b : ℕ) → a < 2 → b < 2 → max a b ≡ 1 → (a ≡ 1) ⊎ (b ≡ 1)
max_out a b h g e = elim (cases_eq a 1) [ inl f ↦ inl f | inr f ↦ inr (omega arith) ]

max_left : (a b : ℕ) → b < 2 → a ≡ 1 → max a b ≡ 1
max_left a b h e = omega arith

max_right : (a b : ℕ) → a < 2 → b ≡ 1 → max a b ≡ 1
max_right a b h e = omega arith

-- two words
covers : (count : ℕ) (v w : ℕ → ℚ) (p q : ℕ) → IsZeroWord count v p → IsZeroWord count w q → (bit_or p q ≡ 2 ^ count - 1) ↔ ((l : ℕ) → l < count → (v l ≡ zero_ℚ) ⊎ (w l ≡ zero_ℚ))
covers count v w p q r s = (to, from)
  where
    to : bit_or p q ≡ 2 ^ count - 1 → (l : ℕ) → l < count → (v l ≡ zero_ℚ) ⊎ (w l ≡ zero_ℚ)
    to e l h = elim (max_out (bit_at p l) (bit_at q l) (bit_at-lt p l) (bit_at-lt q l) (sym (bit_at_or p q l) ∙ ap (λ n. bit_at n l) e ∙ bit_at_ones count l h)) [
      | inl b ↦ inl ((r.zeros l h).0 b)
      | inr b ↦ inr ((s.zeros l h).0 b)
    ]

    one : ((l : ℕ) → l < count → (v l ≡ zero_ℚ) ⊎ (w l ≡ zero_ℚ)) → (l : ℕ) → l < count → max (bit_at p l) (bit_at q l) ≡ 1
    one c l h = elim (c l h) [
      | inl z ↦ max_left (bit_at p l) (bit_at q l) (bit_at-lt q l) ((r.zeros l h).1 z)
      | inr z ↦ max_right (bit_at p l) (bit_at q l) (bit_at-lt p l) ((s.zeros l h).1 z)
    ]

    from : ((l : ℕ) → l < count → (v l ≡ zero_ℚ) ⊎ (w l ≡ zero_ℚ)) → bit_or p q ≡ 2 ^ count - 1
    from c = same_from_bits (bit_or p q) (2 ^ count - 1) (λ l. elim (cases_lt l count) [
      | inl h ↦ bit_at_or p q l ∙ one c l h ∙ sym (bit_at_ones count l h)
      | inr h ↦ bit_at_or p q l ∙ ap₂ (λ a b. max a b) (bit_at_above p count l r.below h) (bit_at_above q count l s.below h) ∙ sym (bit_at_ones_above count l h)
    ])

-- ---- both words
pub masks_determine_labels : MasksDetermineLabels
masks_determine_labels n t u x y one two r s = (to, from)
  where
    low : (bit_or one.low two.low ≡ 2 ^ min n 64 - 1) ↔ ((l : ℕ) → l < min n 64 → (x (suc l) ≡ zero_ℚ) ⊎ (y (suc l) ≡ zero_ℚ))
    low = covers (min n 64) (λ l. x (suc l)) (λ l. y (suc l)) one.low two.low r.low s.low

    high : (bit_or one.high two.high ≡ 2 ^ (n - 64) - 1) ↔ ((l : ℕ) → l < n - 64 → (x (suc (64 + l)) ≡ zero_ℚ) ⊎ (y (suc (64 + l)) ≡ zero_ℚ))
    high = covers (n - 64) (λ l. x (suc (64 + l))) (λ l. y (suc (64 + l))) one.high two.high r.high s.high

    to : HaveAllLabels n one two → (v : ℕ) → v < n → (x (suc v) ≡ zero_ℚ) ⊎ (y (suc v) ≡ zero_ℚ)
    to h v l = elim (cases_lt v 64) [
      | inl b ↦ low.0 h.low v (omega arith)
      | inr b ↦ let e : 64 + (v - 64) ≡ v = omega arith in subst (λ w. (x (suc w) ≡ zero_ℚ) ⊎ (y (suc w) ≡ zero_ℚ)) e (high.0 h.high (v - 64) (omega arith))
    ]

    from : ((v : ℕ) → v < n → (x (suc v) ≡ zero_ℚ) ⊎ (y (suc v) ≡ zero_ℚ)) → HaveAllLabels n one two
    from h = record { low = low.1 (λ l b. h l (omega arith)); high = high.1 (λ l b. h (64 + l) (omega arith)) }
