-- Sums and means that are positive.
use Rattle.std.proofs.Common.{ℕ, zero, suc, ◌<◌, ◌≡◌, ◌≢◌, inl, inr, [], ◌∷◌, refl, ap₂, ◌∙◌, sym, ap, subst, arith}
use Rattle.rational.specs.Rational.{ℚ, ◌+ℚ◌, ◌*ℚ◌, inv_ℚ, zero_ℚ, ◌≤ℚ◌, ◌<ℚ◌}
use Rattle.rational.specs.Sum.{sum_to}
use Rattle.rational.proofs.RationalRing.{rational_ring}
use Rattle.rational.proofs.Ring.{ring, num, ◌:+◌, ◌:*◌, A, B}
use Rattle.rational.proofs.Decide.{is_zero}
use Rattle.rational.proofs.Field.{lt-le, lt-add, le_of_lt, nonneg-mul}
use Rattle.rational.proofs.InverseLemmas.{ne_zero_of_pos, inv_ℚ-inv, *ℚ_cancel}
use Rattle.rational.proofs.SumLemmas.{sum_to-pos}
use Rattle.rational.proofs.Rules.{*ℚ-zero}
use Rattle.linear_systems.specs.Points.{IsNonzero}

-- positive numbers have a positive sum
pub add-pos : (a b : ℚ) → zero_ℚ <ℚ a → zero_ℚ <ℚ b → zero_ℚ <ℚ (a +ℚ b)
add-pos a b h g = subst (λ x. x <ℚ (a +ℚ b)) (ring rational_ring [] (num 0 :+ num 0) (num 0) refl) (lt-add zero_ℚ a zero_ℚ b h (le_of_lt zero_ℚ b g))

-- inverses of numbers other than 0 tell the numbers
pub inv_same : (a b : ℚ) → a ≢ zero_ℚ → b ≢ zero_ℚ → inv_ℚ a ≡ inv_ℚ b → a ≡ b
inv_same a b h g e = sym (inv_ℚ-inv a h) ∙ ap inv_ℚ e ∙ inv_ℚ-inv b g

-- a nonzero point without negative entries has a positive sum
pub sum-pos : (n : ℕ) (f : ℕ → ℚ) → ((i : ℕ) → i < n → zero_ℚ ≤ℚ f i) → IsNonzero n f → zero_ℚ <ℚ sum_to n f
sum-pos n f h p = sum_to-pos n p.place f h p.within ((lt-le zero_ℚ (f p.place)).1 (h p.place p.within, λ e. p.differs (sym e)))

-- and conversely
pub nonzero_of_sum : (n : ℕ) (f : ℕ → ℚ) → sum_to n f ≢ zero_ℚ → IsNonzero n f
nonzero_of_sum zero f h = absurd (h refl)
nonzero_of_sum (suc n) f h =
    elim (is_zero (f n)) [
      | inl e ↦ let p = nonzero_of_sum n f (λ z. h (ap₂ (λ a b. a +ℚ b) z e ∙ ring rational_ring [] (num 0 :+ num 0) (num 0) refl)) in record { place = p.place; within = omega (arith, p.within); differs = p.differs }
      | inr d ↦ record { place = n; within = omega arith; differs = d }
    ]

-- a mean of positive numbers is positive
pub mean-pos : (n : ℕ) (w f : ℕ → ℚ) → ((i : ℕ) → i < n → zero_ℚ ≤ℚ w i) → ((i : ℕ) → i < n → zero_ℚ <ℚ f i) → IsNonzero n w → zero_ℚ <ℚ sum_to n (λ i. w i *ℚ f i)
mean-pos n w f h g p =
    sum-pos n (λ i. w i *ℚ f i) (λ i k. nonneg-mul (w i) (f i) (h i k) (le_of_lt zero_ℚ (f i) (g i k)))
    (record { place = p.place; within = p.within; differs = λ e. p.differs (*ℚ_cancel (f p.place) (w p.place) zero_ℚ (ne_zero_of_pos (f p.place) (g p.place p.within)) (ring rational_ring (w p.place ∷ f p.place ∷ []) (B :* A) (A :* B) refl ∙ e ∙ sym (*ℚ-zero (f p.place)))) })
