-- a problem that excludes rays has none
use Rattle.std.proofs.Common.{ℕ, pos, ◌<◌, ◌≡◌, inl, inr, [], ◌∷◌, refl, sym, ap, ap₂, ◌∙◌, subst, arith}
use Rattle.std.proofs.lemmas.Int.{ints}
use Rattle.rational.specs.Rational.{ℚ, ◌+ℚ◌, ◌*ℚ◌, zero_ℚ, ◌≤ℚ◌, ◌<ℚ◌}
use Rattle.rational.specs.Sum.{sum_to}
use Rattle.rational.proofs.RationalRing.{rational_ring}
use Rattle.rational.proofs.Ring.{combine, ◌times◌is◌, num, ◌:+◌, ◌:*◌, :neg, A, B, C, D, E}
use Rattle.rational.proofs.Linear.{linear, at, lit, ◌⟨+⟩◌, ◌⟨≤⟩◌, ◌⟨<⟩◌, ◌⟨=⟩◌}
use Rattle.rational.proofs.Field.{le_or_lt, le_antisymm, lt_irrefl, pos-mul}
use Rattle.rational.proofs.SumLemmas.{sum_to-zeros, sum_to-nonneg, each_zero}
use Rattle.sequence_forms.specs.Matrices.{AreNotNegative}
use Rattle.lemke_pivot.specs.Vectors.{dot, image, bilinear}
use Rattle.lemke_pivot.specs.Problems.{ExcludesRays, IsRay}
use Rattle.lemke_pivot.proofs.VectorLemmas.{dot_comm, dot_right, dot-two, dot-constant}

-- numbers that are not negative and not all 0 have a positive sum
pub sum-pos : (n : ℕ) (u : ℕ → ℚ) → AreNotNegative n u → (((i : ℕ) → i < n → u i ≡ zero_ℚ) → ⊥) → zero_ℚ <ℚ sum_to n u
sum-pos n u h g = elim (le_or_lt (sum_to n u) zero_ℚ) [ inl l ↦ absurd (g (each_zero n u h (le_antisymm (sum_to n u) zero_ℚ l (sum_to-nonneg n u h)))) | inr l ↦ l ]

-- 0 is the sum of a and a product, neither of them negative, whose second factor is positive
pub first_zero : (a u0 s : ℚ) → zero_ℚ ≤ℚ a → zero_ℚ ≤ℚ u0 → zero_ℚ <ℚ s → a +ℚ (u0 *ℚ s) ≡ zero_ℚ → (u0 ≡ zero_ℚ) × (a ≡ zero_ℚ)
first_zero a u0 s ha hu hs e = (none, combine rational_ring (a ∷ u0 ∷ s ∷ []) ((num 1 times A :+ B :* C is num 0) ∷ (:neg C times B is num 0) ∷ []) A (num 0) refl (e, (none, tt)))
  where
    none : u0 ≡ zero_ℚ
    none =
        elim (le_or_lt u0 zero_ℚ) [
          | inl l ↦ le_antisymm u0 zero_ℚ l hu
          | inr l ↦ absurd (lt_irrefl zero_ℚ (linear (a ∷ (u0 *ℚ s) ∷ []) ((lit (pos 0) ⟨≤⟩ at 0) ∷ (lit (pos 0) ⟨<⟩ at 1) ∷ ((at 0 ⟨+⟩ at 1) ⟨=⟩ lit (pos 0)) ∷ []) (lit (pos 0) ⟨<⟩ lit (pos 0)) (λ one z p h. omega (arith, ints)) (ha, (pos-mul u0 s l hs, (e, tt)))))
        ]

pub no_ray : (n : ℕ) (M : ℕ → ℕ → ℚ) (b w z v u : ℕ → ℚ) (z0 u0 : ℚ) → ExcludesRays n M b → IsRay n M b w z v u z0 u0 → ⊥
no_ray n M b w z v u z0 u0 c r = lt_irrefl zero_ℚ (linear ((z0 *ℚ sum_to n u) ∷ dot n b u ∷ bilinear n n M u z ∷ []) ((lit (pos 0) ⟨<⟩ at 0) ∷ (lit (pos 0) ⟨≤⟩ at 1) ∷ (at 2 ⟨=⟩ lit (pos 0)) ∷ ((at 1 ⟨+⟩ at 2 ⟨+⟩ at 0) ⟨=⟩ lit (pos 0)) ∷ []) (lit (pos 0) ⟨<⟩ lit (pos 0)) (λ one z p h. omega (arith, ints)) (pos-mul z0 (sum_to n u) r.z0_above above, (c.side u r.u_sign up none.1, (straight, (point, tt)))))
  where
    above : zero_ℚ <ℚ sum_to n u
    above = sum-pos n u r.u_sign r.u_some

    -- t v, by the direction's rows
    along : (t : ℕ → ℚ) → dot n t v ≡ bilinear n n M t u +ℚ (u0 *ℚ sum_to n t)
    along t = dot_right n t v (λ i. image n M u i +ℚ u0) r.way ∙ dot-two n t (image n M u) (λ i. u0) ∙ ap (λ x. bilinear n n M t u +ℚ x) (dot-constant n t u0)

    none : (u0 ≡ zero_ℚ) × (bilinear n n M u u ≡ zero_ℚ)
    none = first_zero (bilinear n n M u u) u0 (sum_to n u) (c.square u r.u_sign) r.u0_sign above (sym (along u) ∙ dot_comm n u v ∙ sum_to-zeros n _ r.vu)

    up : AreNotNegative n (image n M u)
    up i h = subst (λ x. zero_ℚ ≤ℚ x) (combine rational_ring (v i ∷ image n M u i ∷ u0 ∷ []) ((num 1 times A is B :+ C) ∷ (num 1 times C is num 0) ∷ []) A B refl (r.way i h, (none.0, tt))) (r.v_sign i h)

    straight : bilinear n n M u z ≡ zero_ℚ
    straight =
        combine rational_ring (bilinear n n M u z ∷ bilinear n n M z u ∷ dot n z v ∷ u0 ∷ sum_to n z ∷ []) ((num 1 times A :+ B is num 0) ∷ (num 1 times C is B :+ D :* E) ∷ (:neg (num 1) times C is num 0) ∷ (E times D is num 0) ∷ []) A (num 0) refl (c.skew u r.u_sign up none.1 z, (along z, (dot_comm n z v ∙ sum_to-zeros n _ r.vz, (none.0, tt))))

    point : (dot n b u +ℚ bilinear n n M u z) +ℚ (z0 *ℚ sum_to n u) ≡ zero_ℚ
    point =
        ap₂ (λ x y. (x +ℚ bilinear n n M u z) +ℚ y) (dot_comm n b u) (sym (dot-constant n u z0)) ∙ ap (λ x. x +ℚ dot n u (λ i. z0)) (sym (dot-two n u b (image n M z))) ∙ sym (dot-two n u (λ i. b i +ℚ image n M z i) (λ i. z0)) ∙ dot_right n u _ w (λ i h. sym (r.point i h)) ∙ dot_comm n u w ∙ sum_to-zeros n _ r.wu
