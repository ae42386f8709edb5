-- a number added to each payoff of a player changes no equilibrium
use Rattle.std.proofs.Common.{ℕ, pos, ◌≡◌, ◌↔◌, [], ◌∷◌, refl, sym, ap, ◌∙◌, subst₂, arith}
use Rattle.std.proofs.lemmas.Int.{ints}
use Rattle.rational.specs.Rational.{ℚ, ◌+ℚ◌, ◌*ℚ◌, one_ℚ, ◌≤ℚ◌}
use Rattle.rational.specs.Sum.{sum_to}
use Rattle.rational.proofs.RationalRing.{rational_ring}
use Rattle.rational.proofs.Ring.{ring, num, ◌:+◌, ◌:*◌, A, B, C}
use Rattle.rational.proofs.Linear.{linear, at, lit, ◌⟨+⟩◌, ◌⟨-⟩◌, ◌⟨≤⟩◌, ◌⟨<⟩◌}
use Rattle.rational.proofs.SumLemmas.{sum_to-same, sum_to-add, sum_to-scale}
use Rattle.extreme_equilibria.specs.Bimatrix.{gain, mean_gain, IsBestReply, IsBimatrixEquilibrium, IsExtremeBimatrixEquilibrium, IsPositive, shifted, IsLowerBound, shift_of}

gain-shifted : (n : ℕ) (d : ℚ) (a : ℕ → ℕ → ℚ) (y : ℕ → ℚ) (i : ℕ) → sum_to n y ≡ one_ℚ → gain n (shifted d a) y i ≡ gain n a y i +ℚ d
gain-shifted n d a y i e =
    sum_to-same n _ (λ j. (a i j *ℚ y j) +ℚ (d *ℚ y j)) (λ j h. ring rational_ring (a i j ∷ d ∷ y j ∷ []) ((A :+ B) :* C) (A :* C :+ B :* C) refl) ∙ sum_to-add n (λ j. a i j *ℚ y j) (λ j. d *ℚ y j) ∙ ap (λ s. gain n a y i +ℚ s) (sum_to-scale n d y ∙ ap (λ s. d *ℚ s) e ∙ ring rational_ring (d ∷ []) (A :* num 1) A refl)

payoff-shifted : (m n : ℕ) (d : ℚ) (a : ℕ → ℕ → ℚ) (x y : ℕ → ℚ) → sum_to m x ≡ one_ℚ → sum_to n y ≡ one_ℚ → mean_gain m n (shifted d a) x y ≡ mean_gain m n a x y +ℚ d
payoff-shifted m n d a x y k e =
    sum_to-same m _ (λ i. (x i *ℚ gain n a y i) +ℚ (d *ℚ x i)) (λ i h. ap (λ g. x i *ℚ g) (gain-shifted n d a y i e) ∙ ring rational_ring (x i ∷ gain n a y i ∷ d ∷ []) (A :* (B :+ C)) (A :* B :+ C :* A) refl) ∙ sum_to-add m (λ i. x i *ℚ gain n a y i) (λ i. d *ℚ x i) ∙ ap (λ s. mean_gain m n a x y +ℚ s) (sum_to-scale m d x ∙ ap (λ s. d *ℚ s) k ∙ ring rational_ring (d ∷ []) (A :* num 1) A refl)

best_in : (m n : ℕ) (d : ℚ) (a : ℕ → ℕ → ℚ) (x y : ℕ → ℚ) → sum_to m x ≡ one_ℚ → sum_to n y ≡ one_ℚ → IsBestReply m n a x y → IsBestReply m n (shifted d a) x y
best_in m n d a x y k e s i h =
    subst₂ (λ g v. g ≤ℚ v) (sym (gain-shifted n d a y i e)) (sym (payoff-shifted m n d a x y k e)) (linear (gain n a y i ∷ mean_gain m n a x y ∷ d ∷ []) ((at 0 ⟨≤⟩ at 1) ∷ []) ((at 0 ⟨+⟩ at 2) ⟨≤⟩ (at 1 ⟨+⟩ at 2)) (λ one z u v. omega (arith, ints)) (s i h, tt))

best_out : (m n : ℕ) (d : ℚ) (a : ℕ → ℕ → ℚ) (x y : ℕ → ℚ) → sum_to m x ≡ one_ℚ → sum_to n y ≡ one_ℚ → IsBestReply m n (shifted d a) x y → IsBestReply m n a x y
best_out m n d a x y k e s i h =
    linear (gain n a y i ∷ mean_gain m n a x y ∷ d ∷ []) (((at 0 ⟨+⟩ at 2) ⟨≤⟩ (at 1 ⟨+⟩ at 2)) ∷ []) (at 0 ⟨≤⟩ at 1) (λ one z u v. omega (arith, ints)) (subst₂ (λ g v. g ≤ℚ v) (gain-shifted n d a y i e) (payoff-shifted m n d a x y k e) (s i h), tt)

pub shift_in : {m n : ℕ} {a c : ℕ → ℕ → ℚ} {x y : ℕ → ℚ} (d e : ℚ) → IsBimatrixEquilibrium m n a c x y → IsBimatrixEquilibrium m n (shifted d a) (shifted e c) x y
shift_in {m} {n} {a} {c} {x} {y} d e s =
    record { first_mixed = s.first_mixed; second_mixed = s.second_mixed; first_best = best_in m n d a x y s.first_mixed.sum_is_one s.second_mixed.sum_is_one s.first_best; second_best = best_in n m e c y x s.second_mixed.sum_is_one s.first_mixed.sum_is_one s.second_best }

pub shift_out : {m n : ℕ} {a c : ℕ → ℕ → ℚ} {x y : ℕ → ℚ} (d e : ℚ) → IsBimatrixEquilibrium m n (shifted d a) (shifted e c) x y → IsBimatrixEquilibrium m n a c x y
shift_out {m} {n} {a} {c} {x} {y} d e s =
    record { first_mixed = s.first_mixed; second_mixed = s.second_mixed; first_best = best_out m n d a x y s.first_mixed.sum_is_one s.second_mixed.sum_is_one s.first_best; second_best = best_out n m e c y x s.second_mixed.sum_is_one s.first_mixed.sum_is_one s.second_best }

pub shift_keeps : (m n : ℕ) (a c : ℕ → ℕ → ℚ) (d e : ℚ) (x y : ℕ → ℚ) → IsBimatrixEquilibrium m n a c x y ↔ IsBimatrixEquilibrium m n (shifted d a) (shifted e c) x y
shift_keeps m n a c d e x y = (shift_in d e, shift_out d e)

pub shift_extreme : (m n : ℕ) (a c : ℕ → ℕ → ℚ) (d e : ℚ) (x y : ℕ → ℚ) → IsExtremeBimatrixEquilibrium m n a c x y ↔ IsExtremeBimatrixEquilibrium m n (shifted d a) (shifted e c) x y
shift_extreme m n a c d e x y = (to, from)
  where
    to : IsExtremeBimatrixEquilibrium m n a c x y → IsExtremeBimatrixEquilibrium m n (shifted d a) (shifted e c) x y
    to s = record { equilibrium = shift_in d e s.equilibrium; first_alone = λ p q k l. s.first_alone p q (shift_out d e k) (shift_out d e l); second_alone = λ p q k l. s.second_alone p q (shift_out d e k) (shift_out d e l) }

    from : IsExtremeBimatrixEquilibrium m n (shifted d a) (shifted e c) x y → IsExtremeBimatrixEquilibrium m n a c x y
    from s = record { equilibrium = shift_out d e s.equilibrium; first_alone = λ p q k l. s.first_alone p q (shift_in d e k) (shift_in d e l); second_alone = λ p q k l. s.second_alone p q (shift_in d e k) (shift_in d e l) }

-- with 1 - least each payoff is positive
pub lifted_positive : (m n : ℕ) (a : ℕ → ℕ → ℚ) (least : ℚ) → IsLowerBound m n a least → IsPositive m n (shifted (shift_of least) a)
lifted_positive m n a least h i j b k =
    linear (a i j ∷ least ∷ []) ((at 1 ⟨≤⟩ at 0) ∷ []) (lit (pos 0) ⟨<⟩ (at 0 ⟨+⟩ (lit (pos 1) ⟨-⟩ at 1))) (λ one z u v. omega (arith, ints)) (h i j b k, tt)
