-- Means: sums of values, each times its weight, where the weights are not negative and sum to 1.
use Rattle.std.proofs.Common.{ℕ, ◌<◌, ◌≡◌, ◌⊎◌, ◌↔◌, inl, inr, [], ◌∷◌, refl, sym, ap, ◌∙◌, subst}
use Rattle.rational.specs.Rational.{ℚ, ◌*ℚ◌, ◌-ℚ◌, zero_ℚ, one_ℚ, ◌≤ℚ◌}
use Rattle.rational.specs.Sum.{sum_to}
use Rattle.rational.proofs.RationalRing.{rational_ring}
use Rattle.rational.proofs.Rules.{zero-*ℚ, one-*ℚ}
use Rattle.rational.proofs.Ring.{ring, ◌:*◌, ◌:-◌, A, B, C}
use Rattle.rational.proofs.Field.{nonneg-mul, le-mul_left, le-sub, eq-sub}
use Rattle.rational.proofs.InverseLemmas.{no_divisors}
use Rattle.rational.proofs.SumLemmas.{sum_to-same, sum_to-sub, sum_to-scale_right, sum_to-le, each_zero}

-- the mean of one value is that value
pub mean-constant : (n : ℕ) (x : ℕ → ℚ) (m : ℚ) → sum_to n x ≡ one_ℚ → sum_to n (λ i. x i *ℚ m) ≡ m
mean-constant n x m one = sum_to-scale_right n m x ∙ ap (λ y. y *ℚ m) one ∙ one-*ℚ m

-- a mean of values that are all at most m is at most m
pub mean_le : (n : ℕ) (x v : ℕ → ℚ) (m : ℚ) → ((i : ℕ) → i < n → zero_ℚ ≤ℚ x i) → sum_to n x ≡ one_ℚ → ((i : ℕ) → i < n → v i ≤ℚ m) → sum_to n (λ i. x i *ℚ v i) ≤ℚ m
mean_le n x v m weights one top =
    subst (λ y. sum_to n (λ i. x i *ℚ v i) ≤ℚ y) (mean-constant n x m one) (sum_to-le n (λ i. x i *ℚ v i) (λ i. x i *ℚ m) (λ i h. le-mul_left (x i) (v i) m (weights i h) (top i h)))

-- the weighted distances of the values to m sum to the distance of the mean
pub mean_gap : (n : ℕ) (x v : ℕ → ℚ) (m : ℚ) → sum_to n x ≡ one_ℚ → sum_to n (λ i. x i *ℚ (m -ℚ v i)) ≡ m -ℚ sum_to n (λ i. x i *ℚ v i)
mean_gap n x v m one =
    sum_to-same n _ (λ i. (x i *ℚ m) -ℚ (x i *ℚ v i)) (λ i h. ring rational_ring (x i ∷ m ∷ v i ∷ []) (A :* (B :- C)) (A :* B :- A :* C) refl)
    ∙ sum_to-sub n (λ i. x i *ℚ m) (λ i. x i *ℚ v i) ∙ ap (λ y. y -ℚ sum_to n (λ i. x i *ℚ v i)) (mean-constant n x m one)

-- a mean reaches the greatest value exactly where it weighs greatest values alone
pub support : (n : ℕ) (x v : ℕ → ℚ) (m : ℚ) → ((i : ℕ) → i < n → zero_ℚ ≤ℚ x i) → sum_to n x ≡ one_ℚ → ((i : ℕ) → i < n → v i ≤ℚ m) → (sum_to n (λ i. x i *ℚ v i) ≡ m) ↔ ((i : ℕ) → i < n → (x i ≡ zero_ℚ) ⊎ (v i ≡ m))
support n x v m weights one top = (to, from)
  where
    to : sum_to n (λ i. x i *ℚ v i) ≡ m → (i : ℕ) → i < n → (x i ≡ zero_ℚ) ⊎ (v i ≡ m)
    to e i h = elim (no_divisors (x i) (m -ℚ v i) (each_zero n (λ i. x i *ℚ (m -ℚ v i)) (λ i k. nonneg-mul (x i) (m -ℚ v i) (weights i k) ((le-sub (v i) m).0 (top i k))) (mean_gap n x v m one ∙ (eq-sub m (sum_to n (λ i. x i *ℚ v i))).0 (sym e)) i h)) [
      | inl z ↦ inl z
      | inr d ↦ inr (sym ((eq-sub m (v i)).1 d))
    ]

    from : ((i : ℕ) → i < n → (x i ≡ zero_ℚ) ⊎ (v i ≡ m)) → sum_to n (λ i. x i *ℚ v i) ≡ m
    from c = sum_to-same n (λ i. x i *ℚ v i) (λ i. x i *ℚ m) (λ i h. elim (c i h) [
      | inl z ↦ ap (λ y. y *ℚ v i) z ∙ zero-*ℚ (v i) ∙ sym (zero-*ℚ m) ∙ ap (λ y. y *ℚ m) (sym z)
      | inr d ↦ ap (λ y. x i *ℚ y) d
    ]) ∙ mean-constant n x m one
