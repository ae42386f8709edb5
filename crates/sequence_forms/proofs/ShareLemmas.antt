-- The shares of weights in the weight before.
use Rattle.std.proofs.Common.{ℕ, pos, inl, inr, [], ◌∷◌, ◌<◌, ◌≡◌, ◌≢◌, Bool, true, false, Decides, refl, sym, ap, ◌∙◌, subst, arith}
use Rattle.std.specs.Prelude.{if◌then◌else◌}
use Rattle.std.proofs.lemmas.Int.{ints}
use Rattle.std.proofs.lemmas.Bool.Decides.{not_from_Decides}
use Rattle.rational.specs.Rational.{ℚ, ◌*ℚ◌, ◌≤ℚ◌, ◌<ℚ◌, inv_ℚ, frac, whole, zero_ℚ, one_ℚ}
use Rattle.rational.specs.Tests.{eq_ℚ}
use Rattle.rational.specs.Sum.{sum_to}
use Rattle.rational.proofs.RationalRing.{rational_ring, *ℚ-one}
use Rattle.rational.proofs.Rules.{*ℚ-zero}
use Rattle.rational.proofs.Decide.{eq_ℚ-decides}
use Rattle.rational.proofs.Field.{nonneg-mul, eq_or_lt_of_le, le_of_lt, *ℚ-inv}
use Rattle.rational.proofs.InverseLemmas.{ne_zero_of_pos, inv_pos, frac-inv}
use Rattle.rational.proofs.PartLemmas.{whole-lt}
use Rattle.rational.proofs.SumLemmas.{sum_to-constant, sum_to-scale_right}
use Rattle.rational.proofs.Ring.{ring, ◌:*◌, A, B, C}
use Rattle.sequence_forms.specs.PlanBehaviour.{share}

-- the number of some actions is positive
whole_pos : (n : ℕ) → 0 < n → zero_ℚ <ℚ whole (pos n)
whole_pos n h = (whole-lt (pos 0) (pos n)).1 (omega (arith, ints))

-- 1 divided by their number
even-is : (n : ℕ) → 0 < n → frac (pos 1) n ≡ inv_ℚ (whole (pos n))
even-is n h = sym (frac-inv n 1 h (omega arith))

-- even shares sum to 1
even_sum : (n : ℕ) → 0 < n → sum_to n (λ a. frac (pos 1) n) ≡ one_ℚ
even_sum n h =
    sum_to-constant n (frac (pos 1) n) ∙ ap (λ x. whole (pos n) *ℚ x) (even-is n h) ∙ *ℚ-inv (whole (pos n)) (ne_zero_of_pos (whole (pos n)) (whole_pos n h))

-- an even share is not negative
even_not_negative : (n : ℕ) → 0 < n → zero_ℚ ≤ℚ frac (pos 1) n
even_not_negative n h = subst (λ x. zero_ℚ ≤ℚ x) (sym (even-is n h)) (le_of_lt zero_ℚ (inv_ℚ (whole (pos n))) (inv_pos (whole (pos n)) (whole_pos n h)))

-- a share times the weight before is the weight, where this is 0 after the weight 0
pub share-times : (n : ℕ) (before weight : ℚ) → (before ≡ zero_ℚ → weight ≡ zero_ℚ) → share n before weight *ℚ before ≡ weight
share-times n before weight h = go (eq_ℚ before zero_ℚ) (eq_ℚ-decides before zero_ℚ)
  where
    go : (b : Bool) → Decides b (before ≡ zero_ℚ) → (if b then frac (pos 1) n else weight *ℚ inv_ℚ before) *ℚ before ≡ weight
    go true d = ap (λ x. frac (pos 1) n *ℚ x) (d.0 refl) ∙ *ℚ-zero (frac (pos 1) n) ∙ sym (h (d.0 refl))
    go false d =
        ring rational_ring (weight ∷ inv_ℚ before ∷ before ∷ []) (A :* B :* C) (A :* (C :* B)) refl
        ∙ ap (λ x. weight *ℚ x) (*ℚ-inv before (not_from_Decides false d refl)) ∙ *ℚ-one weight

-- the shares of weights that sum to the weight before sum to 1
pub share_sum : (n : ℕ) (before : ℚ) (weights : ℕ → ℚ) → 0 < n → sum_to n weights ≡ before → sum_to n (λ a. share n before (weights a)) ≡ one_ℚ
share_sum n before weights p h = go (eq_ℚ before zero_ℚ) (eq_ℚ-decides before zero_ℚ)
  where
    go : (b : Bool) → Decides b (before ≡ zero_ℚ) → sum_to n (λ a. if b then frac (pos 1) n else weights a *ℚ inv_ℚ before) ≡ one_ℚ
    go true d = even_sum n p
    go false d = sum_to-scale_right n (inv_ℚ before) weights ∙ ap (λ x. x *ℚ inv_ℚ before) h ∙ *ℚ-inv before (not_from_Decides false d refl)

-- a share is not negative
pub share-not_negative : (n : ℕ) (before weight : ℚ) → 0 < n → zero_ℚ ≤ℚ before → zero_ℚ ≤ℚ weight → zero_ℚ ≤ℚ share n before weight
share-not_negative n before weight p u v = go (eq_ℚ before zero_ℚ) (eq_ℚ-decides before zero_ℚ)
  where
    inverse : before ≢ zero_ℚ → zero_ℚ ≤ℚ inv_ℚ before
    inverse ne = elim (eq_or_lt_of_le zero_ℚ before u) [ inl e ↦ absurd (ne (sym e)) | inr l ↦ le_of_lt zero_ℚ (inv_ℚ before) (inv_pos before l) ]

    go : (b : Bool) → Decides b (before ≡ zero_ℚ) → zero_ℚ ≤ℚ (if b then frac (pos 1) n else weight *ℚ inv_ℚ before)
    go true d = even_not_negative n p
    go false d = nonneg-mul weight (inv_ℚ before) v (inverse (not_from_Decides false d refl))
