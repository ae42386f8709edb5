-- When steps on whole numbers fit.
use Rattle.std.proofs.Common.{ℕ, ℤ, pos, ◌≡◌, ◌↔◌, ◌*ℤ◌, ◌-ℤ◌, neg_ℤ, nat_abs, ◌/◌, refl, sym, ap, ap₂, ◌∙◌, subst, subst₂, List, [], ◌∷◌, arith, Option, Some, None, MatchOption, to_z, of_z, get_or, slice_index_or, ◌+◌, All}
use Rattle.std.specs.Int.{w128}
use Rattle.std.proofs.lemmas.Int.{to_z-of_z, fits_signed_from_abs}
use Rattle.frac128.proofs.DifferenceLemmas.{neg_fits}
use Rattle.rational.specs.Gcd.{gcd}
use Rattle.rational.specs.Rational.{ℚ, whole, ◌+ℚ◌, ◌-ℚ◌}
use Rattle.rational.proofs.IntegerRing.{integer_ring}
use Rattle.rational.proofs.Ring.{ring, num, ◌:*◌, ◌:-◌, :neg, A}
use Rattle.rational.proofs.PartLemmas.{whole-num, whole-den, whole-mul, whole-neg, whole-add}
use Rattle.frac128.specs.declared.steps.Unfit.{Unfit}
use Rattle.frac128.specs.Fraction.{PartFits, Fits}
use Rattle.frac128.specs.Steps.{num_beside, StepFits, IsFirstUnfit}
use Rattle.frac128.proofs.StepRunLemmas.{three-fit, first_unfit-next, first_unfit-same}
use Rattle.whole_rows.specs.Steps.{product_step, difference_step}

one_fits : (n : ℕ) → n ≡ 1 → PartFits (pos n)
one_fits n e = omega (arith, e)

pub whole_fits : (n : ℤ) → PartFits n ↔ Fits (whole n)
whole_fits n = (λ h. record { num = subst PartFits (sym (whole-num n)) h; den = one_fits (whole n).den (whole-den n) }, λ h. subst PartFits (whole-num n) h.num)

pub times_fits : (a b : ℤ) → PartFits (a *ℤ b) ↔ StepFits (product_step a b)
times_fits a b = subst (λ q. PartFits (a *ℤ b) ↔ Fits q) (whole-mul a b) (whole_fits (a *ℤ b))

pub whole-sub : (a b : ℤ) → whole a -ℚ whole b ≡ whole (a -ℤ b)
whole-sub a b = ap (λ q. whole a +ℚ q) (sym (whole-neg b)) ∙ sym (whole-add a (neg_ℤ b))

one_gcd : (d e : ℕ) → d ≡ 1 → e ≡ 1 → e / gcd d e ≡ 1
unfolding gcd
one_gcd d e p q = ap₂ (λ x y. y / gcd x y) p q

beside : (a b : ℤ) → num_beside (whole a) (whole b) ≡ a
beside a b = ap₂ (λ x y. x *ℤ pos y) (whole-num a) (one_gcd _ _ (whole-den a) (whole-den b)) ∙ ring integer_ring (a ∷ []) (A :* num 1) A refl

pub less_fits : (a b : ℤ) → PartFits a → PartFits b → PartFits (a -ℤ b) ↔ StepFits (difference_step a b)
less_fits a b ha hb = (λ h. record { left = subst PartFits (sym (beside a b)) ha; right = subst PartFits (sym (beside b a)) hb; top = subst PartFits (sym (ap₂ (λ x y. x -ℤ y) (beside a b) (beside b a))) h; den = one_fits _ (ap (λ (q : ℚ). q.den) (whole-sub a b) ∙ whole-den (a -ℤ b)) }, λ h. subst PartFits (ap₂ (λ x y. x -ℤ y) (beside a b) (beside b a)) h.top)

-- a product or a difference that does not fit, as the first step that does not
pub first_unfit : (a u b v : ℤ) (e : Unfit) → ¬ (PartFits (a *ℤ u)) → e ≡ product_step a u → IsFirstUnfit (product_step a u ∷ product_step b v ∷ difference_step (a *ℤ u) (b *ℤ v) ∷ []) e
first_unfit a u b v e h is = first_unfit-same (product_step a u) (product_step b v ∷ difference_step (a *ℤ u) (b *ℤ v) ∷ []) e (λ f. h ((times_fits a u).1 f)) is

pub second_unfit : (a u b v x : ℤ) (e : Unfit) → (x ≡ a *ℤ u) × PartFits x → ¬ (PartFits (b *ℤ v)) → e ≡ product_step b v → IsFirstUnfit (product_step a u ∷ product_step b v ∷ difference_step (a *ℤ u) (b *ℤ v) ∷ []) e
second_unfit a u b v x e g h is =
    first_unfit-next (product_step a u) (product_step b v ∷ difference_step (a *ℤ u) (b *ℤ v) ∷ []) e ((times_fits a u).0 (subst PartFits g.0 g.1)) (first_unfit-same (product_step b v) (difference_step (a *ℤ u) (b *ℤ v) ∷ []) e (λ f. h ((times_fits b v).1 f)) is)

pub all_fit : (a u b v : ℤ) → PartFits (a *ℤ u) → PartFits (b *ℤ v) → PartFits ((a *ℤ u) -ℤ (b *ℤ v)) → All StepFits (product_step a u ∷ product_step b v ∷ difference_step (a *ℤ u) (b *ℤ v) ∷ [])
all_fit a u b v f g h = (three-fit (product_step a u) (product_step b v) (difference_step (a *ℤ u) (b *ℤ v))).1 ((times_fits a u).0 f, (times_fits b v).0 g, (less_fits (a *ℤ u) (b *ℤ v) f g).0 h)

pub third_unfit : (a u b v x y : ℤ) (e : Unfit) → ¬ (All StepFits (product_step a u ∷ product_step b v ∷ difference_step (a *ℤ u) (b *ℤ v) ∷ [])) → (x ≡ a *ℤ u) × PartFits x → (y ≡ b *ℤ v) × PartFits y → e ≡ difference_step x y → IsFirstUnfit (product_step a u ∷ product_step b v ∷ difference_step (a *ℤ u) (b *ℤ v) ∷ []) e
third_unfit a u b v x y e h p q is =
    let f = subst PartFits p.0 p.1 in let g = subst PartFits q.0 q.1 in
    first_unfit-next (product_step a u) (product_step b v ∷ difference_step (a *ℤ u) (b *ℤ v) ∷ []) e ((times_fits a u).0 f) (first_unfit-next (product_step b v) (difference_step (a *ℤ u) (b *ℤ v) ∷ []) e ((times_fits b v).0 g)
    (first_unfit-same (difference_step (a *ℤ u) (b *ℤ v)) [] e (λ k. h ((three-fit (product_step a u) (product_step b v) (difference_step (a *ℤ u) (b *ℤ v))).1 ((times_fits a u).0 f, (times_fits b v).0 g, k))) (is ∙ ap₂ difference_step p.0 q.0)))

-- what is told by the three numbers
pub told : (a u b v x y : ℤ) (o : Option ℤ) → (x ≡ a *ℤ u) × PartFits x → (y ≡ b *ℤ v) × PartFits y → MatchOption o (¬ (PartFits (x -ℤ y))) (λ d. (d ≡ x -ℤ y) × PartFits d) → MatchOption o (¬ (All StepFits (product_step a u ∷ product_step b v ∷ difference_step (a *ℤ u) (b *ℤ v) ∷ []))) (λ d. (d ≡ (a *ℤ u) -ℤ (b *ℤ v)) × PartFits d × All StepFits (product_step a u ∷ product_step b v ∷ difference_step (a *ℤ u) (b *ℤ v) ∷ []))
told a u b v x y None p q h = λ f. h (subst PartFits (sym (ap₂ (λ x y. x -ℤ y) p.0 q.0)) ((less_fits (a *ℤ u) (b *ℤ v) (subst PartFits p.0 p.1) (subst PartFits q.0 q.1)).1 ((three-fit (product_step a u) (product_step b v) (difference_step (a *ℤ u) (b *ℤ v))).0 f).2))
told a u b v x y (Some d) p q h = (h.0 ∙ ap₂ (λ x y. x -ℤ y) p.0 q.0, h.1, all_fit a u b v (subst PartFits p.0 p.1) (subst PartFits q.0 q.1) (subst PartFits (h.0 ∙ ap₂ (λ x y. x -ℤ y) p.0 q.0) h.1))

pub not_first : (a u b v : ℤ) → ¬ (PartFits (a *ℤ u)) → All StepFits (product_step a u ∷ product_step b v ∷ difference_step (a *ℤ u) (b *ℤ v) ∷ []) → ⊥
not_first a u b v h f = h ((times_fits a u).1 ((three-fit (product_step a u) (product_step b v) (difference_step (a *ℤ u) (b *ℤ v))).0 f).0)

pub not_second : (a u b v : ℤ) → ¬ (PartFits (b *ℤ v)) → All StepFits (product_step a u ∷ product_step b v ∷ difference_step (a *ℤ u) (b *ℤ v) ∷ []) → ⊥
not_second a u b v h f = h ((times_fits b v).1 ((three-fit (product_step a u) (product_step b v) (difference_step (a *ℤ u) (b *ℤ v))).0 f).1)

-- what holds of four numbers holds of the same ones
pub of_same : (P : ℤ → ℤ → ℤ → ℤ → Type 0) (a u b v a' u' b' v' : ℤ) → a ≡ a' → u ≡ u' → b ≡ b' → v ≡ v' → P a u b v → P a' u' b' v'
of_same P a u b v a' u' b' v' e f g h p = subst₂ (λ b v. P a' u' b v) g h (subst₂ (λ a u. P a u b v) e f p)

-- a number that fits is read as it was stored
pub read_back : (n : ℤ) → PartFits n → to_z w128 (of_z w128 n) ≡ n
read_back n h = to_z-of_z w128 n (fits_signed_from_abs w128 n h)

-- so is a number of a list of such numbers
pub read_at : (xs : List ℤ) (k : ℕ) → ((k : ℕ) → PartFits (get_or xs k (pos 0))) → to_z w128 (of_z w128 (slice_index_or xs k (pos 0))) ≡ get_or xs k (pos 0)
read_at xs k h = read_back (get_or xs k (pos 0)) (h k)

pub plus_none : (k : ℕ) → k ≡ k + 0
plus_none k = omega arith

-- and the number at the beginning of a row
pub read_first : (xs : List ℤ) (k : ℕ) → ((k : ℕ) → PartFits (get_or xs k (pos 0))) → to_z w128 (of_z w128 (slice_index_or xs k (pos 0))) ≡ get_or xs (k + 0) (pos 0)
read_first xs k h = read_at xs k h ∙ ap (λ n. get_or xs n (pos 0)) (plus_none k)

-- a number with its sign turned
pub turned_back : (n : ℤ) → PartFits n → to_z w128 (of_z w128 (pos 0 -ℤ to_z w128 (of_z w128 n))) ≡ neg_ℤ n
turned_back n h = ap (λ x. to_z w128 (of_z w128 (pos 0 -ℤ x))) (read_back n h) ∙ ap (λ x. to_z w128 (of_z w128 x)) (ring integer_ring (n ∷ []) (num 0 :- A) (:neg A) refl) ∙ read_back (neg_ℤ n) (neg_fits n h)

pub read_size : (n : ℤ) (k : ℕ) → PartFits n → k ≡ nat_abs (to_z w128 (of_z w128 n)) → k ≡ nat_abs n
read_size n k h e = e ∙ ap nat_abs (read_back n h)
