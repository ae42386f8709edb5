-- The order of lines.
use Rattle.std.proofs.Common.{ℕ, zero, suc, ◌≤◌, ◌≡◌, ◌⊎◌, inl, inr, List, [], ◌∷◌, ◌++◌, length, drop, get_or, refl, sym, ap, ap₂, ◌∙◌, arith, tests}
use Rattle.std.specs.declared.cmp.Ordering.{Ordering}
use Rattle.std.specs.declared.cmp.Ordering.TheVariants.{Less, Equal, Greater}
use Rattle.std.specs.Ordering.{nat_cmp, is_lt, ordering_reverse, ordering_then}
use Rattle.std.specs.Cmp.{IsTotalOrder, IsStrictWeakOrder}
use Rattle.std.proofs.lemmas.Cmp.{lists_total, tied_itself}
use Rattle.std.proofs.lemmas.List.MinMax.{ranks_by}
use Rattle.std.specs.Cmp.Lexicographic.{slice_cmp}
use Rattle.rational.specs.Rational.{ℚ}
use Rattle.rational.proofs.Field.{lt_trans}
use Rattle.game_theory.specs.Lines.{StandsBefore}
use Rattle.rational.specs.Tests.{cmp_ℚ}
use Rattle.rational.proofs.TestLemmas.{cmp_ℚ-less, cmp_ℚ-equal, cmp_ℚ-greater}
use Rattle.enummixed.specs.Order.{greater_first, place_order, points_of, pair_order}

-- the order of numbers
zero_less : (n : ℕ) → nat_cmp 0 (suc n) ≡ Less
zero_less n = grind (arith, tests)

greater_zero : (n : ℕ) → nat_cmp (suc n) 0 ≡ Greater
greater_zero n = grind (arith, tests)

-- where one list ends the lengths decide
pub ended : (R : ℚ → ℚ → Ordering) (xs ys : List ℚ) (k : ℕ) → k ≤ length xs → k ≤ length ys → (length xs ≤ k) ⊎ (length ys ≤ k) → nat_cmp (length xs) (length ys) ≡ slice_cmp R (drop k xs) (drop k ys)
ended R [] [] zero h g e = refl
ended R [] (y ∷ ys) zero h g e = zero_less (length ys)
ended R (x ∷ xs) [] zero h g e = greater_zero (length xs)
ended R (x ∷ xs) (y ∷ ys) zero h g (inl e) = absurd (omega (arith, e))
ended R (x ∷ xs) (y ∷ ys) zero h g (inr e) = absurd (omega (arith, e))
ended R [] ys (suc k) h g e = absurd (omega (arith, h))
ended R (x ∷ xs) [] (suc k) h g e = absurd (omega (arith, g))
ended R (x ∷ xs) (y ∷ ys) (suc k) h g e = both (length xs) (length ys) ∙ ended R xs ys k (omega (arith, h)) (omega (arith, g)) (elim e [ inl l ↦ inl (omega (arith, l)) | inr l ↦ inr (omega (arith, l)) ])
  where
    both : (a b : ℕ) → nat_cmp (suc a) (suc b) ≡ nat_cmp a b
    both a b = grind (arith, tests)

-- "the greater number first" is a total order
greater_first-total : IsTotalOrder greater_first
greater_first-total = record { antisymm = antisymm; trans = trans; congr = congr }
  where
    antisymm : (x y : ℚ) → cmp_ℚ y x ≡ ordering_reverse (cmp_ℚ x y)
    antisymm x y = go (cmp_ℚ x y) refl
      where
        go : (o : Ordering) → cmp_ℚ x y ≡ o → cmp_ℚ y x ≡ ordering_reverse o
        go Less e = (cmp_ℚ-greater y x).1 ((cmp_ℚ-less x y).0 e)
        go Equal e = (cmp_ℚ-equal y x).1 (sym ((cmp_ℚ-equal x y).0 e))
        go Greater e = (cmp_ℚ-less y x).1 ((cmp_ℚ-greater x y).0 e)

    trans : (x y z : ℚ) → cmp_ℚ y x ≡ Less → cmp_ℚ z y ≡ Less → cmp_ℚ z x ≡ Less
    trans x y z e f = (cmp_ℚ-less z x).1 (lt_trans z y x ((cmp_ℚ-less z y).0 f) ((cmp_ℚ-less y x).0 e))

    congr : (x y z : ℚ) → cmp_ℚ y x ≡ Equal → cmp_ℚ z x ≡ cmp_ℚ z y
    congr x y z e = ap (λ v. cmp_ℚ z v) (sym ((cmp_ℚ-equal y x).0 e))

-- so are points ..
pub points-total : IsTotalOrder (slice_cmp greater_first)
points-total = lists_total greater_first-total

-- .. and places and pairs by their points
pub places-ordered : (points : List (List ℚ)) → IsStrictWeakOrder (λ i j. is_lt (place_order points i j))
places-ordered points = ranks_by points-total (λ i. get_or points i [])

pub pairs-ordered : (firsts seconds : List (List ℚ)) → IsStrictWeakOrder (λ p q. is_lt (pair_order firsts seconds p q))
pairs-ordered firsts seconds = ranks_by (lists_total points-total) (points_of firsts seconds)

-- a line that stands before another has the lesser points
before-less : (b d : List ℚ) → StandsBefore b d → slice_cmp greater_first b d ≡ Less
before-less [] d h = absurd h
before-less (x ∷ b) [] h = absurd h
before-less (x ∷ b) (y ∷ d) (inl l) = ap (λ o. ordering_then o (slice_cmp greater_first b d)) ((cmp_ℚ-less y x).1 l)
before-less (x ∷ b) (y ∷ d) (inr p) =
    ap (λ o. ordering_then o (slice_cmp greater_first b d)) ((cmp_ℚ-equal y x).1 (sym p.0)) ∙ before-less b d p.1

before-parts : (a b c d : List ℚ) → length a ≡ length c → StandsBefore (a ++ b) (c ++ d) → (slice_cmp greater_first a c ≡ Less) ⊎ ((a ≡ c) × StandsBefore b d)
before-parts [] b [] d e h = inr (refl, h)
before-parts [] b (y ∷ c) d e h = absurd (omega arith)
before-parts (x ∷ a) b [] d e h = absurd (omega arith)
before-parts (x ∷ a) b (y ∷ c) d e (inl l) = inl (ap (λ o. ordering_then o (slice_cmp greater_first a c)) ((cmp_ℚ-less y x).1 l))
before-parts (x ∷ a) b (y ∷ c) d e (inr p) = elim (before-parts a b c d (omega arith) p.1) [
  | inl l ↦ inl (ap (λ o. ordering_then o (slice_cmp greater_first a c)) ((cmp_ℚ-equal y x).1 (sym p.0)) ∙ l)
  | inr q ↦ inr (ap₂ (λ v w. v ∷ w) p.0 q.0, q.1)
]

pub before-ordered : (a b c d : List ℚ) → length a ≡ length c → StandsBefore (a ++ b) (c ++ d) → slice_cmp (slice_cmp greater_first) (a ∷ b ∷ []) (c ∷ d ∷ []) ≡ Less
before-ordered a b c d e h = elim (before-parts a b c d e h) [
  | inl l ↦ ap (λ o. ordering_then o (ordering_then (slice_cmp greater_first b d) Equal)) l
  | inr q ↦ ap (λ o. ordering_then o (ordering_then (slice_cmp greater_first b d) Equal)) (ap (λ v. slice_cmp greater_first a v) (sym q.0) ∙ tied_itself points-total a) ∙ ap (λ o. ordering_then o Equal) (before-less b d q.1)
]
