-- Numbers that are not none have a greatest and a least one.
use Rattle.std.proofs.Common.{suc, ◌≡◌, ◌⊎◌, inl, inr, List, [], ◌∷◌, All, refl, arith}
use Rattle.std.specs.Prelude.{Any}
use Rattle.std.proofs.lemmas.List.Elements.{All-nil, All-cons, All-weaker}
use Rattle.rational.specs.Rational.{ℚ, ◌≤ℚ◌}
use Rattle.rational.specs.Extremes.{IsGreatest, IsLeast}
use Rattle.rational.proofs.Field.{le_total, le_trans}

module _ (R : ℚ → ℚ → Type 0) (total : (a b : ℚ) → R a b ⊎ R b a) (trans : (a b c : ℚ) → R a b → R b c → R a c) where
  -- one of these numbers, before which all of them come
  abbrev IsLast : List ℚ → ℚ → Type 0
  IsLast xs v = Any (λ y. y ≡ v) xs × All (λ y. R y v) xs

  -- the first is one, where it comes after all others
  last-first : (x : ℚ) (xs : List ℚ) → All (λ y. R y x) xs → IsLast (x ∷ xs) x
  last-first x xs before = ((0, x, omega arith, refl, refl), All-cons (λ y. R y x) x xs (elim (total x x) [ inl r ↦ r | inr r ↦ r ]) before)

  -- that of the others is one, where the first comes before it
  last-later : (x v : ℚ) (xs : List ℚ) → R x v → IsLast xs v → IsLast (x ∷ xs) v
  last-later x v xs before (found, all) = ((suc found.0, found.1, omega (arith, found.2), found.3, found.4), All-cons (λ y. R y v) x xs before all)

  -- numbers have one
  last-of : (x : ℚ) (xs : List ℚ) → (v : ℚ) × IsLast (x ∷ xs) v
  last-of x [] = (x, last-first x [] (All-nil (λ y. R y x)))
  last-of x (y ∷ ys) =
      let rest = last-of y ys in
      elim (total x rest.0) [
        | inl before ↦ (rest.0, last-later x rest.0 (y ∷ ys) before rest.1)
        | inr after ↦ (x, last-first x (y ∷ ys) (All-weaker (λ z. R z rest.0) (λ z. R z x) (λ z r. trans z rest.0 x r after) (y ∷ ys) rest.1.1))
      ]

-- there is a greatest number
pub greatest-of : (x : ℚ) (xs : List ℚ) → (v : ℚ) × IsGreatest (x ∷ xs) v
greatest-of x xs = let last = last-of (λ a b. a ≤ℚ b) le_total le_trans x xs in (last.0, record { is_one = last.1.0; greatest = last.1.1 })

-- and a least one
pub least-of : (x : ℚ) (xs : List ℚ) → (v : ℚ) × IsLeast (x ∷ xs) v
least-of x xs = let last = last-of (λ a b. b ≤ℚ a) (λ a b. le_total b a) (λ a b c l m. le_trans c b a m l) x xs in (last.0, record { is_one = last.1.0; least = last.1.1 })
