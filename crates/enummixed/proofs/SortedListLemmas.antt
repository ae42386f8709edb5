-- Every list has its elements in order
use Rattle.std.proofs.Common.{ℕ, zero, suc, ◌+◌, ◌≡◌, Bool, true, false, List, [], ◌∷◌, get_or, refl, subst, arith}
use Rattle.std.specs.Prelude.{IsPermutation, IsSortedBy}
use Rattle.std.specs.Cmp.{IsStrictWeakOrder}
use Rattle.std.proofs.lemmas.List.Sorted.{IsPermutation-refl, IsPermutation-cons, IsPermutation-swap, IsPermutation-trans}

module _ {X : Type 0} (lt : X → X → Bool) (order : IsStrictWeakOrder lt) where
  -- x may stand before these
  abbrev MayPrecede : X → List X → Type 0
  MayPrecede x [] = Unit {0}
  MayPrecede x (y ∷ ys) = lt y x ≡ false

  abbrev Ascends : List X → Type 0
  Ascends [] = Unit {0}
  Ascends (x ∷ xs) = MayPrecede x xs × Ascends xs

  plus : (k : ℕ) → suc (k + 1) ≡ suc k + 1
  plus k = omega arith

  sorted-after : (x y : X) (xs : List X) → lt y x ≡ false → IsSortedBy lt (y ∷ xs) → IsSortedBy lt (x ∷ y ∷ xs)
  sorted-after x y xs e s zero d z l = e
  sorted-after x y xs e s (suc k) d z l = subst (λ n. lt (get_or (x ∷ y ∷ xs) n d) (get_or (y ∷ xs) k d) ≡ false) (plus k) (s k d (omega arith) (omega arith))

  ascends-sorted : (xs : List X) → Ascends xs → IsSortedBy lt xs
  ascends-sorted [] a = λ k d z l. absurd (omega arith)
  ascends-sorted (x ∷ []) a = λ k d z l. absurd (omega arith)
  ascends-sorted (x ∷ y ∷ xs) a = sorted-after x y xs a.0 (ascends-sorted (y ∷ xs) a.1)

  -- these with y in its place, after what may precede both
  abbrev Placed : X → List X → Type 0
  Placed y xs = (ys : List X) × IsPermutation (y ∷ xs) ys × Ascends ys × ((x : X) → MayPrecede x xs → lt y x ≡ false → MayPrecede x ys)

  placed-before : (y z : X) (zs : List X) → Ascends (z ∷ zs) → Placed y zs → (b : Bool) → lt y z ≡ b → Placed y (z ∷ zs)
  placed-before y z zs a r true e = (y ∷ z ∷ zs, IsPermutation-refl (y ∷ z ∷ zs), (order.one_way y z e, a), λ x h l. l)
  placed-before y z zs a r false e =
      (z ∷ r.0, IsPermutation-trans (y ∷ z ∷ zs) (z ∷ y ∷ zs) (z ∷ r.0) (IsPermutation-swap (y ∷ z ∷ zs) (z ∷ y ∷ zs) 0 1 (omega arith) (omega arith) refl) (IsPermutation-cons z (y ∷ zs) r.0 r.1), (r.3 z a.0 e, r.2), λ x h l. h)

  placed : (y : X) (xs : List X) → Ascends xs → Placed y xs
  placed y [] a = (y ∷ [], IsPermutation-refl (y ∷ []), (tt, tt), λ x h l. l)
  placed y (z ∷ zs) a = placed-before y z zs a (placed y zs a.1) (lt y z) refl

  ascending : (xs : List X) → (ys : List X) × IsPermutation xs ys × Ascends ys
  ascending [] = ([], IsPermutation-refl [], tt)
  ascending (x ∷ xs) =
      let r = ascending xs in
      let s = placed x r.0 r.2 in
      (s.0, IsPermutation-trans (x ∷ xs) (x ∷ r.0) s.0 (IsPermutation-cons x xs r.0 r.1) s.1, s.2)

  pub sorted : (xs : List X) → (ys : List X) × IsPermutation xs ys × IsSortedBy lt ys
  sorted xs = let r = ascending xs in (r.0, r.1, ascends-sorted r.0 r.2)
