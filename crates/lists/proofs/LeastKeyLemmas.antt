-- The item with the least key, and the numbers of a range that pass a test.
use Rattle.std.proofs.Common.{ℕ, zero, suc, Bool, true, false, cond, List, [], ◌∷◌, ◌<◌, ◌≤◌, ◌+◌, ◌≡◌, ◌↔◌, IsTrue, sym, ap, subst, refl, ◌∙◌, arith, inl, inr}
use Rattle.std.proofs.lemmas.Bool.{cases_eq, false≢true}
use Rattle.std.proofs.lemmas.Cmp.{ranked}
use Rattle.std.specs.Fn.{CalledAt}
use Rattle.std.specs.Iterator.{KeyTurn}
use Rattle.std.specs.List.{AllByRecursion, FoldsTo, filter, range_with_len}
use Rattle.std.specs.Ordering.{nat_cmp, min_by_ordering}
use Rattle.std.specs.declared.cmp.Ordering.{Ordering}
use Rattle.std.specs.declared.cmp.Ordering.TheVariants.{Less, Equal, Greater}
use denote.Param.Members.{Mut}
use denote.Ref.{Bor}

-- ---- the least key
module _ {A F : Type 0} (g : Mut F (Bor A × Unit {0}) ℕ) (key : A → ℕ) (f : F)
    (gives : (x : A) (k : ℕ) (q : F) → CalledAt g f x k q → (q ≡ f) × (k ≡ key x)) where
  -- of two items, one is taken whose key is not above the other's
  kept : (o : Ordering) (x z : A) (n k : ℕ) → o ≡ nat_cmp n k → n ≡ key x → k ≡ key z
      → (min_by_ordering o n k ≡ key (min_by_ordering o x z)) × (key (min_by_ordering o x z) ≤ key x) × (key (min_by_ordering o x z) ≤ key z)
  kept Less x z n k e a b = let l : n < k = ranked n k Less e in (a, omega arith, omega (arith, l, a, b))
  kept Equal x z n k e a b = let l : n ≡ k = ranked n k Equal e in (a, omega arith, omega (arith, l, a, b))
  kept Greater x z n k e a b = let l : k < n = ranked n k Greater e in (b, omega (arith, l, a, b), omega arith)

  one_of : (P : A → Type 0) (o : Ordering) (x z : A) → P x → P z → P (min_by_ordering o x z)
  one_of P Less x z a b = a
  one_of P Equal x z a b = a
  one_of P Greater x z a b = b

  -- of all items, one is taken whose key is not above those of the others
  pub least : (xs : List A) (x y : A) (n : ℕ) (h : F) (q : F × ℕ) → h ≡ f → n ≡ key x
      → FoldsTo {P = (F × ℕ) × A} (KeyTurn min_by_ordering min_by_ordering g nat_cmp) ((h, n), x) xs (q, y)
      → ((P : A → Type 0) → P x → AllByRecursion P xs → P y) × AllByRecursion (λ z. key y ≤ key z) (x ∷ xs)
  least [] x y n h q a e c =
      let s : x ≡ y = ap (λ p. p.1) c in
      (λ P p _. subst P s p, (subst (λ z. key y ≤ key z) (sym s) (omega arith), tt))
  least (z ∷ xs) x y n h q a e c =
      let j = c.0 in
      let turn = c.1 in
      let called = gives z turn.0 j.0.0 (subst (λ w. CalledAt g w z turn.0 j.0.0) a turn.2) in
      let two = kept turn.1 x z n turn.0 (sym turn.3) e called.1 in
      let rest = least xs j.1 y j.0.1 j.0.0 q called.0 (turn.4 ∙ two.0 ∙ ap key (sym turn.5)) c.2 in
      let best : key y ≤ key (min_by_ordering turn.1 x z) = subst (λ w. key y ≤ key w) turn.5 rest.1.0 in (
        (λ P p all. rest.0 P (subst P (sym turn.5) (one_of P turn.1 x z p all.0)) all.1),
        (omega (arith, best, two.1), (omega (arith, best, two.2), rest.1.1)),
      )

-- ---- the numbers of a range that pass a test
module _ (P : ℕ → Type 0) (test : ℕ → Bool) where
  kept_one : (b : Bool) (a : ℕ) (xs : List ℕ) → (b ≡ true → P a) → AllByRecursion P xs → AllByRecursion P (cond b (a ∷ xs) xs)
  kept_one true a xs p h = (p refl, h)
  kept_one false a xs p h = h

  pub all_that_pass : (a n : ℕ) → ((j : ℕ) → a ≤ j → j < a + n → test j ≡ true → P j) → AllByRecursion P (filter test (range_with_len a n))
  all_that_pass a zero h = tt
  all_that_pass a (suc n) h =
      kept_one (test a) a (filter test (range_with_len (a + 1) n)) (h a (omega arith) (omega arith))
      (all_that_pass (a + 1) n (λ j l r. h j (omega (arith, l)) (omega (arith, r))))

  of_one : (b : Bool) (a : ℕ) (xs : List ℕ) → AllByRecursion P (cond b (a ∷ xs) xs) → (b ≡ true → P a) × AllByRecursion P xs
  of_one true a xs h = (λ _. h.0, h.1)
  of_one false a xs h = ((λ e. absurd (false≢true e)), h)

  pub each_that_passes : (a n j : ℕ) → AllByRecursion P (filter test (range_with_len a n)) → a ≤ j → j < a + n → test j ≡ true → P j
  each_that_passes a zero j h l r t = absurd (omega (arith, l, r))
  each_that_passes a (suc n) j h l r t =
      let first = of_one (test a) a (filter test (range_with_len (a + 1) n)) h in
      elim (cases_eq a j) [
        | inl same ↦ subst P same (first.0 (subst (λ i. test i ≡ true) (sym same) t))
        | inr apart ↦ each_that_passes (a + 1) n j first.1 (omega (arith, l, apart)) (omega (arith, r)) t
      ]

-- two tests of one fact answer the same
pub equal_tests : (P : Type 0) (a b : Bool) → IsTrue a ↔ P → IsTrue b ↔ P → a ≡ b
equal_tests P true true f g = refl
equal_tests P false false f g = refl
equal_tests P true false f g = sym (g.1 (f.0 refl))
equal_tests P false true f g = f.1 (g.0 refl)
