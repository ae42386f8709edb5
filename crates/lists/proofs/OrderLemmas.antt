-- The order of lists: an ascending list is determined by its members, and has each of them once.
use Rattle.std.proofs.Common.{ℕ, zero, suc, ◌<◌, ◌≡◌, inl, inr, List, [], ◌∷◌, length, get_or, All, Contains, refl, sym, ◌∙◌, subst, arith}
use Rattle.std.specs.List.{AllPairs}
use Rattle.std.proofs.lemmas.List.Kept.{AllPairs-cons}
use Rattle.lists.specs.Laws.{ListsAreOrdered}
use Rattle.lists.specs.Orders.{ComesBefore, AreAscending}
use Rattle.lists.proofs.ElementLemmas.{determined_by-members}

-- no list comes before itself
pub ComesBefore-irrefl : (x : List ℕ) → ComesBefore x x → ⊥
ComesBefore-irrefl [] h = h
ComesBefore-irrefl (a ∷ x) (inl l) = omega arith
ComesBefore-irrefl (a ∷ x) (inr p) = ComesBefore-irrefl x p.1

-- a list before a second that is before a third comes before the third
pub ComesBefore-trans : (x y z : List ℕ) → ComesBefore x y → ComesBefore y z → ComesBefore x z
ComesBefore-trans [] y z h g = absurd h
ComesBefore-trans (a ∷ x) [] z h g = absurd h
ComesBefore-trans (a ∷ x) (b ∷ y) [] h g = absurd g
ComesBefore-trans (a ∷ x) (b ∷ y) (c ∷ z) (inl l) (inl k) = inl (omega arith)
ComesBefore-trans (a ∷ x) (b ∷ y) (c ∷ z) (inl l) (inr q) = inl (omega (arith, q.0))
ComesBefore-trans (a ∷ x) (b ∷ y) (c ∷ z) (inr p) (inl k) = inl (omega (arith, p.0))
ComesBefore-trans (a ∷ x) (b ∷ y) (c ∷ z) (inr p) (inr q) = inr (p.0 ∙ q.0, ComesBefore-trans x y z p.1 q.1)

-- the lists after the first ascend
pub AreAscending-rest : (x : List ℕ) (xs : List (List ℕ)) → AreAscending (x ∷ xs) → AreAscending xs
AreAscending-rest x [] h = tt
AreAscending-rest x (y ∷ xs) h = h.1

-- the first list comes before each later one
pub AreAscending-first : (x : List ℕ) (xs : List (List ℕ)) → AreAscending (x ∷ xs) → All (ComesBefore x) xs
AreAscending-first x [] h k d l = absurd (omega arith)
AreAscending-first x (y ∷ xs) h zero d l = h.0
AreAscending-first x (y ∷ xs) h (suc k) d l = ComesBefore-trans x y (get_or xs k d) h.0 (AreAscending-first y xs h.1 k d (omega arith))

-- each list comes before all later ones
pub AllPairs-from_ascending : (xs : List (List ℕ)) → AreAscending xs → AllPairs ComesBefore xs
AllPairs-from_ascending [] h = λ i j d l k. absurd (omega arith)
AllPairs-from_ascending (x ∷ xs) h = AllPairs-cons ComesBefore x xs (AreAscending-first x xs h) (AllPairs-from_ascending xs (AreAscending-rest x xs h))

-- ---- each member once
-- the first list is none of the later ones
AreAscending-fresh : (x : List ℕ) (xs : List (List ℕ)) (k : ℕ) (d : List ℕ) → AreAscending (x ∷ xs) → k < length xs → x ≡ get_or xs k d → ⊥
AreAscending-fresh x xs k d o l e = ComesBefore-irrefl x (subst (λ v. ComesBefore x v) (sym e) (AreAscending-first x xs o k d l))

-- equal members stand at one place
pub AreAscending-place : (xs : List (List ℕ)) (k n : ℕ) (d : List ℕ) → AreAscending xs → k < length xs → n < length xs → get_or xs k d ≡ get_or xs n d → k ≡ n
AreAscending-place [] k n d o l m e = absurd (omega arith)
AreAscending-place (x ∷ xs) zero zero d o l m e = refl
AreAscending-place (x ∷ xs) zero (suc n) d o l m e = absurd (AreAscending-fresh x xs n d o (omega arith) e)
AreAscending-place (x ∷ xs) (suc k) zero d o l m e = absurd (AreAscending-fresh x xs k d o (omega arith) (sym e))
AreAscending-place (x ∷ xs) (suc k) (suc n) d o l m e =
    let same : k ≡ n = AreAscending-place xs k n d (AreAscending-rest x xs o) (omega arith) (omega arith) e in
    omega arith

-- ---- the members determine the list
-- each member of the first list is one of the second
abbrev pub AreWithin : List (List ℕ) → List (List ℕ) → Type 0
AreWithin xs ys = (z : List ℕ) → Contains xs z → Contains ys z

-- two ascending lists with the same members are equal
pub AreAscending-determined : (xs ys : List (List ℕ)) → AreAscending xs → AreAscending ys → AreWithin xs ys → AreWithin ys xs → xs ≡ ys
AreAscending-determined xs ys o p = determined_by-members ComesBefore xs ys (λ x y l k. ComesBefore-irrefl x (ComesBefore-trans x y x l k)) (AllPairs-from_ascending xs o) (AllPairs-from_ascending ys p)

-- the laws of the order together
pub lists_ordered : ListsAreOrdered
lists_ordered = record { irreflexive = ComesBefore-irrefl; transitive = ComesBefore-trans; determined = AreAscending-determined }
