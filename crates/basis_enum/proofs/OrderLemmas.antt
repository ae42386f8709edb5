-- Lists sorted by a number, and what is left of them where of neighbours with equal numbers the
-- first stays
use Rattle.std.proofs.Common.{ℕ, suc, ◌<◌, ◌≤◌, ◌≡◌, ◌≢◌, Bool, true, false, cond, eqb, refl, sym, ap, ◌∙◌, subst, arith, ◌⊎◌, inl, inr, List, [], ◌∷◌, length, get_or, map}
use Rattle.std.specs.List.{All, AllPairs, Contains, dedup, dedup_from}
use Rattle.std.specs.List.Sorted.{IsNonDecreasingBy}
use Rattle.std.proofs.Math.ListN.{get_or-map}
use Rattle.std.proofs.lemmas.List.{length-map}
use Rattle.std.proofs.lemmas.Bool.{cases_eq}
use Rattle.std.proofs.lemmas.List.Elements.{All-nil, All-cons, All-head, All-tail, All-weaker}
use Rattle.std.proofs.lemmas.List.Kept.{AllPairs-cons}
use Rattle.std.proofs.lemmas.List.Sorted.{IsNonDecreasingBy-from_default}
use Rattle.linear_systems.proofs.PivotLemmas.{eqb_same, eqb_apart}
use Rattle.lists.proofs.ElementLemmas.{AllPairs-rest, first_in, rest_in, in_cases}

-- the numbers of x and y are equal
abbrev pub is_tie : {X : Type 0} → (X → ℕ) → X → X → Bool
is_tie n x y = eqb (n x) (n y)

first_pairs : {X : Type 0} (R : X → X → Type 0) (x : X) (xs : List X) → AllPairs R (x ∷ xs)
    → All (R x) xs
first_pairs R x xs h = λ k d l. h 0 (suc k) d (omega arith) (omega arith)

-- ---- each number once, in ascending order
ascends_from : {X : Type 0} (n : X → ℕ) (x : X) (xs : List X) → All (λ y. n x ≤ n y) xs
    → AllPairs (λ y z. n y ≤ n z) xs
    → AllPairs (λ y z. n y < n z) (dedup_from (is_tie n) x xs)
    × All (λ y. n x ≤ n y) (dedup_from (is_tie n) x xs)
ascends_from n x [] above pairs = (
  AllPairs-cons (λ y z. n y < n z) x [] (All-nil (λ y. n x < n y)) (λ i j d k l. absurd (omega arith)),
  All-cons (λ y. n x ≤ n y) x [] (omega arith) (All-nil (λ y. n x ≤ n y)),
)
ascends_from {X = X} n x (y ∷ ys) above pairs = elim (cases_eq (n y) (n x)) [
  | inl e ↦ subst (λ b. Holds (cond b (dedup_from (is_tie n) x ys) (x ∷ dedup_from (is_tie n) y ys)))
      (sym (ap (λ a. eqb a (n x)) e ∙ eqb_same (n x)))
      (ascends_from n x ys (All-tail (λ z. n x ≤ n z) y ys above) (AllPairs-rest (λ a b. n a ≤ n b) y ys pairs))
  | inr ne ↦ subst (λ b. Holds (cond b (dedup_from (is_tie n) x ys) (x ∷ dedup_from (is_tie n) y ys)))
      (sym (eqb_apart (n y) (n x) ne))
      (apart ne (ascends_from n y ys (first_pairs (λ a b. n a ≤ n b) y ys pairs) (AllPairs-rest (λ a b. n a ≤ n b) y ys pairs)))
]
  where
    Holds : List X → Type 0
    Holds zs = AllPairs (λ y z. n y < n z) zs × All (λ y. n x ≤ n y) zs

    apart : n y ≢ n x
        → AllPairs (λ y z. n y < n z) (dedup_from (is_tie n) y ys)
        × All (λ z. n y ≤ n z) (dedup_from (is_tie n) y ys)
        → Holds (x ∷ dedup_from (is_tie n) y ys)
    apart ne h =
        let least : n x ≤ n y = All-head (λ z. n x ≤ n z) y ys above in (
          AllPairs-cons (λ y z. n y < n z) x _ (All-weaker (λ z. n y ≤ n z) (λ z. n x < n z) (λ z l. omega arith) _ h.1) h.0,
          All-cons (λ z. n x ≤ n z) x _ (omega arith) (All-weaker (λ z. n y ≤ n z) (λ z. n x ≤ n z) (λ z l. omega arith) _ h.1),
        )

pub dedup_ascends : {X : Type 0} (n : X → ℕ) (xs : List X) → IsNonDecreasingBy n xs
    → AllPairs (λ y z. n y < n z) (dedup (is_tie n) xs)
dedup_ascends n [] h = λ i j d k l. absurd (omega arith)
dedup_ascends {X = X} n (x ∷ xs) h =
    let pairs = λ (i j : ℕ) (d : X) (k : i < j) (l : j < length (x ∷ xs)). h i j d (omega arith) l in
    (ascends_from n x xs (first_pairs (λ a b. n a ≤ n b) x xs pairs) (AllPairs-rest (λ a b. n a ≤ n b) x xs pairs)).0

-- ---- each number is still there, at an item that does not rank later
kept_from : {X : Type 0} (n r : X → ℕ) (x : X) (xs : List X) (z : X) → All (λ y. r x ≤ r y) xs
    → AllPairs (λ a b. r a ≤ r b) xs → Contains (x ∷ xs) z
    → (y : X) × Contains (dedup_from (is_tie n) x xs) y × (n y ≡ n z) × (r y ≤ r z)
kept_from n r x [] z above pairs c = elim (in_cases x z [] c) [
  | inl e ↦ (x, first_in x [], ap n e, (let s : r x ≡ r z = ap r e in omega arith))
  | inr none ↦ absurd (omega (arith, none.1))
]
kept_from {X = X} n r x (y ∷ ys) z above pairs c = elim (cases_eq (n y) (n x)) [
  | inl e ↦ subst (λ b. Kept (cond b (dedup_from (is_tie n) x ys) (x ∷ dedup_from (is_tie n) y ys)))
      (sym (ap (λ a. eqb a (n x)) e ∙ eqb_same (n x)))
      (tie e (in_cases x z (y ∷ ys) c) (λ v. kept_from n r x ys v (All-tail (λ a. r x ≤ r a) y ys above) (AllPairs-rest (λ a b. r a ≤ r b) y ys pairs)))
  | inr ne ↦ subst (λ b. Kept (cond b (dedup_from (is_tie n) x ys) (x ∷ dedup_from (is_tie n) y ys)))
      (sym (eqb_apart (n y) (n x) ne))
      (apart (in_cases x z (y ∷ ys) c) (kept_from n r y ys z (first_pairs (λ a b. r a ≤ r b) y ys pairs) (AllPairs-rest (λ a b. r a ≤ r b) y ys pairs)))
]
  where
    Kept : List X → Type 0
    Kept zs = (v : X) × Contains zs v × (n v ≡ n z) × (r v ≤ r z)

    tie : n y ≡ n x → (x ≡ z) ⊎ Contains (y ∷ ys) z
        → ((v : X) → Contains (x ∷ ys) v → (w : X) × Contains (dedup_from (is_tie n) x ys) w × (n w ≡ n v) × (r w ≤ r v))
        → Kept (dedup_from (is_tie n) x ys)
    tie e (inl f) again = let k = again x (first_in x ys) in (k.0, k.1, k.2 ∙ ap n f, (let s : r x ≡ r z = ap r f in let l : r k.0 ≤ r x = k.3 in omega arith))
    tie e (inr q) again = elim (in_cases y z ys q) [
      | inl f ↦ (let k = again x (first_in x ys) in (k.0, k.1, k.2 ∙ sym e ∙ ap n f, (let s : r y ≡ r z = ap r f in let l : r k.0 ≤ r x = k.3 in let m : r x ≤ r y = All-head (λ a. r x ≤ r a) y ys above in omega arith)))
      | inr l ↦ again z (rest_in x z ys l)
    ]

    apart : (x ≡ z) ⊎ Contains (y ∷ ys) z
        → (Contains (y ∷ ys) z → Kept (dedup_from (is_tie n) y ys))
        → Kept (x ∷ dedup_from (is_tie n) y ys)
    apart (inl f) again = (x, first_in x _, ap n f, (let s : r x ≡ r z = ap r f in omega arith))
    apart (inr q) again = let k = again q in (k.0, rest_in x k.0 _ k.1, k.2, k.3)

pub dedup_keeps : {X : Type 0} (n r : X → ℕ) (xs : List X) (z : X) → IsNonDecreasingBy r xs → Contains xs z
    → (y : X) × Contains (dedup (is_tie n) xs) y × (n y ≡ n z) × (r y ≤ r z)
dedup_keeps n r [] z h c = absurd (omega (arith, c.1))
dedup_keeps {X = X} n r (x ∷ xs) z h c =
    let pairs = λ (i j : ℕ) (d : X) (k : i < j) (l : j < length (x ∷ xs)). h i j d (omega arith) l in
    kept_from n r x xs z (first_pairs (λ a b. r a ≤ r b) x xs pairs) (AllPairs-rest (λ a b. r a ≤ r b) x xs pairs) c

-- ---- under a function that the numbers go through
map_from : {X Y : Type 0} (f : X → Y) (n : Y → ℕ) (x : X) (xs : List X)
    → map f (dedup_from (is_tie (λ v. n (f v))) x xs) ≡ dedup_from (is_tie n) (f x) (map f xs)
map_from f n x [] = refl
map_from f n x (y ∷ ys) = branch (is_tie (λ v. n (f v)) y x) (map_from f n x ys) (map_from f n y ys)
  where
    branch : (b : Bool)
        → map f (dedup_from (is_tie (λ v. n (f v))) x ys) ≡ dedup_from (is_tie n) (f x) (map f ys)
        → map f (dedup_from (is_tie (λ v. n (f v))) y ys) ≡ dedup_from (is_tie n) (f y) (map f ys)
        → map f (cond b (dedup_from (is_tie (λ v. n (f v))) x ys) (x ∷ dedup_from (is_tie (λ v. n (f v))) y ys))
        ≡ cond b (dedup_from (is_tie n) (f x) (map f ys)) (f x ∷ dedup_from (is_tie n) (f y) (map f ys))
    branch true a c = a
    branch false a c = ap (λ zs. f x ∷ zs) c

pub map-dedup : {X Y : Type 0} (f : X → Y) (n : Y → ℕ) (xs : List X)
    → map f (dedup (is_tie (λ v. n (f v))) xs) ≡ dedup (is_tie n) (map f xs)
map-dedup f n [] = refl
map-dedup f n (x ∷ xs) = map_from f n x xs

pub IsNonDecreasingBy-map : {X Y : Type 0} (f : X → Y) (n : Y → ℕ) (xs : List X)
    → IsNonDecreasingBy (λ v. n (f v)) xs → IsNonDecreasingBy n (map f xs)
IsNonDecreasingBy-map f n [] h = λ i j d k l. absurd (omega arith)
IsNonDecreasingBy-map f n (x ∷ xs) h =
    IsNonDecreasingBy-from_default n (f x ∷ map f xs) (f x)
    (λ i j k l.
    (let size : length (map f xs) ≡ length xs = length-map xs f in
    subst (λ a. n a ≤ n (get_or (f x ∷ map f xs) j (f x))) (sym (get_or-map f (x ∷ xs) i x))
    (subst (λ a. n (f (get_or (x ∷ xs) i x)) ≤ n a) (sym (get_or-map f (x ∷ xs) j x))
    (h i j x k (omega arith)))))
