-- The places of leaves' cells, and where a leaf finds its own.
use Rattle.std.proofs.Common.{ℕ, zero, suc, ◌*◌, ◌/◌, ◌%◌, ◌<◌, ◌≤◌, ◌≡◌, ◌⊎◌, inl, inr, eqb, List, [], ◌∷◌, length, map, get_or, All, refl, sym, ap, ◌∙◌, subst, arith}
use Rattle.std.specs.Prelude.{Any, Contains}
use Rattle.std.specs.List.{dedup}
use Rattle.std.specs.List.Sorted.{IsPermutation, IsSorted, IsStrictlyIncreasing}
use Rattle.std.specs.Ordering.{nat_cmp}
use Rattle.std.proofs.lemmas.Bool.{cases_order}
use Rattle.std.proofs.lemmas.List.{length-map, get_or-map}
use Rattle.std.proofs.lemmas.List.Elements.{All-nil, All-from_get_or, Contains-get_or}
use Rattle.std.proofs.lemmas.List.Kept.{Contains-dedup_nat, Contains-from_dedup}
use Rattle.std.proofs.lemmas.List.Sorted.{Contains-permutation, IsPermutation-sym}
use Rattle.std.proofs.lemmas.Nat.{div-mul-add, div-add-mod'}
use Rattle.std.proofs.Math.Nat.{mul-le-mul_right, mod-lt}
use Rattle.std.proofs.lemmas.Map.Keys.{IsStrictlyIncreasing-dedup}
use Rattle.lists.proofs.AscendingNumberLemmas.{rises}
use Rattle.lists.proofs.ElementLemmas.{mapped}
use Rattle.sequence_data.specs.declared.types.Leaf.{Leaf}
use Rattle.sequence_data.specs.Gathered.{cell_place, ArePlaces}

-- inside a list the default does not matter
pub get_or-inside : {X : Type 0} (xs : List X) (k : ℕ) (a b : X) → k < length xs → get_or xs k a ≡ get_or xs k b
get_or-inside [] k a b l = absurd (omega arith)
get_or-inside (x ∷ xs) zero a b l = refl
get_or-inside (x ∷ xs) (suc k) a b l = get_or-inside xs k a b (omega arith)

-- an element that has P
pub any_at : {X : Type 0} (P : X → Type 0) (xs : List X) (k : ℕ) (d : X) → k < length xs → P (get_or xs k d) → Any P xs
any_at P xs k d l h = (k, get_or xs k d, l, get_or-inside xs k (get_or xs k d) d l, h)

-- and only those
mapped-contains : {X : Type 0} (f : X → ℕ) (xs : List X) (y : ℕ) → Contains (map f xs) y → Any (λ x. f x ≡ y) xs
mapped-contains f [] y h = absurd (omega (arith, h.1))
mapped-contains f (x ∷ xs) y h = let l : h.0 < suc (length xs) = omega (arith, h.1, length-map xs f) in any_at (λ z. f z ≡ y) (x ∷ xs) h.0 x l (sym (get_or-map f (x ∷ xs) h.0 x y l) ∙ h.2)

-- what holds of each element by its place
pub all-of_each : {X : Type 0} (P : X → Type 0) (xs : List X) → ((k : ℕ) (d : X) → k < length xs → P (get_or xs k d)) → All P xs
all-of_each P [] h = All-nil P
all-of_each P (x ∷ xs) h = All-from_get_or P (x ∷ xs) x (λ k l. h k x l)

-- numbers sorted, each once
pub places-made : (columns : ℕ) (leaves : List Leaf) (all sorted places : List ℕ) → all ≡ map (cell_place columns) leaves → IsPermutation all sorted → IsSorted nat_cmp sorted → places ≡ dedup eqb sorted → ArePlaces columns leaves places
places-made columns leaves all sorted places are moved order once = record {
  in_order = subst IsStrictlyIncreasing (sym once) (IsStrictlyIncreasing-dedup sorted order);
  of_leaves = All-from_get_or (λ k. Any (λ l. cell_place columns l ≡ k) leaves) places 0 (λ i l.
      let here : Contains places (get_or places i 0) = Contains-get_or places i 0 l in
      let there = Contains-from_dedup eqb sorted (get_or places i 0) (subst (λ xs. Contains xs (get_or places i 0)) once here) in
      let first = Contains-permutation sorted all (get_or places i 0) (IsPermutation-sym all sorted moved) there in
      mapped-contains (cell_place columns) leaves (get_or places i 0) (subst (λ xs. Contains xs (get_or places i 0)) are first));
  of_each = all-of_each (λ l. Contains places (cell_place columns l)) leaves (λ k d l.
      let y = cell_place columns (get_or leaves k d) in
      let first = subst (λ xs. Contains xs y) (sym are) (mapped (cell_place columns) (get_or leaves k d) leaves (Contains-get_or leaves k d l)) in
      subst (λ xs. Contains xs y) (sym once) (Contains-dedup_nat sorted y (Contains-permutation all sorted y moved first)));
}

-- ---- the number of a place
-- one place has one number
pub number-one : (places : List ℕ) → IsStrictlyIncreasing places → (i j : ℕ) → i < length places → j < length places → get_or places i 0 ≡ get_or places j 0 → i ≡ j
number-one places up i j l k e = elim (cases_order i j) [
  | inl same ↦ same
  | inr (inl m) ↦ absurd (omega (arith, rises places up i j m k, e))
  | inr (inr m) ↦ absurd (omega (arith, rises places up j i m l, e))
]

-- ---- rows and columns
-- the row and the column of a place
pub row-of_place : (columns : ℕ) (l : Leaf) → l.column < columns → cell_place columns l / columns ≡ l.row
row-of_place columns l h = div-mul-add l.row columns l.column h

pub column-of_place : (columns : ℕ) (l : Leaf) → l.column < columns → cell_place columns l % columns ≡ l.column
column-of_place columns l h =
    let parts = div-add-mod' (cell_place columns l) columns in
    let row = ap (λ r. r * columns) (row-of_place columns l h) in
    omega (arith, parts, row)

-- an earlier place comes before a later one
pub before-by_place : (columns k m : ℕ) → 0 < columns → k < m → (k / columns < m / columns) ⊎ ((k / columns ≡ m / columns) × (k % columns < m % columns))
before-by_place columns k m some l = elim (cases_order (k / columns) (m / columns)) [
  | inl e ↦ (let row = ap (λ r. r * columns) e in inr (e, omega (arith, div-add-mod' k columns, div-add-mod' m columns, row, l)))
  | inr (inl b) ↦ inl b
  | inr (inr b) ↦ (
      let up : suc (m / columns) ≤ k / columns = omega arith in
      let more : suc (m / columns) * columns ≤ k / columns * columns = mul-le-mul_right columns up in
      absurd (omega (arith, div-add-mod' k columns, div-add-mod' m columns, more, mod-lt m some, l)))
]
