-- Leaves go into the cells one after another.
use Rattle.std.proofs.Common.{ℕ, zero, suc, ◌+◌, ◌*◌, ◌/◌, ◌%◌, ◌^◌, ◌<◌, ◌≡◌, ◌≢◌, Bool, true, false, Decides, List, [], ◌∷◌, ◌++◌, length, map, take, get_or, set, All, refl, sym, ap, ap₂, ◌∙◌, subst, Ok, Err, arith}
use Rattle.std.specs.Prelude.{◌==◌, ◌&&◌, if◌then◌else◌, Any, Contains}
use Rattle.std.specs.List.{enumerate_from}
use Rattle.std.specs.List.Sorted.{IsStrictlyIncreasing}
use Rattle.std.proofs.lemmas.Bool.Decides.{Decides-eqb, Decides-and, not_from_Decides}
use Rattle.std.proofs.lemmas.List.{length-map, get_or-map, take_all, take_more}
use Rattle.std.proofs.lemmas.List.Elements.{All-map, All-get_or, All-from_get_or, All-weaker}
use Rattle.std.proofs.lemmas.List.FromFn.{length-enumerate_from, get_or-enumerate_from}
use Rattle.std.proofs.lemmas.Option.{slice_get_within, get_or_from_slice_get}
use Rattle.std.proofs.lemmas.Nat.{div-add-mod'}
use Rattle.lists.proofs.AscendingNumberLemmas.{rises}
use Rattle.rational.specs.Rational.{ℚ, ◌+ℚ◌, zero_ℚ}
use Rattle.rational.proofs.RationalRing.{+ℚ_assoc, +ℚ_comm, +ℚ-zero}
use Rattle.frac128.specs.FirstUnfit.{StepsFit}
use Rattle.frac128.specs.Steps.{StepFits, IsFirstUnfit}
use Rattle.frac128.proofs.FirstUnfitLemmas.{fits_next, first_unfit_here}
use Rattle.sequence_data.specs.declared.types.Leaf.{Leaf}
use Rattle.sequence_data.specs.declared.types.Cell.{Cell}
use Rattle.sequence_data.specs.Cells.{total, chance_one, chance_two, cell_at, IsBefore, AreCellsInOrder, IsAt, AreCells}
use Rattle.sequence_data.specs.Gathered.{cell_place, cell_in, ArePlaces, added_cell}
use Rattle.sequence_data.specs.Steps.{added_steps, gathering_in, fit_at, leaf_steps}
use Rattle.sequence_data.specs.declared.stop.SeqStop.{SeqStop}
use Rattle.sequence_data.proofs.PlaceLemmas.{any_at, all-of_each, get_or-inside, number-one, row-of_place, column-of_place, before-by_place}

-- ---- sums with one more leaf
-- what a leaf adds at a row and column
abbrev at_leaf : (Leaf → ℚ) → Leaf → ℕ → ℕ → ℚ
at_leaf f x r q = if r == x.row && q == x.column then f x else zero_ℚ

total-push : (f : Leaf → ℚ) (xs : List Leaf) (x : Leaf) (r q : ℕ) → total f (xs ++ x ∷ []) r q ≡ total f xs r q +ℚ at_leaf f x r q
total-push f [] x r q = +ℚ_comm (at_leaf f x r q) zero_ℚ
total-push f (y ∷ xs) x r q = ap (λ v. at_leaf f y r q +ℚ v) (total-push f xs x r q) ∙ sym (+ℚ_assoc (at_leaf f y r q) (total f xs r q) (at_leaf f x r q))

-- whether a row and a column are a leaf's
is_at-decides : (x : Leaf) (r q : ℕ) → Decides (r == x.row && q == x.column) ((r ≡ x.row) × (q ≡ x.column))
is_at-decides x r q = Decides-and (r == x.row) (q == x.column) (Decides-eqb r x.row) (Decides-eqb q x.column)

total-here : (f : Leaf → ℚ) (xs : List Leaf) (x : Leaf) → total f (xs ++ x ∷ []) x.row x.column ≡ total f xs x.row x.column +ℚ f x
total-here f xs x = total-push f xs x x.row x.column ∙ ap (λ v. total f xs x.row x.column +ℚ v) (go (x.row == x.row && x.column == x.column) (is_at-decides x x.row x.column))
  where
    go : (b : Bool) → Decides b ((x.row ≡ x.row) × (x.column ≡ x.column)) → (if b then f x else zero_ℚ) ≡ f x
    go true d = refl
    go false d = absurd (not_from_Decides false d refl (refl, refl))

total-other : (f : Leaf → ℚ) (xs : List Leaf) (x : Leaf) (r q : ℕ) → ((r ≡ x.row) × (q ≡ x.column) → ⊥) → total f (xs ++ x ∷ []) r q ≡ total f xs r q
total-other f xs x r q other = total-push f xs x r q ∙ ap (λ v. total f xs r q +ℚ v) (go (r == x.row && q == x.column) (is_at-decides x r q)) ∙ +ℚ-zero (total f xs r q)
  where
    go : (b : Bool) → Decides b ((r ≡ x.row) × (q ≡ x.column)) → (if b then f x else zero_ℚ) ≡ zero_ℚ
    go true d = absurd (other (d.0 refl))
    go false d = refl

-- ---- cells with one more leaf
same_cell : (r q : ℕ) (a b c d e f : ℚ) → a ≡ b → c ≡ d → e ≡ f → let x : Cell = record { row = r; column = q; weight = a; one = c; two = e } in let y : Cell = record { row = r; column = q; weight = b; one = d; two = f } in x ≡ y
same_cell r q a b c d e f h g k = λ i. record { row = r; column = q; weight = h i; one = g i; two = k i }

cell-here : (xs : List Leaf) (x : Leaf) → cell_at (xs ++ x ∷ []) x.row x.column ≡ added_cell (cell_at xs x.row x.column) x
cell-here xs x = same_cell x.row x.column _ _ _ _ _ _ (total-here (λ l. l.chance) xs x) (total-here chance_one xs x) (total-here chance_two xs x)

cell-other : (xs : List Leaf) (x : Leaf) (r q : ℕ) → ((r ≡ x.row) × (q ≡ x.column) → ⊥) → cell_at (xs ++ x ∷ []) r q ≡ cell_at xs r q
cell-other xs x r q other = same_cell r q _ _ _ _ _ _ (total-other (λ l. l.chance) xs x r q other) (total-other chance_one xs x r q other) (total-other chance_two xs x r q other)

-- ---- all cells with one more leaf
-- functions that are the same at each element
map_same : {X Y : Type 0} (f g : X → Y) (xs : List X) (d : X) → ((j : ℕ) → j < length xs → g (get_or xs j d) ≡ f (get_or xs j d)) → map g xs ≡ map f xs
map_same f g [] d h = refl
map_same f g (x ∷ xs) d h = ap₂ (λ a b. a ∷ b) (h 0 (omega arith)) (map_same f g xs d (λ j l. h (suc j) (omega arith)))

-- a function that changes at one element
map_changed : {X Y : Type 0} (f g : X → Y) (xs : List X) (i : ℕ) (y : Y) (d : X) → i < length xs → g (get_or xs i d) ≡ y → ((j : ℕ) → j < length xs → j ≢ i → g (get_or xs j d) ≡ f (get_or xs j d)) → map g xs ≡ set (map f xs) i y
map_changed f g [] i y d l here other = absurd (omega arith)
map_changed f g (x ∷ xs) zero y d l here other = ap₂ (λ a b. a ∷ b) here (map_same f g xs d (λ j k. other (suc j) (omega arith) (omega arith)))
map_changed f g (x ∷ xs) (suc i) y d l here other = ap₂ (λ a b. a ∷ b) (other 0 (omega arith) (omega arith)) (map_changed f g xs i y d (omega arith) here (λ j k n. other (suc j) (omega arith) (omega arith)))

module _ (columns : ℕ) (places : List ℕ) (some : 0 < columns) (up : IsStrictlyIncreasing places) (xs : List Leaf) (x : Leaf) (within : x.column < columns) (i : ℕ) (inside : i < length places) (is : get_or places i 0 ≡ cell_place columns x) where
  -- the leaf's own cell
  cell-own : cell_in columns (xs ++ x ∷ []) (get_or places i 0) ≡ added_cell (cell_in columns xs (get_or places i 0)) x
  cell-own =
      let row : get_or places i 0 / columns ≡ x.row = ap (λ k. k / columns) is ∙ row-of_place columns x within in
      let column : get_or places i 0 % columns ≡ x.column = ap (λ k. k % columns) is ∙ column-of_place columns x within in
      ap₂ (cell_at (xs ++ x ∷ [])) row column ∙ cell-here xs x ∙ sym (ap (λ c. added_cell c x) (ap₂ (cell_at xs) row column))

  -- the other cells
  cell-kept : (j : ℕ) → j < length places → j ≢ i → cell_in columns (xs ++ x ∷ []) (get_or places j 0) ≡ cell_in columns xs (get_or places j 0)
  cell-kept j l other = cell-other xs x (get_or places j 0 / columns) (get_or places j 0 % columns) (λ same. other (number-one places up j i l inside (place_is j same ∙ sym is)))
    where
      place_is : (j : ℕ) → (get_or places j 0 / columns ≡ x.row) × (get_or places j 0 % columns ≡ x.column) → get_or places j 0 ≡ cell_place columns x
      place_is j same = sym (div-add-mod' (get_or places j 0) columns) ∙ ap₂ (λ r q. r * columns + q) same.0 same.1

  -- the leaf's own cell by its number
  pub own-cell : (cells : List Cell) (d : Cell) → cells ≡ map (cell_in columns xs) places → get_or cells i d ≡ cell_at xs x.row x.column
  own-cell cells d are =
      let row : get_or places i 0 / columns ≡ x.row = ap (λ k. k / columns) is ∙ row-of_place columns x within in
      let column : get_or places i 0 % columns ≡ x.column = ap (λ k. k % columns) is ∙ column-of_place columns x within in
      ap (λ c. get_or c i d) are ∙ get_or-map (cell_in columns xs) places i 0 d inside ∙ ap₂ (cell_at xs) row column

  -- all of them
  pub cells-more : (cells : List Cell) (cell : Cell) → cells ≡ map (cell_in columns xs) places → cell ≡ added_cell (get_or cells i cell) x → map (cell_in columns (xs ++ x ∷ [])) places ≡ set cells i cell
  cells-more cells cell are made =
      let old : get_or cells i cell ≡ cell_in columns xs (get_or places i 0) = ap (λ c. get_or c i cell) are ∙ get_or-map (cell_in columns xs) places i 0 cell inside in
      map_changed (cell_in columns xs) (cell_in columns (xs ++ x ∷ [])) places i cell 0 inside (cell-own ∙ sym (made ∙ ap (λ c. added_cell c x) old)) cell-kept ∙ ap (λ c. set c i cell) (sym are)

-- all cells after one leaf more
pub cells-after : (columns : ℕ) (places : List ℕ) → 0 < columns → IsStrictlyIncreasing places → (leaves : List Leaf) (n : ℕ) (x : Leaf) → n < length leaves → x ≡ get_or leaves n x → x.column < columns
    → (i : ℕ) → i < length places → get_or places i 0 ≡ cell_place columns x → (cells : List Cell) (old cell : Cell) → cells ≡ map (cell_in columns (take n leaves)) places → old ≡ get_or cells i old → cell ≡ added_cell old x
    → set cells i cell ≡ map (cell_in columns (take (n + 1) leaves)) places
cells-after columns places some up leaves n x l at within i inside is cells old cell are old_is made =
    let one : take (n + 1) leaves ≡ take n leaves ++ x ∷ [] = take_more leaves n x l ∙ ap (λ y. take n leaves ++ y ∷ []) (sym at) in
    let here : cell ≡ added_cell (get_or cells i cell) x = made ∙ ap (λ c. added_cell c x) (old_is ∙ get_or-inside cells i old cell (omega (arith, ap length are, length-map places (cell_in columns (take n leaves)), inside))) in
    sym (cells-more columns places some up (take n leaves) x within i inside is cells cell are here) ∙ ap (λ xs. map (cell_in columns xs) places) (sym one)

-- ---- the steps of the leaves
module _ (leaves : List Leaf) (i : ℕ) (x : Leaf) (cell : Cell) (l : i < length leaves) (is : x ≡ get_or leaves i x) (at : cell ≡ cell_at (take i leaves) x.row x.column) (fit : All (StepsFit (leaf_steps leaves)) (take i (enumerate_from 0 leaves))) where
  within : i < length (enumerate_from 0 leaves)
  within = omega (arith, l, length-enumerate_from 0 leaves)

  here : (i, x) ≡ get_or (enumerate_from 0 leaves) i (i, x)
  here = sym (get_or-enumerate_from 0 leaves i (i, x) l ∙ ap₂ (λ k y. (k, y)) (omega arith) (sym is))

  -- what stops a leaf's steps stops those of all leaves
  pub gather-stop : (stop : SeqStop) → fit_at x.place (added_steps cell x) (Err stop) → gathering_in leaves (Err stop)
  gather-stop stop (step, h, told) =
      (((i, x), step), first_unfit_here (leaf_steps leaves) (enumerate_from 0 leaves) i (i, x) within here step fit (subst (λ c. IsFirstUnfit (added_steps c x) step) at h), told)

  -- the steps with one more leaf fit
  pub gather-fit : All StepFits (added_steps cell x) → All (StepsFit (leaf_steps leaves)) (take (i + 1) (enumerate_from 0 leaves))
  gather-fit h = fits_next (leaf_steps leaves) (enumerate_from 0 leaves) i (i, x) within here fit (subst (λ c. All StepFits (added_steps c x)) at h)

-- the steps of all leaves fit
pub gather-all : (leaves : List Leaf) (n : ℕ) → n ≡ length leaves → All (StepsFit (leaf_steps leaves)) (take n (enumerate_from 0 leaves)) → gathering_in leaves (Ok tt)
gather-all leaves n is fit = subst (All (StepsFit (leaf_steps leaves))) (take_all n (enumerate_from 0 leaves) (omega (arith, is, length-enumerate_from 0 leaves))) fit

-- the rows of places are those of leaves
pub rows-few : (columns : ℕ) (leaves : List Leaf) (places : List ℕ) → All (λ l. l.row < 2 ^ 32) leaves → All (λ l. l.column < columns) leaves → ArePlaces columns leaves places → All (λ k. k / columns < 2 ^ 32) places
rows-few columns leaves places few within h = All-weaker (λ k. Any (λ l. cell_place columns l ≡ k) leaves) (λ k. k / columns < 2 ^ 32) row places h.of_leaves
  where
    row : (k : ℕ) → Any (λ l. cell_place columns l ≡ k) leaves → k / columns < 2 ^ 32
    row k found =
        let column : found.1.column < columns = subst (λ (l : Leaf). l.column < columns) found.3 (All-get_or (λ l. l.column < columns) leaves found.0 found.1 found.2 within) in
        let few_here : found.1.row < 2 ^ 32 = subst (λ (l : Leaf). l.row < 2 ^ 32) found.3 (All-get_or (λ l. l.row < 2 ^ 32) leaves found.0 found.1 found.2 few) in
        let is : k / columns ≡ found.1.row = ap (λ n. n / columns) (sym found.4) ∙ row-of_place columns found.1 column in
        subst (λ n. n < 2 ^ 32) (sym is) few_here

-- ---- the cells in the end
-- cells at places that rise are in order
in_order : (columns : ℕ) (leaves : List Leaf) (places : List ℕ) → 0 < columns → IsStrictlyIncreasing places → AreCellsInOrder (map (cell_in columns leaves) places)
in_order columns leaves places some up i j c d l is_c is_d =
    let many = length-map places (cell_in columns leaves) in
    let in_i = slice_get_within (map (cell_in columns leaves) places) i c is_c in
    let in_j = slice_get_within (map (cell_in columns leaves) places) j d is_d in
    let first : cell_in columns leaves (get_or places i 0) ≡ c = sym (get_or-map (cell_in columns leaves) places i 0 c (omega (arith, many, in_i))) ∙ get_or_from_slice_get (map (cell_in columns leaves) places) i c c is_c in
    let second : cell_in columns leaves (get_or places j 0) ≡ d = sym (get_or-map (cell_in columns leaves) places j 0 d (omega (arith, many, in_j))) ∙ get_or_from_slice_get (map (cell_in columns leaves) places) j d d is_d in
    let before = before-by_place columns (get_or places i 0) (get_or places j 0) some (rises places up i j l (omega (arith, many, in_j))) in
    subst (λ e. IsBefore e d) first (subst (λ e. IsBefore (cell_in columns leaves (get_or places i 0)) e) second before)

-- a leaf stands at the cell of its place
at_place : (columns : ℕ) (leaves : List Leaf) (l : Leaf) (k : ℕ) → l.column < columns → cell_place columns l ≡ k → IsAt (cell_in columns leaves k) l
at_place columns leaves l k within is = (sym (row-of_place columns l within) ∙ ap (λ n. n / columns) is, sym (column-of_place columns l within) ∙ ap (λ n. n % columns) is)

pub are-cells : (columns : ℕ) (leaves : List Leaf) (places : List ℕ) → 0 < columns → All (λ l. l.column < columns) leaves → ArePlaces columns leaves places → AreCells leaves (map (cell_in columns leaves) places)
are-cells columns leaves places some within h = record {
  in_order = in_order columns leaves places some h.in_order;
  are_sums = All-map (λ c. c ≡ cell_at leaves c.row c.column) (cell_in columns leaves) places (All-from_get_or (λ k. cell_in columns leaves k ≡ cell_in columns leaves k) places 0 (λ i l. refl));
  of_leaves = All-map (λ c. Any (IsAt c) leaves) (cell_in columns leaves) places (All-weaker (λ k. Any (λ l. cell_place columns l ≡ k) leaves) (λ k. Any (IsAt (cell_in columns leaves k)) leaves)
      (λ k found. (found.0, found.1, found.2, found.3, at_place columns leaves found.1 k (subst (λ l. l.column < columns) found.3 (All-get_or (λ l. l.column < columns) leaves found.0 found.1 found.2 within)) found.4)) places h.of_leaves);
  of_each = each leaves within h.of_each;
}
  where
    cell-found : (l : Leaf) → l.column < columns → Contains places (cell_place columns l) → Any (λ c. IsAt c l) (map (cell_in columns leaves) places)
    cell-found l inside found =
        let is : get_or places found.0 0 ≡ cell_place columns l = get_or-inside places found.0 0 (cell_place columns l) found.1 ∙ found.2 in
        let many : found.0 < length (map (cell_in columns leaves) places) = subst (λ n. found.0 < n) (sym (length-map places (cell_in columns leaves))) found.1 in
        let first = cell_in columns leaves 0 in
        any_at (λ c. IsAt c l) (map (cell_in columns leaves) places) found.0 first many
        (subst (λ c. IsAt c l) (sym (get_or-map (cell_in columns leaves) places found.0 0 first found.1)) (at_place columns leaves l (get_or places found.0 0) inside (sym is)))

    each : (xs : List Leaf) → All (λ l. l.column < columns) xs → All (λ l. Contains places (cell_place columns l)) xs → All (λ l. Any (λ c. IsAt c l) (map (cell_in columns leaves) places)) xs
    each xs a b = all-of_each (λ l. Any (λ c. IsAt c l) (map (cell_in columns leaves) places)) xs (λ k d l. cell-found (get_or xs k d) (All-get_or (λ l. l.column < columns) xs k d l a) (All-get_or (λ l. Contains places (cell_place columns l)) xs k d l b))
