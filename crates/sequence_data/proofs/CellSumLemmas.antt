-- The cells of leaves have the sums of the leaves.
use Rattle.std.proofs.Common.{ℕ, zero, suc, ◌≡◌, ◌⊎◌, inl, inr, Bool, true, false, Decides, Some, List, [], ◌∷◌, map, get_or, slice_get, All, refl, sym, ap, ap₂, ◌∙◌, subst, arith}
use Rattle.std.specs.Prelude.{◌==◌, ◌&&◌, if◌then◌else◌, Any}
use Rattle.std.proofs.lemmas.Bool.Decides.{Decides-eqb, Decides-and, not_from_Decides}
use Rattle.std.proofs.lemmas.List.Elements.{All-head, All-tail, All-get_or, All-weaker}
use Rattle.std.proofs.lemmas.Option.{none-some, same_Some, slice_get-get_or, slice_get_within, get_or_from_slice_get}
use Rattle.rational.specs.Rational.{ℚ, ◌+ℚ◌, zero_ℚ}
use Rattle.rational.proofs.RationalRing.{+ℚ-zero}
use Rattle.rational.proofs.Rules.{zero-+ℚ}
use Rattle.sequence_forms.specs.Lists.{Entry, listed_at}
use Rattle.sequence_data.specs.declared.types.Leaf.{Leaf}
use Rattle.sequence_data.specs.declared.types.Cell.{Cell}
use Rattle.sequence_data.specs.Cells.{total, cell_at, IsBefore, AreCellsInOrder, IsAt, AreCells}
use Rattle.sequence_data.proofs.OrderLemmas.{order-tail}

-- whether a row and a column are these
at-decides : (a b r q : ℕ) → Decides (r == a && q == b) ((r ≡ a) × (q ≡ b))
at-decides a b r q = Decides-and (r == a) (q == b) (Decides-eqb r a) (Decides-eqb q b)

-- a number that stands elsewhere
elsewhere : (a b r q : ℕ) (v : ℚ) → ((r ≡ a) × (q ≡ b) → ⊥) → (if r == a && q == b then v else zero_ℚ) ≡ zero_ℚ
elsewhere a b r q v other = go (r == a && q == b) (at-decides a b r q)
  where
    go : (c : Bool) → Decides c ((r ≡ a) × (q ≡ b)) → (if c then v else zero_ℚ) ≡ zero_ℚ
    go true d = absurd (other (d.0 refl))
    go false d = refl

-- a number that stands here
right_here : (a b : ℕ) (v : ℚ) → (if a == a && b == b then v else zero_ℚ) ≡ v
right_here a b v = go (a == a && b == b) (at-decides a b a b)
  where
    go : (c : Bool) → Decides c ((a ≡ a) × (b ≡ b)) → (if c then v else zero_ℚ) ≡ v
    go true d = refl
    go false d = absurd (not_from_Decides false d refl (refl, refl))

-- where no leaf stands, the sum is 0
total-none : (f : Leaf → ℚ) (leaves : List Leaf) (r q : ℕ) → All (λ l. (r ≡ l.row) × (q ≡ l.column) → ⊥) leaves → total f leaves r q ≡ zero_ℚ
total-none f [] r q h = refl
total-none f (l ∷ leaves) r q h =
    ap₂ (λ u v. u +ℚ v) (elsewhere l.row l.column r q (f l) (All-head (λ l. (r ≡ l.row) × (q ≡ l.column) → ⊥) l leaves h)) (total-none f leaves r q (All-tail (λ l. (r ≡ l.row) × (q ≡ l.column) → ⊥) l leaves h))
    ∙ +ℚ-zero zero_ℚ

-- a number of each cell
abbrev pub cell_entries : (Cell → ℚ) → List Cell → List Entry
cell_entries g cells = map (λ c. let entry : Entry = (c.row, c.column, g c) in entry) cells

-- no cell stands there
abbrev IsNowhere : List Cell → ℕ → ℕ → Type 0
IsNowhere cells r q = (k : ℕ) (c : Cell) → slice_get cells k ≡ Some c → (r ≡ c.row) × (q ≡ c.column) → ⊥

listed-none : (g : Cell → ℚ) (cells : List Cell) (r q : ℕ) → IsNowhere cells r q → listed_at (cell_entries g cells) r q ≡ zero_ℚ
listed-none g [] r q h = refl
listed-none g (x ∷ cells) r q h =
    ap₂ (λ u v. u +ℚ v) (elsewhere x.row x.column r q (g x) (h 0 x refl)) (listed-none g cells r q (λ k c is. h (suc k) c is)) ∙ +ℚ-zero zero_ℚ

-- cells one before the other do not stand together
before-apart : (c d : Cell) → IsBefore c d → (d.row ≡ c.row) × (d.column ≡ c.column) → ⊥
before-apart c d (inl rows) same = absurd (omega (arith, rows, same.0))
before-apart c d (inr columns) same = absurd (omega (arith, columns.1, same.1))

-- a cell that stands there is the only one
listed-one : (g : Cell → ℚ) (cells : List Cell) (k : ℕ) (c : Cell) → AreCellsInOrder cells → slice_get cells k ≡ Some c → listed_at (cell_entries g cells) c.row c.column ≡ g c
listed-one g [] k c order is = absurd (none-some c is)
listed-one g (x ∷ cells) zero c order is =
    let same : x ≡ c = same_Some x c is in
    subst (λ d. listed_at (cell_entries g (x ∷ cells)) d.row d.column ≡ g d) same
    (ap₂ (λ u v. u +ℚ v) (right_here x.row x.column (g x)) (listed-none g cells x.row x.column (λ k d at together. before-apart x d (order 0 (suc k) x d (omega arith) refl at) (sym together.0, sym together.1))) ∙ +ℚ-zero (g x))
listed-one g (x ∷ cells) (suc k) c order is =
    ap₂ (λ u v. u +ℚ v) (elsewhere x.row x.column c.row c.column (g x) (before-apart x c (order 0 (suc k) x c (omega arith) refl is))) (listed-one g cells k c (order-tail x cells order) is)
    ∙ zero-+ℚ (g c)

-- a cell stands there, or none does
record HasCell (cells : List Cell) (r q : ℕ) : Type 0 where
  number : ℕ
  cell : Cell
  stands : slice_get cells number ≡ Some cell
  row_is : r ≡ cell.row
  column_is : q ≡ cell.column

has_cell : (cells : List Cell) (r q : ℕ) → HasCell cells r q ⊎ IsNowhere cells r q
has_cell [] r q = inr (λ k c is. absurd (none-some c is))
has_cell (x ∷ cells) r q = go (r == x.row && q == x.column) (at-decides x.row x.column r q) (has_cell cells r q)
  where
    none : ((r ≡ x.row) × (q ≡ x.column) → ⊥) → IsNowhere cells r q → IsNowhere (x ∷ cells) r q
    none other rest zero c is = λ here. let same : x ≡ c = same_Some x c is in other (here.0 ∙ ap (λ d. d.row) (sym same), here.1 ∙ ap (λ d. d.column) (sym same))
    none other rest (suc k) c is = rest k c is

    go : (b : Bool) → Decides b ((r ≡ x.row) × (q ≡ x.column)) → HasCell cells r q ⊎ IsNowhere cells r q → HasCell (x ∷ cells) r q ⊎ IsNowhere (x ∷ cells) r q
    go true d rest = inl (record { number = 0; cell = x; stands = refl; row_is = (d.0 refl).0; column_is = (d.0 refl).1 })
    go false d (inl found) = inl (record { number = suc found.number; cell = found.cell; stands = found.stands; row_is = found.row_is; column_is = found.column_is })
    go false d (inr rest) = inr (none (not_from_Decides false d refl) rest)

-- the sums of the cells are those of the leaves
pub cells-sum : (f : Leaf → ℚ) (g : Cell → ℚ) (leaves : List Leaf) (cells : List Cell) → AreCells leaves cells → ((c : Cell) → c ≡ cell_at leaves c.row c.column → g c ≡ total f leaves c.row c.column) → (r q : ℕ) → listed_at (cell_entries g cells) r q ≡ total f leaves r q
cells-sum f g leaves cells h sum r q = elim (has_cell cells r q) [
  | inl found ↦ (
      let within = slice_get_within cells found.number found.cell found.stands in
      let is : get_or cells found.number found.cell ≡ found.cell = get_or_from_slice_get cells found.number found.cell found.cell found.stands in
      let are : found.cell ≡ cell_at leaves found.cell.row found.cell.column = subst (λ c. c ≡ cell_at leaves c.row c.column) is (All-get_or (λ c. c ≡ cell_at leaves c.row c.column) cells found.number found.cell within h.are_sums) in
      ap₂ (listed_at (cell_entries g cells)) found.row_is found.column_is ∙ listed-one g cells found.number found.cell h.in_order found.stands ∙ sum found.cell are ∙ ap₂ (total f leaves) (sym found.row_is) (sym found.column_is))
  | inr nowhere ↦ listed-none g cells r q nowhere ∙ sym (total-none f leaves r q (All-weaker (λ l. Any (λ c. IsAt c l) cells) (λ l. (r ≡ l.row) × (q ≡ l.column) → ⊥) (λ l any here. no_leaf l any here nowhere) leaves h.of_each))
]
  where
    no_leaf : (l : Leaf) → Any (λ c. IsAt c l) cells → (r ≡ l.row) × (q ≡ l.column) → IsNowhere cells r q → ⊥
    no_leaf l any here nowhere = nowhere any.0 any.1 (slice_get-get_or cells any.0 any.1 any.2 ∙ ap Some any.3) (here.0 ∙ any.4.0, here.1 ∙ any.4.1)
