-- A sequence form as contracts see it: lists of sets, leaves and cells. Source: von Stengel 1996.
use Rattle.std.specs.Prelude.{ℕ, zero, suc, ◌<◌, ◌≡◌, List, length, map, All}
use Rattle.std.specs.List.{range_with_len}
use Rattle.answers.specs.Answers.{Answer, such_that, ◌>>◌}
use Rattle.rational.specs.Rational.{ℚ, ◌≤ℚ◌, zero_ℚ}
use Rattle.sequence_forms.specs.Forms.{SequenceForm}
use Rattle.sequence_forms.specs.Lists.{FormLists, Entry, side_of_lists, form_of_lists}
use Rattle.sequence_forms.specs.Sides.{Side, first, sequences, IsOrderedSide}
use Rattle.sequence_data.specs.declared.types.Cell.{Cell}
use Rattle.sequence_data.specs.declared.types.Leaf.{Leaf}
use Rattle.sequence_data.specs.declared.types.SetRow.{SetRow}
use Rattle.sequence_data.specs.declared.stop.SeqStop.{SeqStop}
use Rattle.sequence_data.specs.Cells.{AreCells}
use Rattle.sequence_data.specs.Steps.{gathering_in}
use Rattle.rational.specs.Extremes.{IsGreatest, IsLeast}

-- how many sequences a player has, and the player's own sets in order
pub record SideData : Type 0 where
  pub sequences : ℕ
  pub sets : List SetRow

-- both players' sides, the leaves, the cells, the greatest payoffs of both players and the least
-- one of the first player
pub record FormData : Type 0 where
  pub first : SideData
  pub second : SideData
  pub leaves : List Leaf
  pub cells : List Cell
  pub greatest_one : ℚ
  pub greatest_two : ℚ
  pub least_one : ℚ

-- ---- what they stand for
-- the side with these sets
abbrev pub side_of : SideData → Side
side_of s = side_of_lists (map (λ r. r.before) s.sets) (map (λ r. r.count) s.sets)

-- player i's number of two
abbrev pub of_player : ℕ → ℚ → ℚ → ℚ
of_player zero one two = one
of_player (suc i) one two = two

-- the lists of a form
abbrev pub lists_of : FormData → FormLists
lists_of f = record {
  row_befores = map (λ r. r.before) f.first.sets;
  row_counts = map (λ r. r.count) f.first.sets;
  column_befores = map (λ r. r.before) f.second.sets;
  column_counts = map (λ r. r.count) f.second.sets;
  weights = map (λ c. let entry : Entry = (c.row, c.column, c.weight) in entry) f.cells;
  pays =
      λ i. map (λ c. let entry : Entry = (c.row, c.column, of_player i c.one c.two) in entry)
      f.cells;
}

-- the sequence form with these lists
abbrev pub form : FormData → SequenceForm
form f = form_of_lists (lists_of f)

-- ---- what each form keeps
-- the sets' first sequences and the number of sequences are those of the side, and the sets are in
-- order
pub record IsSideData (s : SideData) : Type 0 where
  pub firsts_are : map (λ r. r.first) s.sets
      ≡ map (first (side_of s)) (range_with_len 0 (length s.sets))
  pub sequences_are : s.sequences ≡ sequences (side_of s)
  pub ordered : IsOrderedSide (side_of s)

-- a leaf has a chance that is not negative, and stands at a row and a column of the form
pub record LeafFits (rows columns : ℕ) (l : Leaf) : Type 0 where
  pub not_negative : zero_ℚ ≤ℚ l.chance
  pub row_within : l.row < rows
  pub column_within : l.column < columns

-- the cells and the extreme payoffs are those of the leaves
pub record IsOfLeaves (f : FormData) : Type 0 where
  pub cells_are : AreCells f.leaves f.cells
  pub greatest_one_is : IsGreatest (map (λ l. l.one) f.leaves) f.greatest_one
  pub greatest_two_is : IsGreatest (map (λ l. l.two) f.leaves) f.greatest_two
  pub least_one_is : IsLeast (map (λ l. l.one) f.leaves) f.least_one

-- a form: both sides are in order, there are leaves and each fits, and cells and extreme payoffs
-- are the leaves'
pub record IsFormData (f : FormData) : Type 0 where
  pub first_is : IsSideData f.first
  pub second_is : IsSideData f.second
  pub some_leaf : 0 < length f.leaves
  pub leaves_fit : All (LeafFits f.first.sequences f.second.sequences) f.leaves
  pub of_leaves : IsOfLeaves f

-- the form over these sides and leaves
pub record IsFormOf (first second : SideData) (leaves : List Leaf) (f : FormData) : Type 0 where
  pub first_is : f.first ≡ first
  pub second_is : f.second ≡ second
  pub leaves_are : f.leaves ≡ leaves
  pub of_leaves : IsOfLeaves f

-- this form, whose steps all fit; or the first that does not
abbrev pub form_of_leaves : SideData → SideData → List Leaf → Answer SeqStop FormData
form_of_leaves first second leaves = gathering_in leaves >> such_that (IsFormOf first second leaves)
