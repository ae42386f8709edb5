-- Leaves that fit have cells and extreme payoffs, so there is a form over them, or a step that does not fit.
use Rattle.std.proofs.Common.{ℕ, ◌*◌, ◌<◌, ◌≡◌, List, [], ◌∷◌, length, map, get_or, All, refl, arith}
use Rattle.std.specs.List.{enumerate_from}
use Rattle.std.specs.Prelude.{Any, Contains}
use Rattle.std.proofs.lemmas.List.Elements.{All-get_or, All-head, All-weaker, All-from_get_or, Contains-get_or}
use Rattle.std.proofs.lemmas.Nat.{mul-add-lt}
use Rattle.answers.specs.Answered.{IsAnswered}
use Rattle.answers.specs.Answers.{such_that}
use Rattle.answers.proofs.AnsweredLemmas.{bind-answered, refused_by-answered, such_that-answered}
use Rattle.lists.proofs.DeniedLemmas.{listed_below}
use Rattle.frac128.proofs.FirstUnfitLemmas.{all_fit-answered}
use Rattle.rational.proofs.SomeExtremeLemmas.{greatest-of, least-of}
use Rattle.sequence_data.specs.Cells.{AreCells}
use Rattle.sequence_data.specs.Data.{FormData, IsFormOf, LeafFits, SideData, form_of_leaves}
use Rattle.sequence_data.specs.Gathered.{ArePlaces, cell_in, cell_place}
use Rattle.sequence_data.specs.Steps.{gathering_in, leaf_steps}
use Rattle.sequence_data.specs.declared.stop.SeqStop.TheVariants as stops
use Rattle.sequence_data.specs.declared.types.Cell.{Cell}
use Rattle.sequence_data.specs.declared.types.Leaf.{Leaf}
use Rattle.sequence_data.proofs.GatheredLeafLemmas.{are-cells}
use Rattle.sequence_data.proofs.PlaceLemmas.{all-of_each, any_at}

-- ---- cells
-- leaves that fit have places
some-places : (rows columns : ℕ) (leaves : List Leaf) → All (LeafFits rows columns) leaves → ¬ ¬ ((places : List ℕ) × ArePlaces columns leaves places)
some-places rows columns leaves fit none =
    listed_below (λ k. Any (λ l. cell_place columns l ≡ k) leaves) (columns * rows) (λ listed. none (
      listed.0,
      record {
        in_order = listed.1.ascending;
        of_leaves = All-from_get_or (λ k. Any (λ l. cell_place columns l ≡ k) leaves) listed.0 0 (λ i l. (listed.1.sound (get_or listed.0 i 0) (Contains-get_or listed.0 i 0 l)).1);
        of_each = all-of_each (λ l. Contains listed.0 (cell_place columns l)) leaves (λ k d l.
            let leaf = get_or leaves k d in
            let fits = All-get_or (LeafFits rows columns) leaves k d l fit in
            listed.1.complete (cell_place columns leaf) (mul-add-lt leaf.row columns leaf.column rows fits.row_within fits.column_within, any_at (λ x. cell_place columns x ≡ cell_place columns leaf) leaves k d l refl));
      },
    ))

-- and cells
some-cells : (rows columns : ℕ) (x : Leaf) (xs : List Leaf) → All (LeafFits rows columns) (x ∷ xs) → ¬ ¬ ((cells : List Cell) × AreCells (x ∷ xs) cells)
some-cells rows columns x xs fit none =
    let some : 0 < columns = omega (arith, (All-head (LeafFits rows columns) x xs fit).column_within) in
    let within = All-weaker (LeafFits rows columns) (λ l. l.column < columns) (λ l f. f.column_within) (x ∷ xs) fit in
    some-places rows columns (x ∷ xs) fit (λ places. none (map (cell_in columns (x ∷ xs)) places.0, are-cells columns (x ∷ xs) places.0 some within places.1))

-- ---- the form
-- the steps of leaves have an answer
pub gathering_in-answered : (leaves : List Leaf) → IsAnswered (gathering_in leaves)
gathering_in-answered leaves = refused_by-answered (λ stop. stops.Range stop.0.1.place stop.1) _ (all_fit-answered (leaf_steps leaves) (enumerate_from 0 leaves))

-- there is a form over leaves that fit
some-form : (first second : SideData) (rows columns : ℕ) (leaves : List Leaf) → 0 < length leaves → All (LeafFits rows columns) leaves → ¬ ((f : FormData) → ¬ (IsFormOf first second leaves f))
some-form first second rows columns [] some fit none = absurd (omega (arith, some))
some-form first second rows columns (x ∷ xs) some fit none = some-cells rows columns x xs fit (λ cells.
    let greatest_one = greatest-of x.one (map (λ l. l.one) xs) in
    let greatest_two = greatest-of x.two (map (λ l. l.two) xs) in
    let least_one = least-of x.one (map (λ l. l.one) xs) in
    none (record { first = first; second = second; leaves = x ∷ xs; cells = cells.0; greatest_one = greatest_one.0; greatest_two = greatest_two.0; least_one = least_one.0 }) (record {
      first_is = refl;
      second_is = refl;
      leaves_are = refl;
      of_leaves = record { cells_are = cells.1; greatest_one_is = greatest_one.1; greatest_two_is = greatest_two.1; least_one_is = least_one.1 };
    }))

-- the form over leaves that fit has an answer
pub form_of_leaves-answered : (first second : SideData) (rows columns : ℕ) (leaves : List Leaf) → 0 < length leaves → All (LeafFits rows columns) leaves → IsAnswered (form_of_leaves first second leaves)
form_of_leaves-answered first second rows columns leaves some fit =
    bind-answered (gathering_in leaves) (λ _. such_that (IsFormOf first second leaves)) (gathering_in-answered leaves)
    (λ _ _. such_that-answered (IsFormOf first second leaves) (some-form first second rows columns leaves some fit))
