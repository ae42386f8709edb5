-- A pivot makes a tableau, or has a first step that does not fit.
use Rattle.std.proofs.Common.{ℕ, ℤ, ◌≡◌, ◌≢◌, ◌<◌, ◌+◌, ◌⊎◌, [], length, Ok, Err, Result, inl, inr, pos, refl, eqb, cond, arith, subst, sym, All, ◌∙◌}
use Rattle.std.proofs.lemmas.Bool.{cases_eq}
use Rattle.frac128.specs.Steps.{Step, StepFits, IsFirstUnfit}
use Rattle.frac128.specs.FirstUnfit.{all_steps_fit}
use Rattle.frac128.proofs.FirstUnfitLemmas.{all_steps_fit-answered}
use Rattle.whole_rows.specs.Pivots.{row_steps}
use Rattle.whole_rows.specs.PivotedRows.{IsPivotedRow, IsPivotRow}
use Rattle.whole_rows.proofs.RowFrameLemmas.{own_steps, pivoted_same, pivot_same}
use Rattle.whole_rows.proofs.MadeRowLemmas.{part_fits, rows_made, pivoted_row_made, pivot_row_made}
use Rattle.rational.specs.Rational.{zero_ℚ}
use Rattle.lex_tableau.specs.Rows.{WholeTableau, row_of, tableau, IsTableau, with_variables_exchanged}
use Rattle.lex_tableau.specs.Pivots.{steps_of_pivot, IsFittingPivot}
use Rattle.lex_tableau.proofs.TableauPivotLemmas.{rated_in, entry_ne, pivot_is_tableau, is_pivot}

module _ (n : WholeTableau) (row column : ℕ) (t : IsTableau n) (rated : row < n.rated) (within : column < length n.nonbasics) (entry : (tableau n).cell row column ≢ zero_ℚ) where
  abbrev size : ℕ
  size = length n.nonbasics + 2

  entry_there : row_of n row (column + 1) ≢ pos 0
  entry_there = entry_ne n row column t (rated_in n row t rated) entry

  -- what the pivot makes of row i
  abbrev HasPivoted : ℕ → (ℕ → ℤ) → Type 0
  HasPivoted i x = (i ≡ row → IsPivotRow size (row_of n row) (column + 1) x) × (i ≢ row → IsPivotedRow size (row_of n i) (row_of n row) (column + 1) x)

  -- rows with the same numbers are made of the same one
  same_made : (i : ℕ) (x y : ℕ → ℤ) → ((p : ℕ) → p < size → y p ≡ x p) → HasPivoted i x → HasPivoted i y
  same_made i x y e h = (λ s. pivot_same size (row_of n row) (column + 1) x y (omega (arith, within)) e (h.0 s), λ d. pivoted_same size (row_of n i) (row_of n row) (column + 1) x y (omega (arith, within)) e (h.1 d))

  -- each row is there where the pivot's steps fit
  row_made : All StepFits (steps_of_pivot n row column) → (i : ℕ) → i < length n.basics → (x : ℕ → ℤ) × HasPivoted i x
  row_made fit i l = elim (cases_eq i row) [
    | inl e ↦ (let made = pivot_row_made size (row_of n row) (column + 1) (t.rows row (rated_in n row t rated)) entry_there (omega arith) (omega (arith, within)) in (made.0, (λ _. made.1, λ d. absurd (d e))))
    | inr d ↦ (let made = pivoted_row_made size (row_of n i) (row_of n row) (column + 1) (t.rows i l) (t.rows row (rated_in n row t rated)) entry_there (omega arith) (omega (arith, within)) (subst (All StepFits) (own_steps size (row_of n) row (column + 1) i d) (part_fits (λ k. cond (eqb k row) [] (row_steps size (row_of n k) (row_of n row) (column + 1))) (length n.basics) i l fit)) in (made.0, (λ e. absurd (d e), λ _. made.1)))
  ]

  -- the tableau that a pivot makes is there where its steps fit
  pub pivot_made : All StepFits (steps_of_pivot n row column) → (m : WholeTableau) × IsFittingPivot n row column m
  pivot_made fit =
      let made = rows_made (length n.basics) size HasPivoted same_made (row_made fit) in
      let shape : length made.0 ≡ length n.numbers = made.1 ∙ sym t.shape in
      let own = (made.2 row (rated_in n row t rated)).0 refl in
      let others = λ (i : ℕ) (l : i < length n.basics). (made.2 i l).1 in (
        with_variables_exchanged n row column made.0,
        record {
          is_tableau = pivot_is_tableau n row column made.0 t rated within entry shape own others;
          pivot = is_pivot n row column made.0 t rated within entry shape own others;
          fits = fit;
        },
      )

  -- a pivot makes a tableau, or has a first step that does not fit
  pub pivot-answered : ¬ ¬ (((m : WholeTableau) × IsFittingPivot n row column m) ⊎ ((step : Step) × IsFirstUnfit (steps_of_pivot n row column) step))
  pivot-answered none = all_steps_fit-answered (steps_of_pivot n row column) by
    where
      by : (answer : Result (Unit {0}) Step) → ¬ (all_steps_fit (steps_of_pivot n row column) answer)
      by (Ok _) fit = none (inl (pivot_made fit))
      by (Err step) first = none (inr (step, first))
