-- The rows of a system fit, or one is the first that does not.
use Rattle.std.proofs.Common.{ℕ, ◌<◌, ◌≡◌, ◌∙◌, List, All, Ok, Err, length, take, get_or, sym, subst, arith}
use Rattle.std.specs.List.{range_with_len}
use Rattle.std.proofs.lemmas.List.{get_or-take, length-take-le}
use Rattle.std.proofs.lemmas.List.FromFn.{length-range_with_len, get_or-range_with_len}
use Rattle.rational.specs.Rational.{ℚ}
use Rattle.frac128.specs.Steps.{Step, IsFirstUnfit}
use Rattle.frac128.specs.FirstUnfit.{StepsFit}
use Rattle.frac128.proofs.FirstUnfitLemmas.{first_unfit_here, front_has}
use Rattle.whole_rows.specs.StartRows.{start_steps, start_rows_fit}

module _ (rows count : ℕ) (cells : List ℚ) where
  abbrev numbers : List ℕ
  numbers = range_with_len 0 rows

  long : length numbers ≡ rows
  long = length-range_with_len 0 rows

  is_there : (i d : ℕ) → i < rows → get_or numbers i d ≡ i
  is_there i d l = omega (arith, get_or-range_with_len 0 rows i d l)

  -- the steps of each row fit
  pub each_row_fits : ((i : ℕ) → i < rows → StepsFit (start_steps count cells) i) → start_rows_fit rows count cells (Ok tt)
  each_row_fits h =
      λ i d b. let l : i < rows = omega (arith, b, long) in subst (StepsFit (start_steps count cells)) (sym (is_there i d l)) (h i l)

  -- those of the rows before row i fit
  rows_before : (i : ℕ) → i < rows → ((j : ℕ) → j < i → StepsFit (start_steps count cells) j) → All (StepsFit (start_steps count cells)) (take i numbers)
  rows_before i l h =
      λ j d b. let before : j < i = omega (arith, b, length-take-le i numbers (omega (arith, long, l))) in
      subst (StepsFit (start_steps count cells)) (sym (get_or-take i numbers j d before ∙ is_there j d (omega (arith, before, l)))) (h j before)

  -- and row i has one that does not
  pub row_unfit : (i : ℕ) (step : Step) → i < rows → ((j : ℕ) → j < i → StepsFit (start_steps count cells) j) → IsFirstUnfit (start_steps count cells i) step → start_rows_fit rows count cells (Err (i, step))
  row_unfit i step l h f =
      first_unfit_here (start_steps count cells) numbers i i (omega (arith, long, l)) (sym (is_there i i l)) step (rows_before i l h) f

  -- it is one of the rows
  pub unfit_row_within : (i : ℕ) (step : Step) → start_rows_fit rows count cells (Err (i, step)) → i < rows
  unfit_row_within i step h =
      front_has (λ j. j < rows) h.before h.after i (subst (All (λ j. j < rows)) h.is_there (λ j d b. let l : j < rows = omega (arith, b, long) in subst (λ n. n < rows) (sym (is_there j d l)) l))
