-- The path of a program over whole numbers, step by step, and the first step that does not fit.
use Rattle.std.specs.Prelude.{ℕ, zero, suc, ◌+◌, ◌<◌, ◌≡◌, length, slice_index_or}
use Rattle.zero_sum_lp.specs.Paths.{LinearProgram, IsFeasibleAndBounded, IsEntering, IsOptimal}
use Rattle.lex_tableau.specs.declared.unfit_pivot.UnfitPivot.{UnfitPivot}
use Rattle.lex_tableau.specs.Rows.{WholeTableau, tableau}
use Rattle.lex_tableau.specs.Ratio.{IsLeavingRow}
use Rattle.frac128.specs.Steps.{IsFirstUnfit}
use Rattle.lex_tableau.specs.Pivots.{IsFittingPivot, pivot_number, steps_of_pivot}

-- the linear program that a tableau is the start of
abbrev pub linear_program : WholeTableau → LinearProgram
linear_program n = record {
  bound = suc (length n.basics + length n.nonbasics);
  rated = n.rated;
  start = tableau n;
}

-- a tableau that is a start: its rated basic variables are those of the start, and its linear
-- program is feasible and bounded
pub record IsProgramStart (n : WholeTableau) : Type 0 where
  pub basics : (i : ℕ) → i < n.rated → slice_index_or n.starts i 0 ≡ slice_index_or n.basics i 0
  pub program : IsFeasibleAndBounded (linear_program n)

-- one step of the path: the entering column, its lexicographic row, and the pivot, all of whose
-- steps of arithmetic fit
pub record IsExactStep (m n : WholeTableau) : Type 0 where
  pub column : ℕ
  pub row : ℕ
  pub entering : IsEntering m.rated (tableau m) column
  pub leaving : IsLeavingRow m column row
  pub fitting : IsFittingPivot m row column n

-- n is the tableau after k steps of the path, each of which fits
abbrev pub LeadsTo : WholeTableau → ℕ → WholeTableau → Type 0
LeadsTo first zero n = n ≡ first
LeadsTo first (suc k) n = (m : WholeTableau) × (LeadsTo first k m × IsExactStep m n)

-- n ends the path: each step before fits, and no entry of the objective row is negative
pub record EndsPath (first n : WholeTableau) : Type 0 where
  pub count : ℕ
  pub path : LeadsTo first count n
  pub optimal : IsOptimal n.rated (tableau n)

-- the first pivot of the path that has a step that does not fit
pub record IsUnfitPivot (first : WholeTableau) (stop : UnfitPivot) : Type 0 where
  pub count : ℕ
  pub before : WholeTableau
  pub path : LeadsTo first count before
  pub column : ℕ
  pub row : ℕ
  pub enters : IsEntering before.rated (tableau before) column
  pub leaves : IsLeavingRow before column row
  pub variable : stop.entering ≡ (tableau before).nonbasic column
  pub is_number : stop.number ≡ pivot_number (suc count)
  pub first_unfit : IsFirstUnfit (steps_of_pivot before row column) stop.unfit
