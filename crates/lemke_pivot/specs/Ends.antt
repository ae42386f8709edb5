-- The end of the path of a problem.
use Rattle.std.specs.Prelude.{ℕ, ◌≡◌, Ok, Err}
use Rattle.answers.specs.Answers.{Answer, IsSingle}
use Rattle.lex_tableau.specs.Rows.{tableau}
use Rattle.lex_tableau.specs.declared.unfit_pivot.UnfitPivot.{UnfitPivot}
use Rattle.lemke_pivot.specs.Parts.{Problem, IsProblem, size_of}
use Rattle.lemke_pivot.specs.ProblemPaths.{IsLeastRow}
use Rattle.lemke_pivot.specs.Paths.{EndsSolved, EndsUnfit}

-- z0 enters at the last of the rows with the least right side
abbrev pub BeginsAt : Problem → ℕ → Type 0
BeginsAt p row = IsLeastRow (size_of p) (tableau p.tableau).right row

-- the solution of a problem: the path, each of whose steps fits, ends there with z0 at 0
pub record IsSolutionOf (p s : Problem) : Type 0 where
  pub first : s.first ≡ p.first
  pub second : s.second ≡ p.second
  pub row : ℕ
  pub begins : BeginsAt p row
  pub path : EndsSolved p.tableau (size_of p) row s.tableau

-- the first pivot of the path that has a step that does not fit
pub record IsUnfitPivot (p : Problem) (stop : UnfitPivot) : Type 0 where
  pub row : ℕ
  pub begins : BeginsAt p row
  pub path : EndsUnfit p.tableau (size_of p) row stop

-- the solution of a problem, where all steps of its path fit; or the first pivot with one that does
-- not
abbrev pub solved_in : Problem → Answer UnfitPivot Problem
solved_in p (Ok s) = IsSolutionOf p s
solved_in p (Err stop) = IsUnfitPivot p stop

-- A problem's path has at most one end.
abbrev pub EndsAreSingle : Type 0
EndsAreSingle = (p : Problem) → IsProblem p → IsSingle (solved_in p)
