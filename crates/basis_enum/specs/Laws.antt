-- The laws of levels, as statements. Each is proved by a function of src/lib.rt.
use Rattle.std.specs.Prelude.{ℕ, ◌<◌, ◌≡◌, List, length, get_or, Ok}
use Rattle.std.specs.List.{Contains}
use Rattle.rational.specs.Rational.{ℚ}
use Rattle.linear_systems.specs.Points.{IsExtremePoint}
use Rattle.linear_systems.specs.Rows.{basic_solution}
use Rattle.linear_systems.specs.ExtremePointLaws.{HasPoint}
use Rattle.lex_tableau.specs.Rows.{WholeTableau, tableau}
use Rattle.lex_tableau.specs.Starts.{LinearSystem, system_of, IsSystem}
use Rattle.basis_enum.specs.Bases.{basis_of, AreVariables, ComesFirst}
use Rattle.basis_enum.specs.Levels.{no_tableau}
use Rattle.basis_enum.specs.Systems.{IsEnumerable}
use Rattle.basis_enum.specs.Reached.{reached_in}

-- Each extreme point is the basic solution of a reached tableau, degenerate ones too, ..
abbrev pub CompleteLevelsCover : Type 0
CompleteLevelsCover =
    (s : LinearSystem) (ts : List WholeTableau) (p : ℕ → ℚ) → IsSystem s → IsEnumerable s
    → reached_in s (Ok ts) → IsExtremePoint (system_of s) p
    → HasPoint (system_of s) (length ts) (λ k. tableau (get_or ts k no_tableau)) p

-- .. and the basic solutions are extreme points.
abbrev pub CompleteLevelsAreExtreme : Type 0
CompleteLevelsAreExtreme =
    (s : LinearSystem) (ts : List WholeTableau) (k : ℕ) → IsSystem s → IsEnumerable s
    → reached_in s (Ok ts) → k < length ts
    → IsExtremePoint (system_of s) (basic_solution (tableau (get_or ts k no_tableau)))

-- The less of two bases is the one that has the first variable in which they differ: numbers are in
-- the order of ascending lists. Equal numbers are equal bases.
pub record NumbersOrderBases : Type 0 where
  pub less : (xs ys : List ℕ) → AreVariables xs → AreVariables ys → basis_of xs < basis_of ys
      → ComesFirst xs ys
  pub equal : (xs ys : List ℕ) (v : ℕ) → AreVariables xs → AreVariables ys
      → basis_of xs ≡ basis_of ys → Contains xs v → Contains ys v
