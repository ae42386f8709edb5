-- The laws of the path, as statements. Each is proved by a function of src/laws.rt.
use Rattle.std.specs.Prelude.{ℕ, suc, ◌<◌, ◌^◌, ◌⊎◌}
use Rattle.linear_systems.specs.Tableau.{Tableau}
use Rattle.linear_systems.specs.Lex.{IsLexLess}
use Rattle.linear_systems.specs.Rows.{key, IsLexicographicRow, Alike}
use Rattle.zero_sum_lp.specs.Paths.{LinearProgram, IsFeasibleAndBounded, IsEntering, IsOptimal, IsPathPivot, IsAfter}

-- Each step makes the objective row, with its coefficients of the start's basic variables,
-- lexicographically greater.
abbrev pub TheObjectiveRowGrows : Type 0
TheObjectiveRowGrows =
    (g : LinearProgram) (n : ℕ) (t u : Tableau) → IsFeasibleAndBounded g → IsAfter g n t
    → IsPathPivot g t u
    → IsLexLess (suc g.rated) (key g.start.basic t g.rated) (key g.start.basic u g.rated)

-- So the path ends: it has fewer than 2^bound steps, where all variables are below the bound.
abbrev pub PathsEnd : Type 0
PathsEnd =
    (g : LinearProgram) (n : ℕ) (t : Tableau) → IsFeasibleAndBounded g → IsAfter g n t
    → n < 2 ^ g.bound

-- A tableau of the path is optimal, or has an entering column, which has a lexicographic row: the
-- objective is not unbounded.
abbrev pub PathsGoOn : Type 0
PathsGoOn =
    (g : LinearProgram) (n : ℕ) (t : Tableau) → IsFeasibleAndBounded g → IsAfter g n t
    → IsOptimal g.rated t
    ⊎ ((c : ℕ) × (IsEntering g.rated t c
    × ((r : ℕ) × IsLexicographicRow g.rated g.start.basic t c r)))

-- The path is determined: at most one tableau after each number of steps, and none after an
-- optimal one.
pub record PathsAreDetermined : Type 0 where
  pub once : (g : LinearProgram) (n : ℕ) (t u : Tableau) → IsFeasibleAndBounded g → IsAfter g n t
      → IsAfter g n u → Alike t u
  pub end : (g : LinearProgram) (n : ℕ) (t u : Tableau) → IsFeasibleAndBounded g → IsAfter g n t
      → IsOptimal g.rated t → IsAfter g (suc n) u → ⊥
