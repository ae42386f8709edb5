-- The path over whole numbers: each pivot's steps fit, and it ends where z0 is 0 or at the first
-- step that does not fit.
use Rattle.std.specs.Prelude.{ℕ, suc, ◌<◌, ◌≤◌, ◌≡◌, ◌≢◌, ◌⊎◌, List, [], ◌∷◌, length, slice_index_or}
use Rattle.rational.specs.Rational.{ℚ, zero_ℚ}
use Rattle.linear_systems.specs.Rows.{basic_solution, IsLexicographicRow, Alike}
use Rattle.game_core.specs.Limits.{most_rows}
use Rattle.lex_tableau.specs.declared.unfit_pivot.UnfitPivot.{UnfitPivot}
use Rattle.lex_tableau.specs.Rows.{WholeTableau, tableau, IsTableau}
use Rattle.frac128.specs.Steps.{IsFirstUnfit}
use Rattle.lex_tableau.specs.Pivots.{IsFittingPivot, pivot_number, steps_of_pivot}
use Rattle.lemke_pivot.specs.Problems.{ExcludesRays}
use Rattle.lemke_pivot.specs.ProblemPaths.{w_of, z_of, z0_of, complement, start, IsFirstRow, Replaces}

-- c enters s on its lexicographic row and l leaves; the steps of the pivot fit, and t is what it
-- makes
pub record ReplacesExactly (n : ℕ) (s : WholeTableau) (c l : ℕ) (t : WholeTableau) : Type 0 where
  pub replaces : Replaces n (tableau s) c l (tableau t)
  pub fitting : IsFittingPivot s replaces.row replaces.column t

-- The path from m has come to t, and c is next. The list has the tableaux after the first pivot and
-- before t, the last one first. z0 enters at row r; as long as the value of z0 is not 0, the
-- variable that is next enters, and the complement of the one that leaves is next.
abbrev pub ExactPathTo : WholeTableau → ℕ → ℕ → List WholeTableau → WholeTableau → ℕ → Type 0
ExactPathTo m n r [] t c = IsTableau m × IsFittingPivot m r n t × (c ≡ z_of n r)
ExactPathTo m n r (s ∷ ss) t c = (d : ℕ) × (l : ℕ) × ExactPathTo m n r ss s d
    × (basic_solution (tableau s) (z0_of n) ≢ zero_ℚ) × ReplacesExactly n s d l t
    × (c ≡ complement n l)

-- a path of k pivots, by the first of which z0 enters at row r, leads from m to t
abbrev pub LeadsTo : WholeTableau → ℕ → ℕ → ℕ → WholeTableau → Type 0
LeadsTo m n r k t =
    (earlier : List WholeTableau) × (c : ℕ) × ExactPathTo m n r earlier t c
    × (k ≡ suc (length earlier))

-- the path ends at t, where the value of z0 is 0
abbrev pub EndsSolved : WholeTableau → ℕ → ℕ → WholeTableau → Type 0
EndsSolved m n r t =
    (earlier : List WholeTableau) × (c : ℕ) × ExactPathTo m n r earlier t c
    × (basic_solution (tableau t) (z0_of n) ≡ zero_ℚ)

-- the path has come to t, where the next pivot has a step that does not fit
pub record StopsAt (m : WholeTableau) (n r : ℕ) (stop : UnfitPivot)
    (earlier : List WholeTableau) (t : WholeTableau) : Type 0 where
  pub path : ExactPathTo m n r earlier t stop.entering
  pub goes_on : basic_solution (tableau t) (z0_of n) ≢ zero_ℚ
  pub column : ℕ
  pub row : ℕ
  pub column_in : column < (tableau t).width
  pub entering_is : (tableau t).nonbasic column ≡ stop.entering
  pub chosen : IsLexicographicRow n w_of (tableau t) column row
  pub unfit : IsFirstUnfit (steps_of_pivot t row column) stop.unfit
  pub number : stop.number ≡ pivot_number (suc (suc (length earlier)))

-- A step that does not fit ends the path: in the first pivot, by which z0 enters, or in a later
-- one. Pivots count from 1.
abbrev pub EndsUnfit : WholeTableau → ℕ → ℕ → UnfitPivot → Type 0
EndsUnfit m n r stop =
    ((stop.number ≡ 1) × (stop.entering ≡ z0_of n) × IsTableau m
    × IsFirstUnfit (steps_of_pivot m r n) stop.unfit)
    ⊎ ((earlier : List WholeTableau) × (t : WholeTableau) × StopsAt m n r stop earlier t)

-- m is the start of a problem that excludes rays, with n rows, and z0 enters at row r
pub record IsPathStart (n r : ℕ) (m : WholeTableau) : Type 0 where
  pub few : n ≤ most_rows
  pub matrix : ℕ → ℕ → ℚ
  pub right : ℕ → ℚ
  pub alike : Alike (start n matrix right) (tableau m)
  pub excludes_rays : ExcludesRays n matrix right
  pub first : IsFirstRow n right r
  pub starts : (i : ℕ) → i < n → slice_index_or m.starts i 0 ≡ w_of i
  pub rated : m.rated ≡ n
  pub valid : IsTableau m
