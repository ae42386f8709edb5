-- The bases of a system in stages: level 0 is the start's basis, and a level's new neighbours are
-- the next level. Levels count from 0.
use Rattle.std.specs.Prelude.{ℕ, zero, suc, ◌<◌, ◌≡◌, List, [], ◌++◌, Contains, length, Ok, Err}
use Rattle.answers.specs.Answers.{Answer, ◌>>=◌, ◌>>◌, only, such_that, refused_by, IsSingle}
use Rattle.frac128.specs.Steps.{Step}
use Rattle.frac128.specs.FirstUnfit.{IsFirstUnfitOf, all_fit}
use Rattle.game_core.specs.Limits.{within}
use Rattle.game_core.specs.declared.too_large.What.TheVariants as what
use Rattle.lex_tableau.specs.Rows.{WholeTableau}
use Rattle.lex_tableau.specs.Starts.{LinearSystem}
use Rattle.lex_tableau.specs.StartStops.{start_in}
use Rattle.lex_tableau.specs.declared.tableau.StartStop.{StartStop}
use Rattle.lex_tableau.specs.declared.tableau.StartStop.TheVariants as starts
use Rattle.lists.specs.Listed.{AreListed}
use Rattle.basis_enum.specs.Levels.{Levels, Pivot, AreNextPivots, IsNextLevel, parent_of, entering, steps_of, basis_count, most_bases, first_level}
use Rattle.basis_enum.specs.declared.stop.EnumerationStop.{EnumerationStop}
use Rattle.basis_enum.specs.declared.stop.EnumerationStop.TheVariants.{Start, Range, TooLarge, Memory}

-- ---- level 0
-- a stop of the start as one of the enumeration
abbrev pub told_start : StartStop → EnumerationStop
told_start (starts.Unfit row unfit) = Start row unfit
told_start starts.Memory = Memory

-- the start's basis
abbrev pub start_level : LinearSystem → Answer EnumerationStop Levels
start_level s = refused_by told_start (start_in s) >>= (λ start. only (first_level start))

-- ---- the level after level k
-- the pivots to it, where there are any
abbrev pub next_pivots : Levels → Answer EnumerationStop (List Pivot)
next_pivots l = such_that (λ pivots. AreNextPivots l pivots × (0 < length pivots))

-- so many bases are not too many
abbrev pub bases_within : ℕ → Answer EnumerationStop (Unit {0})
bases_within bases = refused_by TooLarge (within what.Bases most_bases bases)

-- the first of these pivots with a step that does not fit is told by its level and basis, the
-- variable that enters and the step
pub record IsUnfitPivot (k : ℕ) (level : List WholeTableau) (pivots : List Pivot)
    (stop : EnumerationStop) : Type 0 where
  pub pivot : Pivot
  pub step : Step
  pub first : IsFirstUnfitOf (steps_of level) pivots pivot step
  pub basis : List ℕ
  pub ascending : AreListed (Contains (parent_of level pivot).basics) basis
  pub told : stop ≡ Range k basis (entering level pivot) step

-- the steps of these pivots from level k all fit
abbrev pub pivots_fit : ℕ → List WholeTableau → List Pivot → Answer EnumerationStop (Unit {0})
pivots_fit k level pivots (Ok _) = all_fit (steps_of level) pivots (Ok tt)
pivots_fit k level pivots (Err stop) = IsUnfitPivot k level pivots stop

-- the pivots, the number of bases, the steps, and the tableaux after the pivots
abbrev pub next_level : ℕ → Levels → Answer EnumerationStop Levels
next_level k l =
    next_pivots l
    >>= (λ pivots. bases_within (basis_count l pivots)
    >> (pivots_fit k l.level pivots >> such_that (IsNextLevel l pivots)))

-- ---- all levels
-- level k, and those before it
abbrev pub level_of : LinearSystem → ℕ → Answer EnumerationStop Levels
level_of s zero = start_level s
level_of s (suc k) = level_of s k >>= next_level k

-- no basis is next to this level, and these are the tableaux of all levels
pub record AreReached (s : LinearSystem) (reached : List WholeTableau) : Type 0 where
  pub number : ℕ
  pub levels : Levels
  pub is_level : level_of s number (Ok levels)
  pub none : AreNextPivots levels []
  pub all : reached ≡ levels.before ++ levels.level

-- the tableaux of all levels; or why one of them is not reached
abbrev pub reached_in : LinearSystem → Answer EnumerationStop (List WholeTableau)
reached_in s (Ok reached) = AreReached s reached
reached_in s (Err stop) = (k : ℕ) × level_of s k (Err stop)

-- A system has at most one answer: a list of tableaux, or why one of them is not reached.
abbrev pub ReachedAreSingle : Type 0
ReachedAreSingle = (s : LinearSystem) → IsSingle (reached_in s)
