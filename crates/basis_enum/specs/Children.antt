-- The tableaux of the next level
use Rattle.std.specs.Prelude.{ℕ, ◌+◌, ◌^◌, ◌<◌, ◌≤◌, ◌≡◌, List, Option, length, get_or, map, IfSome}
use Rattle.std.specs.Global.{Box}
use Rattle.std.specs.List.{Contains}
use Rattle.std.specs.List.Sorted.{IsStrictlyIncreasing}
use Rattle.lex_tableau.specs.Rows.{WholeTableau}
use Rattle.lex_tableau.specs.Pivots.{IsFittingPivot}
use Rattle.lex_tableau.specs.Starts.{LinearSystem}
use Rattle.frac128.specs.Steps.{IsFirstUnfit}
use Rattle.frac128.specs.FirstUnfit.{IsFirstUnfitOf}
use Rattle.basis_enum.specs.Levels.{Pivot, IsPivot, no_tableau, parent_of, steps_of}
use Rattle.basis_enum.specs.declared.found_pivots.FoundPivot.{FoundPivot}
use Rattle.basis_enum.specs.declared.children.ChildStop.{ChildStop}
use Rattle.basis_enum.specs.declared.children.Expansion.{Expansion}
use Rattle.basis_enum.specs.declared.children.Made.{Made}
use Rattle.basis_enum.specs.declared.children.Reached.{Reached}
use Rattle.basis_enum.specs.declared.children.ChildStop.TheVariants.{Unfit, Memory}
use Rattle.basis_enum.specs.Bases.{basis_of}
use Rattle.basis_enum.specs.Found.{AreFound, AreFoundIn, AreReady, IsReady}
use Rattle.basis_enum.specs.Marks.{AreUpTo, IsVertexOf}
use Rattle.basis_enum.specs.Next.{no_found_pivot, pivot_of}
use Rattle.basis_enum.specs.Systems.{IsEnumerable, variable_count}

-- new is the tableau after the pivot, all of whose steps fit
abbrev pub IsPivoted : List WholeTableau → Pivot → WholeTableau → Type 0
IsPivoted level p = IsFittingPivot (parent_of level p) p.row p.column

-- pivots from the level
abbrev pub ArePivots : List WholeTableau → List FoundPivot → Type 0
ArePivots level next = (p : FoundPivot) → Contains next p → IsPivot level (pivot_of p)

-- the tableaux after the first n pivots
pub record AreChildren (level : List WholeTableau) (next : List FoundPivot) (n : ℕ)
    (children : List WholeTableau) : Type 0 where
  pub within : n ≤ length next
  pub size : length children ≡ n
  pub each : (i : ℕ) → i < n
      → IsPivoted level (pivot_of (get_or next i no_found_pivot)) (get_or children i no_tableau)

-- the tableaux after all pivots of an expansion
abbrev pub AreAllChildren : Expansion → List WholeTableau → Type 0
AreAllChildren e = AreChildren e.level.now e.next.now (length e.next.now)

-- the tableaux after the first pivots of an expansion, and the pivots from there to new bases
pub record IsMadeFrom (e : Expansion) (made : Made) : Type 0 where
  pub tableaux : AreChildren e.level.now e.next.now (length made.tableaux.items)
      made.tableaux.items
  pub pivots_are : AreFoundIn made.tableaux.items e.known.now made.found.items

-- the pivot of an expansion with this number
abbrev pub pivot_numbered : Expansion → ℕ → Pivot
pivot_numbered e n = pivot_of (get_or e.next.now n no_found_pivot)

-- the tableau after that pivot
abbrev pub IsChildAt : Expansion → ℕ → WholeTableau → Type 0
IsChildAt e n = IsPivoted e.level.now (pivot_numbered e n)

-- that tableau, the pivots from there to new bases, and its vertex, where it has one
pub record IsReachedAt (e : Expansion) (n : ℕ) (r : Reached) : Type 0 where
  pub child : IsChildAt e n r.tableau
  pub found : AreFound r.tableau n e.known.now r.findings.found.items
  pub vertex : IsVertexOf e.system.now r.tableau r.findings.vertex

-- the first step of that pivot that does not fit, or no memory, of which nothing is said
abbrev pub IsChildStopAt : Expansion → ℕ → ChildStop → Type 0
IsChildStopAt e n (Unfit place unfit) =
    (place ≡ n) × IsFirstUnfit (steps_of e.level.now (pivot_numbered e n)) unfit
IsChildStopAt e n Memory = Unit {0}

-- what the pivots of an expansion from this number on give; of a gap nothing is said
pub record ArePiecesFrom (e : Expansion) (first : ℕ) (pieces : List (Option (Box Reached)))
    : Type 0 where
  pub size : first + length pieces ≡ length e.next.now
  pub each : (n : ℕ) (d : Option (Box Reached)) → n < length pieces
      → IfSome (get_or pieces n d) (λ b. IsReachedAt e (first + n) b.value)

-- the first pivot with a step that does not fit, or no memory, of which nothing is said
abbrev pub IsChildStop : Expansion → ChildStop → Type 0
IsChildStop e (Unfit place unfit) = (place < length e.next.now)
    × IsFirstUnfitOf (steps_of e.level.now) (map pivot_of e.next.now)
    (pivot_numbered e place) unfit
IsChildStop e Memory = Unit {0}

-- what a pivot leads to is ready, with variables of the system, and has the pivot's target
pub record LeadsToReady (s : LinearSystem) (level : List WholeTableau)
    (p : FoundPivot) : Type 0 where
  pub ready : (t : WholeTableau) → IsPivoted level (pivot_of p) t → IsReady t
  pub numbered : (t : WholeTableau) → IsPivoted level (pivot_of p) t
      → AreUpTo (variable_count s) t.basics
  pub target : (t : WholeTableau) → IsPivoted level (pivot_of p) t → p.target ≡ basis_of t.nonbasics

-- each of these pivots does
abbrev pub LeadToReady : LinearSystem → List WholeTableau → List FoundPivot → Type 0
LeadToReady s level next = (p : FoundPivot) → Contains next p → LeadsToReady s level p

-- the next level can be made: the system is one whose bases are enumerated, and the pivots are of
-- the level, to tableaux that are ready
pub record IsExpandable (e : Expansion) : Type 0 where
  pub enumerable : IsEnumerable e.system.now
  pub level : AreReady e.level.now
  pub pivots_are : ArePivots e.level.now e.next.now
  pub ready : LeadToReady e.system.now e.level.now e.next.now
  pub known : IsStrictlyIncreasing e.known.now
  pub small : length e.next.now < 2 ^ 32
