-- What holds of tested entries.
use Rattle.std.specs.Prelude.{ℕ, ◌≡◌, List, All, Ok}
use Rattle.rational.specs.Rational.{ℚ}
use Rattle.game_theory.specs.Lines.{entries}
use Rattle.game_theory.specs.Mixed.{Mixed, IsValid as is_valid_profile}
use Rattle.game_theory.specs.Behaviour.{Behaviour, IsValid}
use Rattle.game_theory.specs.TreeEntries.{tree_entries}
use Rattle.game_theory.specs.Trees.{Tree, IsTree}
use Rattle.game_theory.specs.OwnSets.{action_counts}
use Rattle.frac128.specs.Steps.{StepFits}
use Rattle.behaviour_profile.specs.EntryTests.{Test, IsNotNegative, CanBeAdded, SumsToOne, profile_in, tests_from}

-- where a test is of an addition, it fits
abbrev pub AdditionFits : Test → Type 0
AdditionFits (IsNotNegative place entry) = Unit {0}
AdditionFits (CanBeAdded step) = StepFits step
AdditionFits (SumsToOne group total) = Unit {0}

-- each entry can be added to those before it in its group, where the groups have these sizes
abbrev pub AdditionsFit : List ℕ → List ℚ → Type 0
AdditionsFit sizes list = All AdditionFits (tests_from list 0 0 sizes)

-- Entries of a table that are all right are those of a valid mixed profile; and those of a valid
-- one are all right, where they can be added.
pub record TestedEntriesAreProfiles : Type 0 where
  pub sound : (sizes : List ℕ) (list : List ℚ) → profile_in sizes list (Ok list)
      → (m : Mixed) × (list ≡ entries sizes m) × is_valid_profile sizes m
  pub complete : (sizes : List ℕ) (m : Mixed) → is_valid_profile sizes m
      → AdditionsFit sizes (entries sizes m)
      → profile_in sizes (entries sizes m) (Ok (entries sizes m))

-- likewise those of a tree and valid behaviour
pub record TestedEntriesAreBehaviours : Type 0 where
  pub sound : (t : Tree) (list : List ℚ) → IsTree t → profile_in (action_counts t) list (Ok list)
      → (b : Behaviour) × (list ≡ tree_entries t b) × IsValid t b
  pub complete : (t : Tree) (b : Behaviour) → IsTree t → IsValid t b
      → AdditionsFit (action_counts t) (tree_entries t b)
      → profile_in (action_counts t) (tree_entries t b) (Ok (tree_entries t b))
