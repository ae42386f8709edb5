-- The lines of the choices that pass.
use Rattle.std.specs.Prelude.{ℕ, ◌≡◌, Bool, List, All, Contains}
use Rattle.game_theory.specs.Behaviour.{pure, IsWholeChoice}
use Rattle.game_theory.specs.Lines.{AreInOrder, IsTextOf}
use Rattle.game_theory.specs.TreeEntries.{tree_entries}
use Rattle.game_theory.specs.Trees.{Tree}
use Rattle.rational.specs.Rational.{ℚ}
use Rattle.enumpure_trees.specs.PassingChoices.{Passes}

-- the line of a choice: its behaviour
abbrev pub choice_line : Tree → (ℕ → ℕ) → List ℚ
choice_line t choice = tree_entries t (pure choice)

-- the line of a choice that passes
pub record IsPassingLine (agents perfect : Bool) (t : Tree) (line : List ℚ) : Type 0 where
  pub choice : ℕ → ℕ
  pub is_choice : IsWholeChoice t choice
  pub passes : Passes agents perfect t choice
  pub is_line : line ≡ choice_line t choice

-- The lines of the choices that pass: in order, each the line of one, and each of these has its
-- line.
pub record ArePassingLines (agents perfect : Bool) (t : Tree) (lines : List (List ℚ)) : Type 0 where
  pub in_order : AreInOrder lines
  pub sound : All (IsPassingLine agents perfect t) lines
  pub complete : (choice : ℕ → ℕ) → IsWholeChoice t choice → Passes agents perfect t choice
      → Contains lines (choice_line t choice)

-- the lines one after another
abbrev pub IsPassingText : Bool → Bool → Tree → List ℕ → Type 0
IsPassingText agents perfect t = IsTextOf (ArePassingLines agents perfect t)
