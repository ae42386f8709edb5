-- The text of `gambit enumpure`.
use Rattle.std.specs.Prelude.{ℕ, List}
use Rattle.game_theory.specs.Profiles.{Game}
use Rattle.game_theory.specs.Lines.{ArePureEquilibria, IsTextOf}

-- the lines of the game's pure equilibria, one after another
abbrev pub IsPureEquilibriaText : Game → List ℕ → Type 0
IsPureEquilibriaText game = IsTextOf (ArePureEquilibria game)
