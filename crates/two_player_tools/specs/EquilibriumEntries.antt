-- The entries of an equilibrium of the file's own game.
use Rattle.std.specs.Prelude.{◌≡◌, Bool, false, List, Ok}
use Rattle.rational.specs.Rational.{ℚ}
use Rattle.game_theory.specs.Behaviour.{Behaviour}
use Rattle.game_theory.specs.Equilibrium.{IsEquilibrium as is_table_equilibrium}
use Rattle.game_theory.specs.Lines.{entries}
use Rattle.game_theory.specs.Mixed.{Mixed}
use Rattle.game_theory.specs.TreeEntries.{tree_entries}
use Rattle.game_theory.specs.TreeEquilibrium.{IsEquilibrium}
use Rattle.game_core.specs.Table.{GameTable, game_of, strategy_counts}
use Rattle.game_core.specs.TreeGame.{game_of_tree}
use Rattle.game_core.specs.declared.game.Game.{Game}
use Rattle.game_core.specs.declared.game.Game.TheVariants.{Extensive}
use Rattle.two_player_tools.specs.StrategicForms.{strategic_table}

-- on a tree, unless strategies are asked for, the entries of behaviour that is an equilibrium; else
-- those of a mixed profile of the strategic form that is one
abbrev pub AreOfEquilibrium : Bool → Game → List ℚ → Type 0
AreOfEquilibrium false (Extensive t) list =
    (b : Behaviour) × IsEquilibrium (game_of_tree t) b × (list ≡ tree_entries (game_of_tree t) b)
AreOfEquilibrium _ game list =
    (table : GameTable) × strategic_table game (Ok table)
    × (m : Mixed) × is_table_equilibrium (game_of table) m
    × (list ≡ entries (strategy_counts table) m)
