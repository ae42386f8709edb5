-- What the types of tables and trees keep of a game.
use Rattle.game_core.specs.Table.{IsTable}
use Rattle.game_core.specs.Tree.{IsGameTree}
use Rattle.game_core.specs.declared.game.Game.{Game}
use Rattle.game_core.specs.declared.game.Game.TheVariants.{Strategic, Extensive}

-- a table keeps `IsTable`, a tree `IsGameTree`
abbrev pub IsGame : Game → Type 0
IsGame (Strategic table) = IsTable table
IsGame (Extensive tree) = IsGameTree tree
