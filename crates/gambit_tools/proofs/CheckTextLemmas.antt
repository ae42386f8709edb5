-- What the verdicts of lines tell.
use Rattle.std.proofs.Common.{ℕ, Bool, true, false, List, Ok}
use Rattle.game_core.specs.declared.game.Game.{Game}
use Rattle.game_core.specs.declared.game.Game.TheVariants.{Strategic, Extensive}
use Rattle.ne_checker.specs.CheckLaws.{TableChecksTell, TreeChecksTell}
use Rattle.two_player_tools.specs.GameTypes.{IsGame}
use Rattle.gambit_tools.specs.Check.{IsCheckText, verdicts}

-- a tree whose recall is found recalls
pub verdicts-tell : TableChecksTell → TreeChecksTell → (strategic : Bool) (game : Game) (lines text : List ℕ) → IsGame game → verdicts strategic game lines (Ok text) → IsCheckText strategic game lines text
verdicts-tell tables trees true (Strategic table) lines text w h = (h.0, h.1, tables h.0 lines text h.2)
verdicts-tell tables trees false (Strategic table) lines text w h = (h.0, h.1, tables h.0 lines text h.2)
verdicts-tell tables trees true (Extensive tree) lines text w h = (h.0, h.1, tables h.0 lines text h.2)
verdicts-tell tables trees false (Extensive tree) lines text w h = trees tree lines text w h.1.all_recall h.2
