-- What each text of `lcp` is: the line of an equilibrium of the file's own game.
use Rattle.std.specs.Prelude.{ℕ, ◌≡◌, Bool, true, List, Ok}
use Rattle.rational.specs.Rational.{ℚ}
use Rattle.game_theory.specs.Lines.{line_text}
use Rattle.game_core.specs.declared.game.Game.{Game}
use Rattle.game_core.specs.declared.game.Game.TheVariants.{Extensive}
use Rattle.two_player_tools.specs.EquilibriumEntries.{AreOfEquilibrium}
use Rattle.two_player_tools.specs.GameTypes.{IsGame}
use Rattle.two_player_tools.specs.Perfect.{lcp_tool}
use Rattle.two_player_tools.specs.PerfectTexts.{IsPerfectText}

-- a text is the line of an equilibrium
abbrev pub IsEquilibriumText : Bool → Game → List ℕ → Type 0
IsEquilibriumText strategic game text =
    (list : List ℚ) × AreOfEquilibrium strategic game list × (text ≡ line_text list)

-- what a text of `lcp` is: the line of an equilibrium, which is subgame-perfect where a tree is
-- solved subgame by subgame
abbrev pub IsLcpText : (strategic perfect : Bool) → Game → List ℕ → Type 0
IsLcpText strategic true (Extensive t) text = IsPerfectText t text
IsLcpText strategic _ game text = IsEquilibriumText strategic game text

-- each text of `lcp` for a game is so
abbrev pub LcpTextsAreEquilibria : Type 0
LcpTextsAreEquilibria =
    (strategic perfect : Bool) (game : Game) (text : List ℕ) → IsGame game
    → lcp_tool strategic perfect game (Ok text) → IsLcpText strategic perfect game text
