-- What the tools answer: of a tree subgame by subgame, where that is asked for.
use Rattle.std.proofs.Common.{◌≡◌, ◌⊎◌, inl, inr, refl, Bool, true, false}
use Rattle.answers.specs.Answers.{IsSingle}
use Rattle.game_core.specs.Table.{GameTable}
use Rattle.game_core.specs.Tree.{GameTree}
use Rattle.game_core.specs.declared.game.Game.{Game}
use Rattle.game_core.specs.declared.game.Game.TheVariants.{Strategic, Extensive}
use Rattle.subgames.specs.CutLaws.{SetsStandInOneCut}
use Rattle.two_player_tools.specs.GameTypes.{IsGame}
use Rattle.two_player_tools.specs.LcpLaws.{LcpTextsAreEquilibria}
use Rattle.two_player_tools.specs.LpLaws.{LpTextsAreSolutions}
use Rattle.two_player_tools.specs.Perfect.{lcp_tool, lp_tool}
use Rattle.two_player_tools.specs.declared.forms.Method.TheVariants.{LinearProgram, Complementarity}
use Rattle.two_player_tools.proofs.FormSingleLemmas.{RecallsAreSingle}
use Rattle.two_player_tools.proofs.KeptPropertyLemmas.{TreesAreGames}
use Rattle.two_player_tools.proofs.LcpSingleLemmas.{lcp-single}
use Rattle.two_player_tools.proofs.LcpTextLemmas.{lcp_texts}
use Rattle.two_player_tools.proofs.LpSingleLemmas.{lp-single}
use Rattle.two_player_tools.proofs.LpTextLemmas.{lp_texts}
use Rattle.two_player_tools.proofs.PerfectEquilibriumLemmas.{perfect_texts}
use Rattle.two_player_tools.proofs.PerfectSingleLemmas.{perfect_text-single}

-- ---- which way
-- a game that is solved as a whole: it is no tree, or is not to be solved subgame by subgame
abbrev IsWhole : Bool → Game → Type 0
IsWhole perfect game = (perfect ≡ false) ⊎ ((t : GameTree) → game ≡ Extensive t → ⊥)

-- what is so of each such game
pub whole-game : (P : Bool → Game → Type 0) (perfect : Bool) (game : Game) → IsWhole perfect game → P false game → ((t : GameTable) → P false (Strategic t) → P true (Strategic t)) → P perfect game
whole-game P false game whole p table = p
whole-game P true (Strategic t) whole p table = table t p
whole-game P true (Extensive t) (inl e) p table = absurd (let h : true ≡ false = e in cc)
whole-game P true (Extensive t) (inr h) p table = absurd (h t refl)

module _ (law : SetsStandInOneCut) (laws : TreesAreGames) where
  -- ---- texts
  -- each text of `lcp` is that of an equilibrium
  pub lcp_tool-texts : LcpTextsAreEquilibria
  lcp_tool-texts strategic true (Extensive t) text w h = perfect_texts law laws Complementarity t text w h
  lcp_tool-texts strategic true (Strategic t) text w h = lcp_texts laws strategic (Strategic t) text w h
  lcp_tool-texts strategic false (Extensive t) text w h = lcp_texts laws strategic (Extensive t) text w h
  lcp_tool-texts strategic false (Strategic t) text w h = lcp_texts laws strategic (Strategic t) text w h

  -- each text of `lp` is that of a solution, or of an equilibrium in every subgame
  pub lp_tool-texts : LpTextsAreSolutions
  lp_tool-texts strategic prices true (Extensive t) text w h = perfect_texts law laws LinearProgram t text w h
  lp_tool-texts strategic prices true (Strategic t) text w h = lp_texts laws strategic prices (Strategic t) text w h
  lp_tool-texts strategic prices false (Extensive t) text w h = lp_texts laws strategic prices (Extensive t) text w h
  lp_tool-texts strategic prices false (Strategic t) text w h = lp_texts laws strategic prices (Strategic t) text w h

  -- ---- at most one answer
  module _ (recalls : RecallsAreSingle) where
    -- of `lcp`
    pub lcp_tool-single : (strategic perfect : Bool) (game : Game) → IsGame game → IsSingle (lcp_tool strategic perfect game)
    lcp_tool-single strategic true (Extensive t) w = perfect_text-single Complementarity t law laws recalls w
    lcp_tool-single strategic true (Strategic t) w = lcp-single strategic (Strategic t) laws recalls w
    lcp_tool-single strategic false (Extensive t) w = lcp-single strategic (Extensive t) laws recalls w
    lcp_tool-single strategic false (Strategic t) w = lcp-single strategic (Strategic t) laws recalls w

    -- of `lp`
    pub lp_tool-single : (strategic prices perfect : Bool) (game : Game) → IsGame game → IsSingle (lp_tool strategic prices perfect game)
    lp_tool-single strategic prices true (Extensive t) w = perfect_text-single LinearProgram t law laws recalls w
    lp_tool-single strategic prices true (Strategic t) w = lp-single strategic prices (Strategic t) laws recalls w
    lp_tool-single strategic prices false (Extensive t) w = lp-single strategic prices (Extensive t) laws recalls w
    lp_tool-single strategic prices false (Strategic t) w = lp-single strategic prices (Strategic t) laws recalls w
