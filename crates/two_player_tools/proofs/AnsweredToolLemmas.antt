-- Each game has an answer by each tool.
use Rattle.std.proofs.Common.{Bool, true, false}
use Rattle.answers.specs.Answered.{IsAnswered}
use Rattle.game_core.specs.declared.game.Game.{Game}
use Rattle.game_core.specs.declared.game.Game.TheVariants.{Strategic, Extensive}
use Rattle.subgames.specs.CutLaws.{SetsStandInOneCut}
use Rattle.two_player_tools.specs.GameTypes.{IsGame}
use Rattle.two_player_tools.specs.Perfect.{lcp_tool, lp_tool}
use Rattle.two_player_tools.specs.declared.forms.Method.TheVariants.{LinearProgram, Complementarity}
use Rattle.two_player_tools.proofs.AnsweredCutLemmas.{perfect_text-answered}
use Rattle.two_player_tools.proofs.AnsweredSolutionLemmas.{lcp-answered, lp-answered}
use Rattle.two_player_tools.proofs.KeptPropertyLemmas.{TreesAreGames}

module _ (law : SetsStandInOneCut) (laws : TreesAreGames) where
  -- by `lcp`
  pub lcp_tool-answered : (strategic perfect : Bool) (game : Game) → IsGame game → IsAnswered (lcp_tool strategic perfect game)
  lcp_tool-answered strategic true (Extensive t) w = perfect_text-answered Complementarity t law laws w
  lcp_tool-answered strategic true (Strategic t) w = lcp-answered strategic (Strategic t) laws w
  lcp_tool-answered strategic false (Extensive t) w = lcp-answered strategic (Extensive t) laws w
  lcp_tool-answered strategic false (Strategic t) w = lcp-answered strategic (Strategic t) laws w

  -- by `lp`
  pub lp_tool-answered : (strategic prices perfect : Bool) (game : Game) → IsGame game → IsAnswered (lp_tool strategic prices perfect game)
  lp_tool-answered strategic prices true (Extensive t) w = perfect_text-answered LinearProgram t law laws w
  lp_tool-answered strategic prices true (Strategic t) w = lp-answered strategic prices (Strategic t) laws w
  lp_tool-answered strategic prices false (Extensive t) w = lp-answered strategic prices (Extensive t) laws w
  lp_tool-answered strategic prices false (Strategic t) w = lp-answered strategic prices (Strategic t) laws w
