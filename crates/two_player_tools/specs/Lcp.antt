-- The tool `lcp`: an equilibrium of a game of two players, at the end of a path of complementary
-- pivots.
-- Source: Lemke 1965; Koller, Megiddo and von Stengel 1996.
use Rattle.std.specs.Prelude.{ℕ, Bool, List}
use Rattle.answers.specs.Answers.{Answer, only, ◌>>=◌, ◌>>◌, refused_by}
use Rattle.game_core.specs.declared.game.Game.{Game}
use Rattle.sequence_data.specs.Data.{FormData}
use Rattle.sequence_data.specs.Sizes.{problem_rows}
use Rattle.sequence_data.specs.PlanPairs.{PlanPair}
use Rattle.lemke_pivot.specs.Ends.{solved_in}
use Rattle.lemke_pivot.specs.FormProblems.{problem_in}
use Rattle.lemke_pivot.specs.Parts.{plans_at}
use Rattle.two_player_tools.specs.Entries.{plans_line}
use Rattle.refusals.specs.Told.{pivot_refusal, problem_refusal}
use Rattle.two_player_tools.specs.TwoPlayers.{two_players, form_in}
use Rattle.refusals.specs.declared.refusal.Refusal.{Refusal}

-- the plans of a form in equilibrium: at the end of its problem's path
abbrev pub equilibrium_in : FormData → Answer Refusal PlanPair
equilibrium_in f = do
  problem ← refused_by problem_refusal (problem_in f)
  solution ← refused_by pivot_refusal (solved_in problem)
  only (plans_at solution)

-- the answer of `lcp` for the whole game, with a tree's strategies or its behaviour
abbrev pub lcp : Bool → Game → Answer Refusal (List ℕ)
lcp strategic game = do
  two_players game
  form ← form_in problem_rows strategic game
  plans ← equilibrium_in form
  plans_line strategic game plans.one plans.two
