-- The tool `check`: the verdict of each line of a list of profiles. Source: Nash 1951; Kuhn 1953.
use Rattle.std.specs.Prelude.{ℕ, Bool, false, List, Ok}
use Rattle.answers.specs.Answers.{Answer, ◌>>=◌, ◌>>◌, refused_by}
use Rattle.game_core.specs.Table.{GameTable}
use Rattle.game_core.specs.declared.game.Game.{Game}
use Rattle.game_core.specs.declared.game.Game.TheVariants.{Extensive}
use Rattle.ne_checker.specs.CheckLaws.{TellsOfLines, TellsOfTableLine, TellsOfTreeLine}
use Rattle.ne_checker.specs.LineChecks.{table_check, tree_check}
use Rattle.ne_printer.specs.TextLines.{lines_of}
use Rattle.perfect_recall.specs.Found.{recall_of}
use Rattle.gambit_tools.specs.Games.{game_in, within_bytes}
use Rattle.refusals.specs.Told.{check_refusal, recall_refusal}
use Rattle.refusals.specs.declared.refusal.Refusal.{Refusal}
use Rattle.two_player_tools.specs.StrategicForms.{strategic_table}

-- The verdicts of the lines on the game's strategic form; but on a tree by behaviour, where all
-- players recall, unless strategies are asked for.
abbrev pub verdicts : Bool → Game → List ℕ → Answer Refusal (List ℕ)
verdicts false (Extensive tree) lines = do
  refused_by recall_refusal (recall_of tree)
  refused_by check_refusal (tree_check tree lines)
verdicts _ game lines = do
  table ← strategic_table game
  refused_by check_refusal (table_check table lines)

-- the answer of `check` for the bytes of a game and for those of the lines
abbrev pub check : Bool → (bytes lines : List ℕ) → Answer Refusal (List ℕ)
check strategic bytes lines = do
  within_bytes bytes
  within_bytes lines
  game ← game_in bytes
  verdicts strategic game lines

-- ---- what each text is
-- The text tells of the profile on each line: of the game's strategic form; but of a tree by
-- behaviour, unless strategies are asked for.
abbrev pub IsCheckText : Bool → Game → (lines text : List ℕ) → Type 0
IsCheckText false (Extensive tree) lines text =
    TellsOfLines (TellsOfTreeLine tree) (lines_of lines) text
IsCheckText _ game lines text =
    (table : GameTable) × strategic_table game (Ok table)
    × TellsOfLines (TellsOfTableLine table) (lines_of lines) text
