-- What the tools for two players need of a game: two players, and a sequence form whose problem is
-- within the limit.
use Rattle.std.specs.Prelude.{ℕ, ◌≢◌, Bool, false, length, Ok}
use Rattle.answers.specs.Answers.{Answer, refuse_where, ◌>>=◌, ◌>>◌, refused_by}
use Rattle.game_core.specs.Limits.{most_rows, within}
use Rattle.game_core.specs.Table.{GameTable}
use Rattle.game_core.specs.Tree.{GameTree}
use Rattle.game_core.specs.TreeGame.{game_of_tree}
use Rattle.game_core.specs.declared.game.Game.{Game}
use Rattle.game_core.specs.declared.game.Game.TheVariants.{Strategic, Extensive}
use Rattle.game_core.specs.declared.too_large.What.TheVariants as what
use Rattle.perfect_recall.specs.Found.{recall_of}
use Rattle.sequence_data.specs.Data.{FormData}
use Rattle.sequence_data.specs.Sizes.{stored_sizes, problem_rows, program_size}
use Rattle.sequence_form.specs.Forms.{tree_form, table_form}
use Rattle.sequence_form.specs.Laws.{count_of_rows, count_of_columns}
use Rattle.sequence_form.specs.Sequences.{tree_side, start_side}
use Rattle.sequence_data.specs.declared.sizes.Counts.{Counts}
use Rattle.refusals.specs.Told.{recall_refusal, sequence_refusal}
use Rattle.refusals.specs.declared.refusal.Refusal.{Refusal}
use Rattle.refusals.specs.declared.refusal.Refusal.TheVariants as refusal
use Rattle.two_player_tools.specs.StrategicForms.{strategic_table}
use Rattle.two_player_tools.specs.declared.forms.Method.{Method}
use Rattle.two_player_tools.specs.declared.forms.Method.TheVariants.{LinearProgram, Complementarity}

-- how many players a game has
abbrev pub players_of : Game → ℕ
players_of (Strategic table) = length table.players
players_of (Extensive tree) = length tree.players

-- refuses a game that has not two players
abbrev pub two_players : Game → Answer Refusal (Unit {0})
two_players game = refuse_where (players_of game ≢ 2) (refusal.NotTwoPlayers (players_of game))

-- how many rows a form has by its sizes: of its linear program with the columns, or of its
-- complementarity problem
abbrev pub rows_by : Method → Counts → ℕ
rows_by LinearProgram = program_size
rows_by Complementarity = problem_rows

-- the sizes of the sequence form of a table
abbrev pub table_counts : GameTable → Counts
table_counts t = stored_sizes (start_side (count_of_rows t)) (start_side (count_of_columns t))

-- the sizes of the sequence form of a tree
abbrev pub tree_counts : GameTree → Counts
tree_counts t = stored_sizes (tree_side (game_of_tree t) 0) (tree_side (game_of_tree t) 1)

-- the sequence form of a table, where its problem, whose rows are counted so, is within the limit
abbrev pub table_form_within : (Counts → ℕ) → GameTable → Answer Refusal FormData
table_form_within rows t = do
  refused_by refusal.TooLarge (within what.Rows most_rows (rows (table_counts t)))
  refused_by sequence_refusal (table_form t)

-- the sequence form of a tree in which all players recall, where its problem is within the limit
abbrev pub tree_form_within : (Counts → ℕ) → GameTree → Answer Refusal FormData
tree_form_within rows t = do
  refused_by recall_refusal (recall_of t)
  refused_by refusal.TooLarge (within what.Rows most_rows (rows (tree_counts t)))
  refused_by sequence_refusal (tree_form t)

-- The sequence form on which a tool works: that of the game's strategic form; but of a tree its
-- own, unless strategies are asked for.
abbrev pub form_in : (Counts → ℕ) → Bool → Game → Answer Refusal FormData
form_in rows false (Extensive t) = tree_form_within rows t
form_in rows _ game = do
  table ← strategic_table game
  table_form_within rows table

-- a form that a game has, by some count of its rows
abbrev pub HasForm : Bool → Game → FormData → Type 0
HasForm strategic game form = (rows : Counts → ℕ) × form_in rows strategic game (Ok form)
