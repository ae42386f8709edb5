-- A game has a strategic form and a sequence form, or a reason why it has none, and two plans have their entries.
use Rattle.std.proofs.Common.{ℕ, ◌<◌, ◌≢◌, Bool, true, false, List}
use Rattle.answers.specs.Answered.{IsAnswered}
use Rattle.answers.specs.Answers.{◌>>=◌, ◌>>◌, only, refused_by}
use Rattle.answers.proofs.AnsweredLemmas.{bind-answered, only-answered, refuse_where-answered, refused_by-answered}
use Rattle.rational.specs.Rational.{ℚ}
use Rattle.game_core.specs.Limits.{most_rows, too_large, within}
use Rattle.game_core.specs.Table.{GameTable, IsTable}
use Rattle.game_core.specs.Tree.{GameTree, IsGameTree}
use Rattle.game_core.specs.declared.game.Game.{Game}
use Rattle.game_core.specs.declared.game.Game.TheVariants.{Strategic, Extensive}
use Rattle.game_core.specs.declared.too_large.What.TheVariants as what
use Rattle.game_core.proofs.TreeLaws.{game_tree}
use Rattle.behaviour_profile.specs.Plans.{plan_behaviour}
use Rattle.behaviour_profile.proofs.AnsweredProfileLemmas.{plan_behaviour-answered}
use Rattle.perfect_recall.specs.Found.{recall_of}
use Rattle.perfect_recall.proofs.AnsweredRecallLemmas.{recall-answered}
use Rattle.reduced_form.specs.Stops.{reduced_form_of}
use Rattle.reduced_form.proofs.AnsweredFormLemmas.{form_of-answered}
use Rattle.refusals.specs.Told.{behaviour_refusal, form_refusal, recall_refusal, sequence_refusal}
use Rattle.refusals.specs.declared.refusal.Refusal.TheVariants as refusal
use Rattle.sequence_data.specs.declared.sizes.Counts.{Counts}
use Rattle.sequence_form.specs.Forms.{table_form, tree_form}
use Rattle.sequence_form.proofs.AnsweredFormLemmas.{table_form-answered, tree_form-answered}
use Rattle.two_player_tools.specs.Entries.{entries_in}
use Rattle.two_player_tools.specs.GameTypes.{IsGame}
use Rattle.two_player_tools.specs.StrategicForms.{strategic_table}
use Rattle.two_player_tools.specs.TwoPlayers.{form_in, table_form_within, tree_form_within, players_of, table_counts, tree_counts, two_players}
use Rattle.two_player_tools.proofs.StrategicFormLemmas.{strategic_table-is_table}

-- ---- the number of players
-- a game has two players, or is refused
pub two_players-answered : (game : Game) → IsAnswered (two_players game)
two_players-answered game = refuse_where-answered (players_of game ≢ 2) (refusal.NotTwoPlayers (players_of game))

-- ---- the form
-- a tree has a recall, or is refused
pub recall_told-answered : (t : GameTree) → IsGameTree t → IsAnswered (refused_by recall_refusal (recall_of t))
recall_told-answered t w = refused_by-answered recall_refusal (recall_of t) (recall-answered t w (game_tree t w))

-- so many rows are within the limit, or are refused
within_rows-answered : (rows : ℕ) → IsAnswered (refused_by refusal.TooLarge (within what.Rows most_rows rows))
within_rows-answered rows = refused_by-answered refusal.TooLarge (within what.Rows most_rows rows) (refuse_where-answered (most_rows < rows) (too_large what.Rows most_rows rows))

-- a game has a strategic form, or a reason why it has none
pub strategic_table-answered : (game : Game) → IsGame game → IsAnswered (strategic_table game)
strategic_table-answered (Strategic table) w = only-answered table
strategic_table-answered (Extensive tree) w =
    bind-answered (refused_by form_refusal (reduced_form_of tree)) (λ form. only form.table) (refused_by-answered form_refusal (reduced_form_of tree) (form_of-answered tree (game_tree tree w)))
    (λ form _. only-answered form.table)

-- a table has a sequence form, or a reason why it has none
table_form_within-answered : (rows : Counts → ℕ) (t : GameTable) → IsTable t → IsAnswered (table_form_within rows t)
table_form_within-answered rows t w =
    bind-answered (refused_by refusal.TooLarge (within what.Rows most_rows (rows (table_counts t)))) (λ _. refused_by sequence_refusal (table_form t)) (within_rows-answered (rows (table_counts t)))
    (λ _ _. refused_by-answered sequence_refusal (table_form t) (table_form-answered t w))

-- and so has a tree
pub tree_form_within-answered : (rows : Counts → ℕ) (t : GameTree) → IsGameTree t → IsAnswered (tree_form_within rows t)
tree_form_within-answered rows t w =
    let within_rows = refused_by refusal.TooLarge (within what.Rows most_rows (rows (tree_counts t))) in
    let form = refused_by sequence_refusal (tree_form t) in
    bind-answered (refused_by recall_refusal (recall_of t)) (λ _. within_rows >> form) (recall_told-answered t w)
    (λ _ _. bind-answered within_rows (λ _. form) (within_rows-answered (rows (tree_counts t)))
    (λ _ _. refused_by-answered sequence_refusal (tree_form t) (tree_form-answered t w)))

-- a strategic form has a sequence form, or a reason why it has none
of_strategic-answered : (rows : Counts → ℕ) (game : Game) → IsGame game → IsAnswered (strategic_table game >>= table_form_within rows)
of_strategic-answered rows game w =
    bind-answered (strategic_table game) (table_form_within rows) (strategic_table-answered game w) (λ table h. table_form_within-answered rows table (strategic_table-is_table game table w h))

-- so each game has one, or a reason why it has none
pub form_in-answered : (rows : Counts → ℕ) (strategic : Bool) (game : Game) → IsGame game → IsAnswered (form_in rows strategic game)
form_in-answered rows true (Strategic t) w = of_strategic-answered rows (Strategic t) w
form_in-answered rows false (Strategic t) w = of_strategic-answered rows (Strategic t) w
form_in-answered rows true (Extensive t) w = of_strategic-answered rows (Extensive t) w
form_in-answered rows false (Extensive t) w = tree_form_within-answered rows t w

-- ---- the entries
-- two plans have entries, or a first quotient that does not fit
pub entries_in-answered : (strategic : Bool) (game : Game) (one two : List ℚ) → IsAnswered (entries_in strategic game one two)
entries_in-answered true (Strategic t) one two = only-answered _
entries_in-answered false (Strategic t) one two = only-answered _
entries_in-answered true (Extensive t) one two = only-answered _
entries_in-answered false (Extensive t) one two = refused_by-answered behaviour_refusal (plan_behaviour t one two) (plan_behaviour-answered t one two)
