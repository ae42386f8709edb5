-- What the tools for two players make of a game, and print of two plans, is single.
use Rattle.std.proofs.Common.{ℕ, ◌<◌, ◌≢◌, Bool, true, false, List}
use Rattle.answers.specs.Answers.{IsSingle, ◌>>=◌, ◌>>◌, only, refused_by}
use Rattle.answers.proofs.AnswerLemmas.{bind-single, only-single, refuse_where-single, refused_by-single}
use Rattle.rational.specs.Rational.{ℚ}
use Rattle.game_theory.specs.Lines.{line_text}
use Rattle.game_core.specs.Limits.{most_rows, too_large, within}
use Rattle.game_core.specs.Table.{GameTable}
use Rattle.game_core.specs.Tree.{GameTree, IsGameTree}
use Rattle.game_core.specs.declared.game.Game.{Game}
use Rattle.game_core.specs.declared.game.Game.TheVariants.{Strategic, Extensive}
use Rattle.game_core.specs.declared.too_large.What.TheVariants as what
use Rattle.behaviour_profile.specs.Plans.{plan_behaviour}
use Rattle.behaviour_profile.proofs.PlanStopLemmas.{plan_behaviour-single}
use Rattle.perfect_recall.specs.Found.{recall_of}
use Rattle.sequence_form.specs.Forms.{tree_form, table_form}
use Rattle.sequence_data.specs.declared.sizes.Counts.{Counts}
use Rattle.sequence_form.proofs.FormLemmas.{table_form-single, tree_form-single}
use Rattle.two_player_tools.specs.Entries.{entries_in, plans_line}
use Rattle.two_player_tools.specs.GameTypes.{IsGame}
use Rattle.refusals.specs.Told.{behaviour_refusal, recall_refusal, sequence_refusal}
use Rattle.two_player_tools.specs.StrategicForms.{strategic_table}
use Rattle.two_player_tools.proofs.StrategicFormLemmas.{strategic_table-single}
use Rattle.two_player_tools.specs.TwoPlayers.{form_in, table_form_within, tree_form_within, players_of, table_counts, tree_counts, two_players}
use Rattle.refusals.specs.declared.refusal.Refusal.TheVariants as refusal

-- a tree has one recall
abbrev pub RecallsAreSingle : Type 0
RecallsAreSingle = (t : GameTree) → IsGameTree t → IsSingle (recall_of t)

-- ---- the number of players
pub two_players-single : (game : Game) → IsSingle (two_players game)
two_players-single game = refuse_where-single (players_of game ≢ 2) (refusal.NotTwoPlayers (players_of game))

-- ---- the form
within_rows-single : (rows : ℕ) → IsSingle (refused_by refusal.TooLarge (within what.Rows most_rows rows))
within_rows-single rows = refused_by-single refusal.TooLarge _ (refuse_where-single (most_rows < rows) (too_large what.Rows most_rows rows))

table_form_within-single : (rows : Counts → ℕ) (t : GameTable) → IsSingle (table_form_within rows t)
table_form_within-single rows t =
    bind-single (refused_by refusal.TooLarge (within what.Rows most_rows (rows (table_counts t)))) (λ _. refused_by sequence_refusal (table_form t)) (within_rows-single (rows (table_counts t)))
    (λ _ _. refused_by-single sequence_refusal (table_form t) (table_form-single t))

tree_form_within-single : (rows : Counts → ℕ) (t : GameTree) → IsSingle (recall_of t) → IsSingle (tree_form_within rows t)
tree_form_within-single rows t single =
    bind-single (refused_by recall_refusal (recall_of t)) (λ _. refused_by refusal.TooLarge (within what.Rows most_rows (rows (tree_counts t))) >> refused_by sequence_refusal (tree_form t))
    (refused_by-single recall_refusal (recall_of t) single)
    (λ _ _. bind-single (refused_by refusal.TooLarge (within what.Rows most_rows (rows (tree_counts t)))) (λ _. refused_by sequence_refusal (tree_form t)) (within_rows-single (rows (tree_counts t)))
    (λ _ _. refused_by-single sequence_refusal (tree_form t) (tree_form-single t)))

strategic-single : (rows : Counts → ℕ) (game : Game) → IsSingle (strategic_table game >>= table_form_within rows)
strategic-single rows game = bind-single (strategic_table game) (table_form_within rows) (strategic_table-single game) (λ table _. table_form_within-single rows table)

pub form_in-single : (rows : Counts → ℕ) (strategic : Bool) (game : Game) → RecallsAreSingle → IsGame game → IsSingle (form_in rows strategic game)
form_in-single rows true (Strategic t) recalls w = strategic-single rows (Strategic t)
form_in-single rows false (Strategic t) recalls w = strategic-single rows (Strategic t)
form_in-single rows true (Extensive t) recalls w = strategic-single rows (Extensive t)
form_in-single rows false (Extensive t) recalls w = tree_form_within-single rows t (recalls t w)

-- ---- the line
pub entries_in-single : (strategic : Bool) (game : Game) (one two : List ℚ) → IsSingle (entries_in strategic game one two)
entries_in-single true (Strategic t) one two = only-single _
entries_in-single false (Strategic t) one two = only-single _
entries_in-single true (Extensive t) one two = only-single _
entries_in-single false (Extensive t) one two = refused_by-single behaviour_refusal (plan_behaviour t one two) (plan_behaviour-single t one two)

pub plans_line-single : (strategic : Bool) (game : Game) (one two : List ℚ) → IsSingle (plans_line strategic game one two)
plans_line-single strategic game one two =
    bind-single (entries_in strategic game one two) (λ entries. only (line_text entries)) (entries_in-single strategic game one two)
    (λ entries _. only-single (line_text entries))
