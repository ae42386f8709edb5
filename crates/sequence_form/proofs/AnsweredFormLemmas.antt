-- A tree and a table have a form, or a reason why they have none.
use Rattle.std.proofs.Common.{suc, length}
use Rattle.std.specs.List.{range_with_len}
use Rattle.std.specs.Prelude.{◌≢◌}
use Rattle.answers.specs.Answered.{IsAnswered}
use Rattle.answers.specs.Answers.{◌>>◌}
use Rattle.answers.proofs.AnsweredLemmas.{bind-answered, refuse_where-answered, refused_by-answered}
use Rattle.frac128.proofs.FirstUnfitLemmas.{all_fit-answered}
use Rattle.game_theory.specs.Trees.{Tree}
use Rattle.game_core.specs.Table.{GameTable, IsTable}
use Rattle.game_core.specs.Tree.{GameTree, IsGameTree}
use Rattle.game_core.specs.TreeGame.{game_of_tree}
use Rattle.game_core.proofs.TreeLaws.{game_tree}
use Rattle.sequence_forms.specs.Sequences.{side_of}
use Rattle.sequence_forms.specs.Sides.{sequences}
use Rattle.sequence_data.specs.Data.{form_of_leaves}
use Rattle.sequence_data.specs.declared.stop.SeqStop.TheVariants as stops
use Rattle.sequence_data.proofs.AnsweredFormLemmas.{form_of_leaves-answered}
use Rattle.sequence_form.specs.Forms.{of_two_players, table_form, table_leaves, tree_form}
use Rattle.sequence_form.specs.Laws.{count_of_columns, count_of_rows}
use Rattle.sequence_form.specs.Paths.{node_steps, paths_in, tree_leaves}
use Rattle.sequence_form.specs.Sequences.{start_side, tree_side}
use Rattle.sequence_form.proofs.FormLemmas.{are_two}
use Rattle.sequence_form.proofs.PathStepLemmas.{leaves-fit, some-leaf}
use Rattle.sequence_form.proofs.TableLeafLemmas.{profiles-fit, some-profile}

-- the steps of all nodes
paths-answered : (t : Tree) → IsAnswered (paths_in t)
paths-answered t = refused_by-answered (λ stop. stops.Range stop.0 stop.1) _ (all_fit-answered (node_steps t) (range_with_len 0 t.size))

-- a tree
pub tree_form-answered : (t : GameTree) → IsGameTree t → IsAnswered (tree_form t)
tree_form-answered t valid =
    let g = game_of_tree t in
    let w = game_tree t valid in
    let form = form_of_leaves (tree_side g 0) (tree_side g 1) (tree_leaves g) in
    bind-answered (of_two_players (length t.players)) (λ _. paths_in g >> form) (refuse_where-answered (length t.players ≢ 2) (stops.NotTwoPlayers (length t.players)))
    (λ _ _. bind-answered (paths_in g) (λ _. form) (paths-answered g)
    (λ _ _. form_of_leaves-answered (tree_side g 0) (tree_side g 1) (sequences (side_of g 0)) (sequences (side_of g 1)) (tree_leaves g) (some-leaf g w) (leaves-fit g w)))

-- a table
pub table_form-answered : (t : GameTable) → IsTable t → IsAnswered (table_form t)
table_form-answered t valid =
    let rows = count_of_rows t in
    let columns = count_of_columns t in
    bind-answered (of_two_players (length t.players)) (λ _. form_of_leaves (start_side rows) (start_side columns) (table_leaves t)) (refuse_where-answered (length t.players ≢ 2) (stops.NotTwoPlayers (length t.players)))
    (λ _ h. let two = are_two (length t.players) h in
    form_of_leaves-answered (start_side rows) (start_side columns) (suc rows) (suc columns) (table_leaves t) (some-profile t valid two) (profiles-fit t valid two))
