-- What is built of sides and leaves is the form of the tree or the table.
use Rattle.std.proofs.Common.{◌≡◌, Ok, Err, Result, List, length, subst}
use Rattle.answers.specs.Answers.{Answer, Gives, ◌>>◌}
use Rattle.answers.proofs.AnswerLemmas.{gives_bind, gives_first}
use Rattle.game_core.specs.Table.{GameTable}
use Rattle.game_core.specs.Tree.{GameTree}
use Rattle.game_core.specs.TreeGame.{game_of_tree}
use Rattle.game_theory.specs.Trees.{Tree}
use Rattle.sequence_data.specs.Data.{FormData, SideData, form_of_leaves}
use Rattle.sequence_data.specs.declared.stop.SeqStop.{SeqStop}
use Rattle.sequence_data.specs.declared.stop.SeqStop.TheVariants as stops
use Rattle.sequence_data.specs.declared.types.Leaf.{Leaf}
use Rattle.sequence_form.specs.Forms.{of_two_players, tree_form, table_leaves, table_form}
use Rattle.sequence_form.specs.Laws.{count_of_rows, count_of_columns}
use Rattle.sequence_form.specs.Paths.{paths_in, tree_leaves}
use Rattle.sequence_form.specs.Sequences.{start_side, tree_side}

-- the form over the same sides and leaves
same-gives : (a b first second : SideData) (ls leaves : List Leaf) (r : Result FormData SeqStop) → a ≡ first → b ≡ second → ls ≡ leaves → Gives stops.Memory (form_of_leaves a b ls) r → Gives stops.Memory (form_of_leaves first second leaves) r
same-gives a b first second ls leaves r one two same h =
    subst (λ s. Gives stops.Memory (form_of_leaves s second leaves) r) one (subst (λ s. Gives stops.Memory (form_of_leaves a s leaves) r) two (subst (λ (xs : List Leaf). Gives stops.Memory (form_of_leaves a b xs) r) same h))

-- ---- trees
module _ (t : GameTree) (two : length t.players ≡ 2) where
  abbrev g : Tree
  g = game_of_tree t

  abbrev form : Answer SeqStop FormData
  form = form_of_leaves (tree_side g 0) (tree_side g 1) (tree_leaves g)

  are_two : of_two_players (length t.players) (Ok tt)
  are_two = λ differ. differ two

  -- what stops the paths
  pub tree-stop : (stop : SeqStop) → Gives stops.Memory (paths_in g) (Err stop) → Gives stops.Memory (tree_form t) (Err stop)
  tree-stop stop h = gives_bind stops.Memory (of_two_players (length t.players)) (λ _. paths_in g >> form) tt (Err stop) are_two (gives_first stops.Memory (paths_in g) (λ _. form) stop h)

  -- what is made of the leaves
  pub tree-gives : (first second : SideData) (ls : List Leaf) (r : Result FormData SeqStop) → first ≡ tree_side g 0 → second ≡ tree_side g 1 → ls ≡ tree_leaves g → paths_in g (Ok tt) → Gives stops.Memory (form_of_leaves first second ls) r → Gives stops.Memory (tree_form t) r
  tree-gives first second ls r one_is two_is leaves_are fit h =
      gives_bind stops.Memory (of_two_players (length t.players)) (λ _. paths_in g >> form) tt r are_two
      (gives_bind stops.Memory (paths_in g) (λ _. form) tt r fit (same-gives first second (tree_side g 0) (tree_side g 1) ls (tree_leaves g) r one_is two_is leaves_are h))

-- ---- tables
pub table-gives : (t : GameTable) (first second : SideData) (ls : List Leaf) (r : Result FormData SeqStop) → length t.players ≡ 2 → first ≡ start_side (count_of_rows t) → second ≡ start_side (count_of_columns t) → ls ≡ table_leaves t → Gives stops.Memory (form_of_leaves first second ls) r → Gives stops.Memory (table_form t) r
table-gives t first second ls r two one_is two_is leaves_are h =
    let rows = start_side (count_of_rows t) in
    let columns = start_side (count_of_columns t) in
    gives_bind stops.Memory (of_two_players (length t.players)) (λ _. form_of_leaves rows columns (table_leaves t)) tt r (λ differ. differ two)
    (same-gives first second rows columns ls (table_leaves t) r one_is two_is leaves_are h)
