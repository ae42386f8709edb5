-- A tree and a table have at most one answer: a form, or the reason why they have none.
use Rattle.std.proofs.Common.{ℕ, ◌≡◌, ◌≢◌, inl, inr, Ok, length}
use Rattle.std.specs.List.{range_with_len}
use Rattle.std.proofs.lemmas.Bool.{cases_eq}
use Rattle.answers.specs.Answers.{IsSingle, ◌>>◌}
use Rattle.answers.proofs.AnswerLemmas.{bind-single, refuse_where-single, refused_by-single}
use Rattle.frac128.proofs.FirstUnfitLemmas.{all_fit-single}
use Rattle.game_core.specs.Table.{GameTable}
use Rattle.game_core.specs.Tree.{GameTree}
use Rattle.game_core.specs.TreeGame.{game_of_tree}
use Rattle.game_theory.specs.Trees.{Tree}
use Rattle.sequence_data.specs.Data.{FormData, IsFormOf, form_of_leaves}
use Rattle.sequence_data.specs.declared.stop.SeqStop.TheVariants as stops
use Rattle.sequence_data.proofs.OneFormLemmas.{form_of_leaves-single}
use Rattle.sequence_form.specs.Forms.{IsTreeForm, of_two_players, tree_form, table_leaves, table_form}
use Rattle.sequence_form.specs.Laws.{count_of_columns, count_of_rows}
use Rattle.sequence_form.specs.Paths.{node_steps, paths_in, tree_leaves}
use Rattle.sequence_form.specs.Sequences.{start_side, tree_side}

-- ---- what has a form
-- two players are what is not refused
pub are_two : (n : ℕ) → of_two_players n (Ok tt) → n ≡ 2
are_two n h = elim (cases_eq n 2) [ inl e ↦ e | inr differ ↦ absurd (h differ) ]

-- a tree with a form has two players
pub tree_form-two : (t : GameTree) (f : FormData) → tree_form t (Ok f) → length t.players ≡ 2
tree_form-two t f h = are_two (length t.players) h.1

-- it is the form over the tree's sides and leaves
pub tree_form-is : (t : GameTree) (f : FormData) → tree_form t (Ok f) → IsTreeForm (game_of_tree t) f
tree_form-is t f h = h.2.2.2

-- ---- tables
-- the form over the sides of both players' strategies and the profiles
abbrev pub IsTableForm : GameTable → FormData → Type 0
IsTableForm t = IsFormOf (start_side (count_of_rows t)) (start_side (count_of_columns t)) (table_leaves t)

pub table_form-two : (t : GameTable) (f : FormData) → table_form t (Ok f) → length t.players ≡ 2
table_form-two t f h = are_two (length t.players) h.1

pub table_form-is : (t : GameTable) (f : FormData) → table_form t (Ok f) → IsTableForm t f
table_form-is t f h = h.2.2

-- ---- one answer
two_players-single : (n : ℕ) → IsSingle (of_two_players n)
two_players-single n = refuse_where-single (n ≢ 2) (stops.NotTwoPlayers n)

paths-single : (t : Tree) → IsSingle (paths_in t)
paths-single t = refused_by-single (λ stop. stops.Range stop.0 stop.1) _ (all_fit-single (node_steps t) (range_with_len 0 t.size))

pub tree_form-single : (t : GameTree) → IsSingle (tree_form t)
tree_form-single t =
    let g = game_of_tree t in
    let form = form_of_leaves (tree_side g 0) (tree_side g 1) (tree_leaves g) in
    bind-single (of_two_players (length t.players)) (λ _. paths_in g >> form) (two_players-single (length t.players))
    (λ _ _. bind-single (paths_in g) (λ _. form) (paths-single g)
    (λ _ _. form_of_leaves-single (tree_side g 0) (tree_side g 1) (tree_leaves g)))

pub table_form-single : (t : GameTable) → IsSingle (table_form t)
table_form-single t =
    let rows = start_side (count_of_rows t) in
    let columns = start_side (count_of_columns t) in
    bind-single (of_two_players (length t.players)) (λ _. form_of_leaves rows columns (table_leaves t)) (two_players-single (length t.players))
    (λ _ _. form_of_leaves-single rows columns (table_leaves t))
