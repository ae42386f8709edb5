-- The forms of trees and tables keep what each form as data keeps.
use Rattle.std.proofs.Common.{ℕ, suc, ◌<◌, sym, ap, subst, arith, All, List, Ok, length}
use Rattle.game_theory.specs.FirstNodes.{AreNumberedByFirstNodes}
use Rattle.game_theory.specs.Recall.{HasPerfectRecall}
use Rattle.game_theory.specs.Trees.{IsTree}
use Rattle.game_core.specs.Table.{GameTable, IsTable}
use Rattle.game_core.specs.Tree.{GameTree}
use Rattle.game_core.specs.TreeGame.{game_of_tree}
use Rattle.sequence_forms.specs.Sequences.{side_of}
use Rattle.sequence_forms.specs.Sides.{sequences}
use Rattle.sequence_forms.proofs.SetOrderLemmas.{trees_ordered}
use Rattle.sequence_data.specs.Data.{FormData, IsFormData, IsSideData, LeafFits, SideData}
use Rattle.sequence_data.specs.declared.types.Leaf.{Leaf}
use Rattle.sequence_form.specs.Forms.{table_form, tree_form}
use Rattle.sequence_form.specs.Laws.{count_of_columns, count_of_rows}
use Rattle.sequence_form.proofs.FormLemmas.{table_form-is, table_form-two, tree_form-is, tree_form-two}
use Rattle.sequence_form.proofs.PathStepLemmas.{leaves-fit, some-leaf}
use Rattle.sequence_form.proofs.SideLemmas.{side-is_data}
use Rattle.sequence_form.proofs.TableLeafLemmas.{profiles-fit, some-columns, some-profile, some-rows, start-is_side}

-- the form of a tree in which all recall
pub tree_form-valid : (tree : GameTree) (f : FormData) → IsTree (game_of_tree tree) → AreNumberedByFirstNodes (game_of_tree tree) → ((i : ℕ) → i < length tree.players → HasPerfectRecall (game_of_tree tree) i) → tree_form tree (Ok f) → IsFormData f
tree_form-valid tree f w numbered recall formed =
    let t = game_of_tree tree in
    let two = tree_form-two tree f formed in
    let h = tree_form-is tree f formed in
    let rows = ap (λ (s : SideData). s.sequences) h.first_is in
    let columns = ap (λ (s : SideData). s.sequences) h.second_is in
    let fit = subst (All (LeafFits (sequences (side_of t 0)) (sequences (side_of t 1)))) (sym h.leaves_are) (leaves-fit t w) in
    record {
      first_is = subst IsSideData (sym h.first_is) (side-is_data t 0 w (trees_ordered t 0 w (recall 0 (omega (arith, two))) numbered));
      second_is = subst IsSideData (sym h.second_is) (side-is_data t 1 w (trees_ordered t 1 w (recall 1 (omega (arith, two))) numbered));
      some_leaf = subst (λ (xs : List Leaf). 0 < length xs) (sym h.leaves_are) (some-leaf t w);
      leaves_fit = subst (λ n. All (LeafFits f.first.sequences n) f.leaves) (sym columns) (subst (λ n. All (LeafFits n (sequences (side_of t 1))) f.leaves) (sym rows) fit);
      of_leaves = h.of_leaves;
    }

-- the form of a table
pub table_form-valid : (t : GameTable) (f : FormData) → IsTable t → table_form t (Ok f) → IsFormData f
table_form-valid t f w formed =
    let two = table_form-two t f formed in
    let h = table_form-is t f formed in
    let rows = ap (λ (s : SideData). s.sequences) h.first_is in
    let columns = ap (λ (s : SideData). s.sequences) h.second_is in
    let fit = subst (All (LeafFits (suc (count_of_rows t)) (suc (count_of_columns t)))) (sym h.leaves_are) (profiles-fit t w two) in
    record {
      first_is = subst IsSideData (sym h.first_is) (start-is_side (count_of_rows t) (some-rows t w two));
      second_is = subst IsSideData (sym h.second_is) (start-is_side (count_of_columns t) (some-columns t w two));
      some_leaf = subst (λ (xs : List Leaf). 0 < length xs) (sym h.leaves_are) (some-profile t w two);
      leaves_fit = subst (λ n. All (LeafFits f.first.sequences n) f.leaves) (sym columns) (subst (λ n. All (LeafFits n (suc (count_of_columns t))) f.leaves) (sym rows) fit);
      of_leaves = h.of_leaves;
    }
