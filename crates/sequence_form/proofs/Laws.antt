-- The forms of trees and tables stand for their sequence forms, and what plans pay by them.
use Rattle.std.proofs.Common.{ℕ, zero, suc, ◌<◌, ◌≡◌, List, [], ◌∷◌, map, get_or, refl, sym, ap, ◌∙◌, arith}
use Rattle.std.specs.List.{range_with_len}
use Rattle.std.proofs.lemmas.Simd.{map-map}
use Rattle.rational.specs.Rational.{ℚ, ◌*ℚ◌}
use Rattle.rational.proofs.Rules.{one-*ℚ}
use Rattle.game_theory.specs.Profiles.{profile_count, profile_at}
use Rattle.game_theory.specs.Trees.{Tree}
use Rattle.game_core.specs.Table.{GameTable, game_of, strategy_counts}
use Rattle.sequence_forms.specs.Forms.{SequenceForm, form_of, form_of_table, chance_of_path, payoff_of_path}
use Rattle.sequence_forms.specs.Lists.{Entry, listed_at, leaf_entries, leaves, AreListsOf, profile_entries, AreListsOfTable}
use Rattle.sequence_forms.proofs.AlikeFormLemmas.{alike_back, same_best_plans, same_plans, same_sums}
use Rattle.sequence_forms.proofs.ListLemmas.{lists_make}
use Rattle.sequence_forms.proofs.TableListLemmas.{table_lists_make}
use Rattle.sequence_forms.proofs.TableLemmas.{tables_have_forms, table_plans_pay}
use Rattle.sequence_forms.proofs.TreeLaws.{plans_pay_cells, trees_weigh_one}
use Rattle.sequence_data.specs.Cells.{total, chance_one, chance_two, cell_at}
use Rattle.sequence_data.specs.Data.{FormData, SideData, form, lists_of, of_player}
use Rattle.sequence_data.specs.declared.types.Cell.{Cell}
use Rattle.sequence_data.specs.declared.types.Leaf.{Leaf}
use Rattle.sequence_data.proofs.CellSumLemmas.{cells-sum}
use Rattle.sequence_form.specs.Forms.{IsTreeForm, profile_leaf, table_leaves}
use Rattle.sequence_form.specs.Laws.{TreeFormsStandForTrees, TreeFormsPayPlans, count_of_rows, count_of_columns, TableFormsStandForTables, TableFormsPayPlans}
use Rattle.sequence_form.specs.Paths.{leaf_at, tree_leaves}
use Rattle.sequence_form.proofs.FormLemmas.{IsTableForm, table_form-is, table_form-two}
use Rattle.sequence_form.proofs.SideLemmas.{befores, counts}
use Rattle.sequence_form.proofs.TableLeafLemmas.{two-strategies}

-- ---- trees
-- a sum over the leaves of a tree
tree_total : (t : Tree) (f : Leaf → ℚ) (ls : List Leaf) (r q : ℕ) → ls ≡ tree_leaves t → total f ls r q ≡ listed_at (leaf_entries t (λ k. f (leaf_at t k))) r q
tree_total t f ls r q is = ap (λ (xs : List Leaf). total f xs r q) is ∙ ap (λ es. listed_at es r q) (map-map (λ l. let entry : Entry = (l.row, l.column, f l) in entry) (leaf_at t) (leaves t))

-- what a leaf pays player i
abbrev pays_of : ℕ → Leaf → ℚ
pays_of zero = chance_one
pays_of (suc i) = chance_two

-- a cell pays the sum of the leaves
cell_pays : (i : ℕ) (ls : List Leaf) (c : Cell) → c ≡ cell_at ls c.row c.column → of_player i c.one c.two ≡ total (pays_of i) ls c.row c.column
cell_pays zero ls c is = ap (λ (d : Cell). d.one) is
cell_pays (suc i) ls c is = ap (λ (d : Cell). d.two) is

leaf_pays : (t : Tree) (i k : ℕ) → i < 2 → pays_of i (leaf_at t k) ≡ chance_of_path t k *ℚ payoff_of_path t i k
leaf_pays t zero k h = refl
leaf_pays t (suc zero) k h = refl
leaf_pays t (suc (suc i)) k h = absurd (omega arith)

tree_lists : (t : Tree) (f : FormData) → IsTreeForm t f → AreListsOf t (lists_of f)
tree_lists t f h = record {
  row_befores = befores t 0 f.first h.first_is;
  row_counts = counts t 0 f.first h.first_is;
  column_befores = befores t 1 f.second h.second_is;
  column_counts = counts t 1 f.second h.second_is;
  weights = λ r q. cells-sum (λ l. l.chance) (λ c. c.weight) f.leaves f.cells h.of_leaves.cells_are (λ c is. ap (λ (d : Cell). d.weight) is) r q ∙ tree_total t (λ l. l.chance) f.leaves r q h.leaves_are;
  pays = λ i r q m. cells-sum (pays_of i) (λ c. of_player i c.one c.two) f.leaves f.cells h.of_leaves.cells_are (cell_pays i f.leaves) r q ∙ tree_total t (pays_of i) f.leaves r q h.leaves_are ∙ ap (λ (g : ℕ → ℚ). listed_at (leaf_entries t g) r q) (λ j k. leaf_pays t i k m j);
}

pub tree_stands : TreeFormsStandForTrees
tree_stands t f h = record { lists = tree_lists t f h; alike = lists_make t (lists_of f) (tree_lists t f h) }

pub tree_pays : TreeFormsPayPlans
tree_pays t f two h =
    let alike = (tree_stands t f h).alike in
    record {
      pays = λ x y i m px py.
          plans_pay_cells t x y i two ((same_plans (form f).rows (form_of t).rows alike.rows).plan x px) ((same_plans (form f).columns (form_of t).columns alike.columns).plan y py)
          ∙ sym (same_sums (form f) (form_of t) i x y alike m);
      weigh_one = (same_best_plans (form_of t) (form f) (alike_back (form f) (form_of t) alike)).weigh_one (trees_weigh_one t two);
    }

-- ---- tables
-- a sum over the profiles of a table
table_total : (t : GameTable) (f : Leaf → ℚ) (ls : List Leaf) (m n r q : ℕ) → strategy_counts t ≡ m ∷ n ∷ [] → ls ≡ table_leaves t → total f ls r q ≡ listed_at (profile_entries m n (λ k. f (profile_leaf t k))) r q
table_total t f ls m n r q two is =
    ap (λ (xs : List Leaf). total f xs r q) is
    ∙ ap (λ es. listed_at es r q) (map-map (λ l. let entry : Entry = (l.row, l.column, f l) in entry) (profile_leaf t) (range_with_len 0 (profile_count (strategy_counts t))))
    ∙ ap (λ (ns : List ℕ). listed_at (map (λ k. let entry : Entry = (suc (get_or (profile_at ns k) 0 0), suc (get_or (profile_at ns k) 1 0), f (profile_leaf t k)) in entry) (range_with_len 0 (profile_count ns))) r q) two

profile_pays : (t : GameTable) (i k : ℕ) → i < 2 → pays_of i (profile_leaf t k) ≡ (game_of t).pays i k
profile_pays t zero k h = one-*ℚ ((game_of t).pays 0 k)
profile_pays t (suc zero) k h = one-*ℚ ((game_of t).pays 1 k)
profile_pays t (suc (suc i)) k h = absurd (omega arith)

table_lists : (t : GameTable) (f : FormData) → strategy_counts t ≡ count_of_rows t ∷ count_of_columns t ∷ [] → IsTableForm t f → AreListsOfTable (game_of t) (count_of_rows t) (count_of_columns t) (lists_of f)
table_lists t f two h = record {
  row_befores = ap (λ (d : SideData). map (λ r. r.before) d.sets) h.first_is;
  row_counts = ap (λ (d : SideData). map (λ r. r.count) d.sets) h.first_is;
  column_befores = ap (λ (d : SideData). map (λ r. r.before) d.sets) h.second_is;
  column_counts = ap (λ (d : SideData). map (λ r. r.count) d.sets) h.second_is;
  weights = λ r q. cells-sum (λ l. l.chance) (λ c. c.weight) f.leaves f.cells h.of_leaves.cells_are (λ c is. ap (λ (d : Cell). d.weight) is) r q ∙ table_total t (λ l. l.chance) f.leaves (count_of_rows t) (count_of_columns t) r q two h.leaves_are;
  pays = λ i r q m. cells-sum (pays_of i) (λ c. of_player i c.one c.two) f.leaves f.cells h.of_leaves.cells_are (cell_pays i f.leaves) r q
      ∙ table_total t (pays_of i) f.leaves (count_of_rows t) (count_of_columns t) r q two h.leaves_are ∙ ap (λ (g : ℕ → ℚ). listed_at (profile_entries (count_of_rows t) (count_of_columns t) g) r q) (λ j k. profile_pays t i k m j);
}

pub table_stands : TableFormsStandForTables
table_stands t f valid h =
    let two = two-strategies t valid (table_form-two t f h) in
    let lists = table_lists t f two (table_form-is t f h) in
    record { strategies_are = two; lists = lists; alike = table_lists_make (game_of t) (count_of_rows t) (count_of_columns t) (lists_of f) lists }

pub table_pays : TableFormsPayPlans
table_pays t f valid h =
    let stands = table_stands t f valid h in
    let whole : SequenceForm = form_of_table (game_of t) (count_of_rows t) (count_of_columns t) in
    record {
      pays = λ x y i m. table_plans_pay (game_of t) (count_of_rows t) (count_of_columns t) x y i stands.strategies_are ∙ sym (same_sums (form f) whole i x y stands.alike m);
      weigh_one = (same_best_plans whole (form f) (alike_back (form f) whole stands.alike)).weigh_one (tables_have_forms (game_of t) (count_of_rows t) (count_of_columns t)).weigh_one;
    }
