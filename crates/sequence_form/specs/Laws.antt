-- What the forms of trees and tables stand for, and what plans pay by them.
use Rattle.std.specs.Prelude.{ℕ, ◌<◌, ◌≡◌, [], ◌∷◌, slice_index, Ok}
use Rattle.rational.specs.Rational.{ℚ}
use Rattle.game_theory.specs.Mixed.{payoff as table_payoff}
use Rattle.game_theory.specs.Behaviour.{payoff}
use Rattle.game_theory.specs.Trees.{Tree}
use Rattle.game_core.specs.Table.{GameTable, IsTable, game_of, strategy_counts}
use Rattle.sequence_forms.specs.Alike.{FormsAlike}
use Rattle.sequence_forms.specs.Forms.{HasTwoWhoRecall, WeighsOne, cell_sum, form_of, form_of_table, mixed_of_plans}
use Rattle.sequence_forms.specs.Lists.{AreListsOf, AreListsOfTable}
use Rattle.sequence_forms.specs.PlanBehaviour.{behaviour_of, of_two}
use Rattle.sequence_forms.specs.Sides.{IsRealisationPlan}
use Rattle.sequence_data.specs.Data.{FormData, form, lists_of}
use Rattle.sequence_form.specs.Forms.{IsTreeForm, table_form}

-- ---- trees
-- the lists of a form are those of the tree, and it is the tree's sequence form within its bounds
pub record StandsForTree (t : Tree) (f : FormData) : Type 0 where
  pub lists : AreListsOf t (lists_of f)
  pub alike : FormsAlike (form f) (form_of t)

-- the form of a tree stands for it
abbrev pub TreeFormsStandForTrees : Type 0
TreeFormsStandForTrees = (t : Tree) (f : FormData) → IsTreeForm t f → StandsForTree t f

-- two plans pay by the cells what their behaviour pays on the tree, for either player, and they
-- weigh the cells to 1
pub record PlansPayOnTree (t : Tree) (f : FormData) : Type 0 where
  pub pays : (x y : ℕ → ℚ) (i : ℕ) → i < 2 → IsRealisationPlan (form f).rows x
      → IsRealisationPlan (form f).columns y
      → payoff t (behaviour_of t (of_two x y)) i ≡ cell_sum (form f) ((form f).pays i) x y
  pub weigh_one : WeighsOne (form f)

-- the form of a tree of two players who recall pays plans as the tree does
abbrev pub TreeFormsPayPlans : Type 0
TreeFormsPayPlans =
    (t : Tree) (f : FormData) → HasTwoWhoRecall t → IsTreeForm t f → PlansPayOnTree t f

-- ---- tables
-- how many strategies the first player has
abbrev pub count_of_rows : GameTable → ℕ
count_of_rows t = slice_index (strategy_counts t) 0

-- how many strategies the second player has
abbrev pub count_of_columns : GameTable → ℕ
count_of_columns t = slice_index (strategy_counts t) 1

-- the table has two players, the lists of a form are those of the table, and it is the table's
-- sequence form within its bounds
pub record StandsForTable (t : GameTable) (f : FormData) : Type 0 where
  pub strategies_are : (game_of t).strategies ≡ count_of_rows t ∷ count_of_columns t ∷ []
  pub lists : AreListsOfTable (game_of t) (count_of_rows t) (count_of_columns t) (lists_of f)
  pub alike : FormsAlike (form f) (form_of_table (game_of t) (count_of_rows t) (count_of_columns t))

-- the form of a table stands for it
abbrev pub TableFormsStandForTables : Type 0
TableFormsStandForTables =
    (t : GameTable) (f : FormData) → IsTable t → table_form t (Ok f) → StandsForTable t f

-- two plans pay by the cells what the strategies' weights in them pay, for either player, and they
-- weigh the cells to 1
pub record PlansPayOnTable (t : GameTable) (f : FormData) : Type 0 where
  pub pays : (x y : ℕ → ℚ) (i : ℕ) → i < 2
      → table_payoff (game_of t) (mixed_of_plans (of_two x y)) i
      ≡ cell_sum (form f) ((form f).pays i) x y
  pub weigh_one : WeighsOne (form f)

-- the form of a table pays plans as the table does
abbrev pub TableFormsPayPlans : Type 0
TableFormsPayPlans =
    (t : GameTable) (f : FormData) → IsTable t → table_form t (Ok f) → PlansPayOnTable t f
