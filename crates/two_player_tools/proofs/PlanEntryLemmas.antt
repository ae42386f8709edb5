-- The entries of two plans in equilibrium are those of an equilibrium.
use Rattle.std.proofs.Common.{ℕ, suc, ◌≡◌, ◌∙◌, sym, ap, ap₂, arith, Bool, true, false, Option, List, [], ◌∷◌, ◌++◌, length, drop, append-nil, Ok, refl}
use Rattle.rational.specs.Rational.{ℚ}
use Rattle.rational.specs.Sum.{entry_at}
use Rattle.game_theory.specs.Equilibrium.{IsEquilibrium as is_table_equilibrium}
use Rattle.game_theory.specs.Lines.{entries, listed}
use Rattle.game_theory.specs.Mixed.{Mixed}
use Rattle.game_theory.specs.TreeEntries.{tree_entries}
use Rattle.game_theory.specs.TreeEquilibrium.{IsEquilibrium}
use Rattle.game_core.specs.Table.{GameTable, IsTable, game_of, strategy_counts}
use Rattle.game_core.specs.Tree.{GameTree, IsGameTree}
use Rattle.game_core.specs.TreeGame.{game_of_tree}
use Rattle.game_core.specs.declared.game.Game.{Game}
use Rattle.game_core.specs.declared.game.Game.TheVariants.{Strategic, Extensive}
use Rattle.perfect_recall.specs.Found.{IsRecallOf}
use Rattle.sequence_forms.specs.Forms.{mixed_of_plans, one_set}
use Rattle.sequence_forms.specs.PlanBehaviour.{behaviour_of, of_two}
use Rattle.sequence_forms.proofs.AlikeFormLemmas.{counts}
use Rattle.sequence_data.specs.Data.{FormData, IsFormData, side_of}
use Rattle.sequence_form.specs.Forms.{table_form, tree_form}
use Rattle.sequence_form.specs.Laws.{count_of_columns, count_of_rows}
use Rattle.sequence_data.specs.declared.sizes.Counts.{Counts}
use Rattle.sequence_form.proofs.Laws.{table_stands}
use Rattle.behaviour_profile.specs.Plans.{plan_behaviour}
use Rattle.refusals.specs.Told.{behaviour_refusal}
use Rattle.refusals.specs.declared.refusal.Refusal.{Refusal}
use Rattle.answers.specs.Answers.{only, refused_by}
use Rattle.answers.proofs.AnswerLemmas.{ok_same}
use Rattle.sequence_data.specs.PlanPairs.{PlanPair}
use Rattle.two_player_tools.specs.Entries.{entries_in}
use Rattle.two_player_tools.specs.EquilibriumEntries.{AreOfEquilibrium}
use Rattle.two_player_tools.specs.GameTypes.{IsGame}
use Rattle.two_player_tools.specs.TwoPlayers.{form_in}
use Rattle.two_player_tools.proofs.StrategicFormLemmas.{strategic_table-is_table}

-- both players' weights
abbrev pub weights_of : PlanPair → ℕ → ℕ → ℚ
weights_of plans = of_two (entry_at plans.one) (entry_at plans.two)

-- the plans have a weight for each sequence
pub record HaveAllWeights (f : FormData) (plans : PlanPair) : Type 0 where
  pub one_has_all : length plans.one ≡ f.first.sequences
  pub two_has_all : length plans.two ≡ f.second.sequences

-- a list has its own entries
listed-entries : (xs : List ℚ) → listed (length xs) (entry_at xs) ≡ xs
listed-entries [] = refl
listed-entries (x ∷ xs) = ap (λ rest. x ∷ rest) (listed-entries xs)

-- the weights of all sequences but the empty one
rest-listed : (xs : List ℚ) (n : ℕ) → length xs ≡ suc n → drop 1 xs ≡ listed n (λ s. entry_at xs (suc s))
rest-listed [] n e = absurd (omega (arith, e))
rest-listed (x ∷ xs) n e =
    let same : n ≡ length xs = omega (arith, e) in
    sym (ap (λ k. listed k (entry_at xs)) same ∙ listed-entries xs)

-- ---- on a table
module _ (t : GameTable) (f : FormData) (plans : PlanPair) (valid : IsTable t) (is : IsFormData f) (h : table_form t (Ok f)) (all : HaveAllWeights f plans) where
  one_long : length plans.one ≡ suc (count_of_rows t)
  one_long = all.one_has_all ∙ is.first_is.sequences_are ∙ counts (side_of f.first) (one_set (count_of_rows t)) (table_stands t f valid h).alike.rows ∙ omega arith

  two_long : length plans.two ≡ suc (count_of_columns t)
  two_long = all.two_has_all ∙ is.second_is.sequences_are ∙ counts (side_of f.second) (one_set (count_of_columns t)) (table_stands t f valid h).alike.columns ∙ omega arith

  table_entries : drop 1 plans.one ++ drop 1 plans.two ≡ entries (strategy_counts t) (mixed_of_plans (weights_of plans))
  table_entries =
      ap₂ (λ a b. a ++ b) (rest-listed plans.one (count_of_rows t) one_long) (rest-listed plans.two (count_of_columns t) two_long ∙ sym (append-nil (listed (count_of_columns t) (λ s. entry_at plans.two (suc s)))))
      ∙ sym (ap (λ sizes. entries sizes (mixed_of_plans (weights_of plans))) (table_stands t f valid h).strategies_are)

-- ---- on a tree
pub tree_entries_are : (t : GameTree) (plans : PlanPair) (list : List ℚ) → refused_by behaviour_refusal (plan_behaviour t plans.one plans.two) (Ok list) → list ≡ tree_entries (game_of_tree t) (behaviour_of (game_of_tree t) (weights_of plans))
tree_entries_are t plans list h = ok_same list (tree_entries (game_of_tree t) (behaviour_of (game_of_tree t) (weights_of plans))) h.2.2

-- ---- on the file's own game
module _ (rows : Counts → ℕ) (f : FormData) (plans : PlanPair) (is : IsFormData f) (all : HaveAllWeights f plans)
    (on_table : (t : GameTable) → IsTable t → table_form t (Ok f) → is_table_equilibrium (game_of t) (mixed_of_plans (weights_of plans)))
    (on_tree : (t : GameTree) (before : List (Option (ℕ × ℕ))) → IsGameTree t → IsRecallOf (game_of_tree t) before → tree_form t (Ok f) → IsEquilibrium (game_of_tree t) (behaviour_of (game_of_tree t) (weights_of plans)))
  where
    table_case : (t : GameTable) (list : List ℚ) → IsTable t → table_form t (Ok f) → only {E = Refusal} (drop 1 plans.one ++ drop 1 plans.two) (Ok list)
        → (m : Mixed) × is_table_equilibrium (game_of t) m × (list ≡ entries (strategy_counts t) m)
    table_case t list w h e = (mixed_of_plans (weights_of plans), on_table t w h, ok_same list (drop 1 plans.one ++ drop 1 plans.two) e ∙ table_entries t f plans w is h all)

    pub own_entries : (strategic : Bool) (game : Game) (list : List ℚ) → IsGame game → form_in rows strategic game (Ok f) → entries_in strategic game plans.one plans.two (Ok list) → AreOfEquilibrium strategic game list
    own_entries true (Strategic t) list w k e = (let c = table_case k.0 list (strategic_table-is_table (Strategic t) k.0 w k.1) k.2.2 e in (k.0, k.1, c.0, c.1, c.2))
    own_entries false (Strategic t) list w k e = (let c = table_case k.0 list (strategic_table-is_table (Strategic t) k.0 w k.1) k.2.2 e in (k.0, k.1, c.0, c.1, c.2))
    own_entries true (Extensive t) list w k e = (let c = table_case k.0 list (strategic_table-is_table (Extensive t) k.0 w k.1) k.2.2 e in (k.0, k.1, c.0, c.1, c.2))
    own_entries false (Extensive t) list w k e = (behaviour_of (game_of_tree t) (weights_of plans), on_tree t k.0 w k.1 k.2.2, tree_entries_are t plans list e)
