-- The texts of `lp` are those of solutions.
use Rattle.std.proofs.Common.{ℕ, suc, ◌≡◌, ◌∙◌, sym, ap, subst, Bool, true, false, if◌then◌else◌, Option, List, [], ◌++◌, length, Ok}
use Rattle.rational.specs.Rational.{ℚ}
use Rattle.answers.proofs.AnswerLemmas.{ok_same}
use Rattle.game_theory.specs.Lines.{line_text, listed}
use Rattle.game_core.specs.Table.{GameTable, IsTable, game_of}
use Rattle.game_core.specs.Tree.{GameTree, IsGameTree}
use Rattle.game_core.specs.TreeGame.{game_of_tree}
use Rattle.game_core.specs.declared.game.Game.{Game}
use Rattle.game_core.specs.declared.game.Game.TheVariants.{Strategic, Extensive}
use Rattle.perfect_recall.specs.Found.{IsRecallOf}
use Rattle.sequence_forms.specs.PriceLaws.{AreOptimalOnTree}
use Rattle.sequence_forms.specs.TableLaws.{AreOptimalOnTable}
use Rattle.sequence_forms.specs.Sides.{sequences}
use Rattle.sequence_data.specs.Data.{FormData, IsFormData, SideData, form, side_of}
use Rattle.rational.specs.Sum.{entry_at}
use Rattle.sequence_data.specs.declared.types.Leaf.{Leaf}
use Rattle.sequence_data.specs.Sizes.{program_size}
use Rattle.sequence_form.specs.Forms.{profile_leaf, table_form, tree_form}
use Rattle.sequence_form.specs.Laws.{count_of_columns, count_of_rows}
use Rattle.sequence_form.specs.Paths.{leaf_at}
use Rattle.sequence_form.proofs.FormLemmas.{tree_form-is}
use Rattle.sequence_form.proofs.Laws.{table_stands, tree_stands}
use Rattle.zero_sum_lp.specs.Parts.{IsProgram, Program, first_prices, first_raw, second_prices, second_raw}
use Rattle.sequence_data.specs.PlanPairs.{PlanPair}
use Rattle.zero_sum_lp.specs.PlanStops.{IsRaisedPlan, IsTrimmedPlan, plan_in}
use Rattle.zero_sum_lp.specs.ValueLaws.{IsProgramOfForm}
use Rattle.zero_sum_lp.proofs.FormLaws.{programs_of_forms}
use Rattle.zero_sum_lp.proofs.ValueLemmas.{plans_prove, plans_solve_tables, plans_solve_trees}
use Rattle.frac128.specs.Steps.{Step}
use Rattle.two_player_tools.specs.Entries.{entries_in}
use Rattle.two_player_tools.specs.EquilibriumEntries.{AreOfEquilibrium}
use Rattle.two_player_tools.specs.GameTypes.{IsGame}
use Rattle.two_player_tools.specs.Lp.{Solution, lp, prices_in, prices_text, solution, solution_text}
use Rattle.two_player_tools.specs.LpLaws.{HoldsOn, IsSolved, ProvesValue}
use Rattle.two_player_tools.specs.TwoPlayers.{form_in}
use Rattle.two_player_tools.proofs.ConstantSumLemmas.{constant_of, sums_to, table_sums, tree_sums}
use Rattle.two_player_tools.proofs.StrategicFormLemmas.{strategic_table-is_table}
use Rattle.two_player_tools.proofs.PlanEntryLemmas.{HaveAllWeights, own_entries}
use Rattle.two_player_tools.proofs.KeptPropertyLemmas.{IsSolving, TreesAreGames, first-same, form_in-valid, second-same, two_who_recall}

-- ---- solutions
-- a plan with all its steps is as long as each plan of its kind
plan-long : (is_plan : List ℚ → Type 0) (steps : List ℚ → List Step) (plan : List ℚ) {n : ℕ} → plan_in is_plan steps (Ok plan) → ((other : List ℚ) → is_plan other → length other ≡ n) → length plan ≡ n
plan-long is_plan steps plan h long = ap length (ok_same plan h.0 h.2.2) ∙ long h.0 h.1

module _ (f : FormData) (p o : Program) (plans : PlanPair) (h : IsSolving f p o plans) where
  is_program : IsProgram p
  is_program = (programs_of_forms f p h.valid h.program).0

  is_of_form : IsProgramOfForm (form f) f.least_one p
  is_of_form = (programs_of_forms f p h.valid h.program).1

  proves : ProvesValue f (solution f o plans)
  proves = record {
    first = first_prices o;
    second = second_prices o;
    first_are = ap (λ (s : SideData). listed (suc (length s.sets)) (first_prices o)) (first-same f p o plans h);
    second_are = ap (λ (s : SideData). listed (suc (length s.sets)) (second_prices o)) (second-same f p o plans h);
    proof = plans_prove (form f) f.least_one p o plans is_program is_of_form h.optimum h.planned;
  }

  on_table : (t : GameTable) → IsTable t → table_form t (Ok f) → AreOptimalOnTable (game_of t) (entry_at plans.one) (entry_at plans.two) (solution f o plans).value
  on_table t w k =
      let none : Leaf = profile_leaf t 0 in
      let stands = table_stands t f w k in
      let sums = table_sums t f (constant_of f none) w k (sums_to f none h.valid h.program.2.2.1) in
      plans_solve_tables (game_of t) (count_of_rows t) (count_of_columns t) (form f) f.least_one (constant_of f none) p o plans stands.strategies_are stands.alike sums is_program is_of_form h.optimum h.planned

  on_tree : (t : GameTree) (before : List (Option (ℕ × ℕ))) → TreesAreGames → IsGameTree t → IsRecallOf (game_of_tree t) before → tree_form t (Ok f) → AreOptimalOnTree (game_of_tree t) (entry_at plans.one) (entry_at plans.two) (solution f o plans).value
  on_tree t before laws w recall k =
      let none : Leaf = leaf_at (game_of_tree t) 0 in
      let two = two_who_recall t f before laws w recall k in
      let sums = tree_sums (game_of_tree t) f (constant_of f none) (tree_form-is t f k) (sums_to f none h.valid h.program.2.2.1) in
      plans_solve_trees (game_of_tree t) (form f) f.least_one (constant_of f none) p o plans two (tree_stands (game_of_tree t) f (tree_form-is t f k)).alike sums is_program is_of_form h.optimum h.planned

  abbrev pair : PlanPair
  pair = record { one = h.planned.0; two = h.planned.2.0 }

  are : plans ≡ pair
  are = ok_same plans pair h.planned.2.2

  weighted : HaveAllWeights f plans
  weighted = record {
    one_has_all = ap (λ (v : PlanPair). length v.one) are ∙ plan-long (IsRaisedPlan (side_of o.first) (first_raw o)) _ pair.one h.planned.1 (λ plan is. is.0) ∙ ap (λ (d : SideData). sequences (side_of d)) (first-same f p o plans h) ∙ sym h.valid.first_is.sequences_are;
    two_has_all = ap (λ (v : PlanPair). length v.two) are ∙ plan-long (IsTrimmedPlan (side_of o.second) (second_raw o)) _ pair.two h.planned.2.1 (λ plan is. is.0) ∙ ap (λ (d : SideData). sequences (side_of d)) (second-same f p o plans h) ∙ sym h.valid.second_is.sequences_are;
  }

  pub equilibrium : (strategic : Bool) (game : Game) (list : List ℚ) → TreesAreGames → IsGame game → form_in program_size strategic game (Ok f) → entries_in strategic game plans.one plans.two (Ok list) → AreOfEquilibrium strategic game list
  equilibrium strategic game list laws w k e =
      own_entries program_size f plans h.valid weighted (λ t valid is. (on_table t valid is).equilibrium) (λ t before valid recall is. (on_tree t before laws valid recall is).equilibrium) strategic game list w k e

  holds : (strategic : Bool) (game : Game) → TreesAreGames → IsGame game → form_in program_size strategic game (Ok f) → HoldsOn strategic game (solution f o plans)
  holds true (Strategic t) laws w k = (k.0, k.1, on_table k.0 (strategic_table-is_table (Strategic t) k.0 w k.1) k.2.2)
  holds false (Strategic t) laws w k = (k.0, k.1, on_table k.0 (strategic_table-is_table (Strategic t) k.0 w k.1) k.2.2)
  holds true (Extensive t) laws w k = (k.0, k.1, on_table k.0 (strategic_table-is_table (Extensive t) k.0 w k.1) k.2.2)
  holds false (Extensive t) laws w k = on_tree t k.0 laws w k.1 k.2.2

-- ---- texts
lines_are : (prices : Bool) (f : FormData) (s : Solution) (lines : List ℕ) → prices_in prices f s (Ok lines) → lines ≡ (if prices then prices_text f s else [])
lines_are false f s lines e = ok_same lines [] e
lines_are true f s lines h = ok_same lines (prices_text f s) h.2

solved_text : (strategic prices : Bool) (game : Game) (text : List ℕ) (f : FormData) (p o : Program) (plans : PlanPair) (s : Solution) → TreesAreGames → IsGame game → form_in program_size strategic game (Ok f) → IsSolving f p o plans → s ≡ solution f o plans
    → solution_text strategic prices game f s (Ok text) → IsSolved strategic prices game text
solved_text strategic prices game text f p o plans s laws w k h same (entries, are_entries, (lines, are_lines, e)) = record {
  form = f;
  is_form = k;
  solution = s;
  one_has_all = ap (λ (v : Solution). length v.one) same ∙ (weighted f p o plans h).one_has_all;
  two_has_all = ap (λ (v : Solution). length v.two) same ∙ (weighted f p o plans h).two_has_all;
  proves = subst (ProvesValue f) (sym same) (proves f p o plans h);
  holds = subst (HoldsOn strategic game) (sym same) (holds f p o plans h strategic game laws w k);
  entries = entries;
  are_entries = are_entries;
  equilibrium = equilibrium f p o plans h strategic game entries laws w k (subst (λ (v : Solution). entries_in strategic game v.one v.two (Ok entries)) same are_entries);
  text_is = ok_same text (line_text entries ++ lines) e ∙ ap (λ v. line_text entries ++ v) (lines_are prices f s lines are_lines);
}

-- each text of `lp` is that of a solution
pub lp_texts : TreesAreGames → (strategic prices : Bool) (game : Game) (text : List ℕ) → IsGame game → lp strategic prices game (Ok text) → IsSolved strategic prices game text
lp_texts laws strategic prices game text w (_, _, (f, k, (s, (p, program, (o, optimum, (plans, planned, same))), h))) =
    let valid : IsFormData f = form_in-valid program_size strategic game f laws w k in
    solved_text strategic prices game text f p o plans s laws w k (record { valid = valid; program = program; optimum = optimum; planned = planned }) (ok_same s (solution f o plans) same) h
