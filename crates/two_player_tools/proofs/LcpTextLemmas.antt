-- The texts of `lcp` are those of equilibria.
use Rattle.std.proofs.Common.{ℕ, ◌≡◌, ◌∙◌, sym, ap, subst, Bool, Option, List, Ok}
use Rattle.answers.proofs.AnswerLemmas.{ok_same}
use Rattle.game_theory.specs.Equilibrium.{IsEquilibrium as is_table_equilibrium}
use Rattle.game_theory.specs.Lines.{line_text}
use Rattle.game_theory.proofs.ProfileLineLemmas.{length-listed}
use Rattle.game_theory.specs.TreeEquilibrium.{IsEquilibrium}
use Rattle.game_core.specs.Table.{GameTable, IsTable, game_of}
use Rattle.game_core.specs.Tree.{GameTree, IsGameTree}
use Rattle.game_core.specs.TreeGame.{game_of_tree}
use Rattle.game_core.specs.declared.game.Game.{Game}
use Rattle.perfect_recall.specs.Found.{IsRecallOf}
use Rattle.sequence_forms.specs.Forms.{mixed_of_plans}
use Rattle.sequence_forms.specs.PlanBehaviour.{behaviour_of}
use Rattle.sequence_forms.specs.Sides.{sequences}
use Rattle.sequence_forms.proofs.EndLemmas.{solutions_on_tables, solutions_on_trees}
use Rattle.sequence_data.specs.Data.{FormData, IsFormData, SideData, form, side_of}
use Rattle.rational.specs.Rational.{ℚ}
use Rattle.rational.specs.Sum.{entry_at}
use Rattle.sequence_data.specs.Sizes.{problem_rows}
use Rattle.sequence_form.specs.Forms.{table_form, tree_form}
use Rattle.sequence_form.specs.Laws.{count_of_columns, count_of_rows}
use Rattle.sequence_form.proofs.FormLemmas.{tree_form-is}
use Rattle.sequence_form.proofs.Laws.{table_stands, tree_stands}
use Rattle.sequence_data.specs.PlanPairs.{PlanPair}
use Rattle.lemke_pivot.specs.Ends.{IsSolutionOf}
use Rattle.lemke_pivot.specs.FormProblems.{problem_in, with_start}
use Rattle.lemke_pivot.specs.Parts.{IsProblem, IsProblemOfForm, Problem, plan_one, plan_two, plans_at}
use Rattle.lemke_pivot.proofs.FormProblemLemmas.{problems_of_forms}
use Rattle.lemke_pivot.proofs.PathStartLemmas.{solves_the_form}
use Rattle.two_player_tools.specs.GameTypes.{IsGame}
use Rattle.two_player_tools.specs.Lcp.{lcp}
use Rattle.two_player_tools.specs.Entries.{entries_in}
use Rattle.two_player_tools.specs.EquilibriumEntries.{AreOfEquilibrium}
use Rattle.two_player_tools.specs.LcpLaws.{IsEquilibriumText}
use Rattle.two_player_tools.specs.TwoPlayers.{form_in}
use Rattle.two_player_tools.proofs.KeptPropertyLemmas.{TreesAreGames, form_in-valid, two_who_recall}
use Rattle.two_player_tools.proofs.LcpPlanLemmas.{HavePrices, have_prices}
use Rattle.two_player_tools.proofs.PlanEntryLemmas.{HaveAllWeights, own_entries, weights_of}

-- how a form is solved: its problem, and the problem's solution
pub record IsPivoting (f : FormData) (p s : Problem) : Type 0 where
  pub valid : IsFormData f
  pub problem : problem_in f (Ok p)
  pub solution : IsSolutionOf p s

module _ (f : FormData) (p s : Problem) (h : IsPivoting f p s) where
  starts_so : with_start f h.problem.2.2.0 ≡ p
  starts_so = cc (h.problem.2.2.2)

  pub first-is : s.first ≡ f.first
  first-is = h.solution.first ∙ sym (ap (λ (x : Problem). x.first) starts_so)

  pub second-is : s.second ≡ f.second
  second-is = h.solution.second ∙ sym (ap (λ (x : Problem). x.second) starts_so)

  pub first-count : f.first.sequences ≡ sequences (side_of s.first)
  first-count = h.valid.first_is.sequences_are ∙ sym (ap (λ (d : SideData). sequences (side_of d)) first-is)

  pub second-count : f.second.sequences ≡ sequences (side_of s.second)
  second-count = h.valid.second_is.sequences_are ∙ sym (ap (λ (d : SideData). sequences (side_of d)) second-is)

  is_problem : IsProblem p
  is_problem = (problems_of_forms f p h.valid h.problem).0

  is_of_form : IsProblemOfForm (form f) f.greatest_one f.greatest_two p
  is_of_form = (problems_of_forms f p h.valid h.problem).1

  solved : HavePrices (form f) f.greatest_one f.greatest_two (plans_at s)
  solved =
      have_prices (form f) f.greatest_one f.greatest_two s (is_of_form.rows ∙ ap side_of (sym h.solution.first)) (is_of_form.columns ∙ ap side_of (sym h.solution.second))
      (solves_the_form (form f) f.greatest_one f.greatest_two p s is_problem is_of_form h.solution)

  on_table : (t : GameTable) → IsTable t → table_form t (Ok f) → is_table_equilibrium (game_of t) (mixed_of_plans (weights_of (plans_at s)))
  on_table t w k =
      let stands = table_stands t f w k in
      solutions_on_tables (game_of t) (count_of_rows t) (count_of_columns t) (form f) f.greatest_one f.greatest_two (entry_at (plans_at s).one) (entry_at (plans_at s).two) solved.P solved.P' solved.Q solved.Q' stands.strategies_are stands.alike solved.solves

  on_tree : (t : GameTree) (before : List (Option (ℕ × ℕ))) → TreesAreGames → IsGameTree t → IsRecallOf (game_of_tree t) before → tree_form t (Ok f) → IsEquilibrium (game_of_tree t) (behaviour_of (game_of_tree t) (weights_of (plans_at s)))
  on_tree t before laws w recall k =
      solutions_on_trees (game_of_tree t) (form f) f.greatest_one f.greatest_two (entry_at (plans_at s).one) (entry_at (plans_at s).two) solved.P solved.P' solved.Q solved.Q' (two_who_recall t f before laws w recall k) (tree_stands (game_of_tree t) f (tree_form-is t f k)).alike solved.solves

  pub weighted : HaveAllWeights f (plans_at s)
  weighted = record {
    one_has_all = length-listed (sequences (side_of s.first)) (plan_one s) ∙ sym first-count;
    two_has_all = length-listed (sequences (side_of s.second)) (plan_two s) ∙ sym second-count;
  }

  pub equilibrium : (strategic : Bool) (game : Game) (list : List ℚ) → TreesAreGames → IsGame game → form_in problem_rows strategic game (Ok f) → entries_in strategic game (plans_at s).one (plans_at s).two (Ok list) → AreOfEquilibrium strategic game list
  equilibrium strategic game list laws w k e = own_entries problem_rows f (plans_at s) h.valid weighted on_table (λ t before. on_tree t before laws) strategic game list w k e

-- each text of `lcp` is the line of an equilibrium
pub lcp_texts : TreesAreGames → (strategic : Bool) (game : Game) (text : List ℕ) → IsGame game → lcp strategic game (Ok text) → IsEquilibriumText strategic game text
lcp_texts laws strategic game text w (_, _, (f, k, (plans, (p, problem, (s, solution, same)), (entries, are_entries, e)))) =
    let h : IsPivoting f p s = record { valid = form_in-valid problem_rows strategic game f laws w k; problem = problem; solution = solution } in
    let are : plans ≡ plans_at s = ok_same plans (plans_at s) same in
    (entries, equilibrium f p s h strategic game entries laws w k (subst (λ (v : PlanPair). entries_in strategic game v.one v.two (Ok entries)) are are_entries), ok_same text (line_text entries) e)
