-- What a method finds for a tree, and in a cut, is single, and is of an equilibrium.
use Rattle.std.proofs.Common.{ℕ, ◌≡◌, ◌∙◌, sym, ap, subst, false, List, Ok}
use Rattle.std.specs.List.{range_with_len}
use Rattle.answers.specs.Answers.{IsSingle, by_case, only, ◌>>=◌, ◌>>◌, refused_by}
use Rattle.answers.proofs.AnswerLemmas.{bind-single, by_case-single, ok_same, only-single, refused_by-single}
use Rattle.rational.specs.Rational.{ℚ}
use Rattle.frac128.proofs.FirstUnfitLemmas.{all_fit-single}
use Rattle.game_core.specs.Tree.{GameTree, IsGameTree}
use Rattle.game_core.specs.TreeGame.{game_of_tree}
use Rattle.game_core.specs.declared.game.Game.TheVariants.{Extensive}
use Rattle.behaviour_profile.specs.Plans.{plan_behaviour}
use Rattle.behaviour_profile.proofs.PlanStopLemmas.{plan_behaviour-single}
use Rattle.verdicts.specs.TreeSteps.{behaviour_steps_at}
use Rattle.pure_payoffs.specs.declared.stop.PayoffStop.TheVariants as payoffs_stop
use Rattle.verdicts.proofs.AlikeBehaviourLemmas.{behaviour_payoffs-alike}
use Rattle.verdicts.proofs.SameEntryLemmas.{entries-alike}
use Rattle.sequence_data.specs.Data.{FormData, IsFormData}
use Rattle.sequence_data.specs.Sizes.{problem_rows, program_size}
use Rattle.subgames.specs.MadeCuts.{MadeCut}
use Rattle.sequence_data.specs.PlanPairs.{PlanPair}
use Rattle.refusals.specs.Told.{behaviour_refusal}
use Rattle.refusals.specs.declared.refusal.Refusal.{Refusal}
use Rattle.lemke_pivot.specs.Parts.{plans_at}
use Rattle.two_player_tools.specs.EquilibriumEntries.{AreOfEquilibrium}
use Rattle.two_player_tools.specs.Lp.{Solution, solution, solution_in}
use Rattle.two_player_tools.specs.Perfect.{cut_entries_in, entries_by, in_subgame, entry_payoffs_fit, plans_by, worth_refusal}
use Rattle.two_player_tools.specs.TwoPlayers.{tree_form_within, rows_by}
use Rattle.two_player_tools.specs.declared.forms.Method.{Method}
use Rattle.two_player_tools.specs.declared.forms.Method.TheVariants.{LinearProgram, Complementarity}
use Rattle.two_player_tools.proofs.FormSingleLemmas.{RecallsAreSingle, form_in-single}
use Rattle.two_player_tools.proofs.KeptPropertyLemmas.{IsSolving, TreesAreGames, form_in-valid}
use Rattle.two_player_tools.proofs.LcpSingleLemmas.{equilibrium_in-single}
use Rattle.two_player_tools.proofs.LcpTextLemmas.{IsPivoting, equilibrium as pivoted_equilibrium}
use Rattle.two_player_tools.proofs.LpSingleLemmas.{solution_in-single}
use Rattle.two_player_tools.proofs.LpTextLemmas.{equilibrium as solved_equilibrium}

-- ---- one tree
-- the plans of a form
plans_by-single : (method : Method) (f : FormData) → IsFormData f → IsSingle (plans_by method f)
plans_by-single LinearProgram f w =
    bind-single (solution_in f) (λ s. only {E = Refusal} {Y = PlanPair} (record { one = s.one; two = s.two })) (solution_in-single f w) (λ s _. only-single _)
plans_by-single Complementarity f w = equilibrium_in-single f w

-- the entries of a tree
entries_by-single : (method : Method) (t : GameTree) → TreesAreGames → RecallsAreSingle → IsGameTree t → IsSingle (entries_by method t)
entries_by-single method t laws recalls w =
    let told = λ (plans : PlanPair). refused_by behaviour_refusal (plan_behaviour t plans.one plans.two) in
    bind-single (tree_form_within (rows_by method) t) (λ form. plans_by method form >>= told)
    (form_in-single (rows_by method) false (Extensive t) recalls w)
    (λ form k. bind-single (plans_by method form) told (plans_by-single method form (form_in-valid (rows_by method) false (Extensive t) form laws w k))
    (λ plans _. refused_by-single behaviour_refusal (plan_behaviour t plans.one plans.two) (plan_behaviour-single t plans.one plans.two)))

-- these are the entries of an equilibrium
pub entries_by-equilibrium : (method : Method) (t : GameTree) (list : List ℚ) → TreesAreGames → IsGameTree t → entries_by method t (Ok list) → AreOfEquilibrium false (Extensive t) list
entries_by-equilibrium LinearProgram t list laws w (f, k, (plans, (s, (p, program, (o, optimum, (found, planned, same))), e), told)) =
    let h : IsSolving f p o found = record { valid = form_in-valid program_size false (Extensive t) f laws w k; program = program; optimum = optimum; planned = planned } in
    let are : plans ≡ found = ok_same plans _ e ∙ ap (λ (v : Solution). record { one = v.one; two = v.two }) (ok_same s (solution f o found) same) in
    solved_equilibrium f p o found h false (Extensive t) list laws w k (subst (λ (v : PlanPair). refused_by behaviour_refusal (plan_behaviour t v.one v.two) (Ok list)) are told)
entries_by-equilibrium Complementarity t list laws w (f, k, (plans, (p, problem, (s, solution, same)), told)) =
    let h : IsPivoting f p s = record { valid = form_in-valid problem_rows false (Extensive t) f laws w k; problem = problem; solution = solution } in
    pivoted_equilibrium f p s h false (Extensive t) list laws w k (subst (λ (v : PlanPair). refused_by behaviour_refusal (plan_behaviour t v.one v.two) (Ok list)) (ok_same plans (plans_at s) same) told)

-- ---- cuts
-- what entries pay
entry_payoffs_fit-single : (t : GameTree) (entries : List ℚ) → TreesAreGames → IsGameTree t → IsSingle (entry_payoffs_fit t entries)
entry_payoffs_fit-single t entries laws w one other h k =
    let g = game_of_tree t in
    let tree = laws.game_tree t w in
    let alike = entries-alike g h.0 k.0 tree (sym h.1 ∙ k.1) in
    refused_by-single (λ stop. payoffs_stop.Range stop.0 stop.1) _ (all_fit-single (λ i. behaviour_steps_at g k.0 i 0) (range_with_len 0 g.players)) one other (behaviour_payoffs-alike g h.0 k.0 tree alike one h.2) k.2

-- the answer in a cut
pub cut_entries_in-single : (method : Method) (n : ℕ) (cut : MadeCut) → TreesAreGames → RecallsAreSingle → IsGameTree cut.tree → IsSingle (cut_entries_in method n cut)
cut_entries_in-single method n cut laws recalls w =
    let paid = λ (entries : List ℚ). by_case (n ≡ 0) (only {E = Refusal} tt) (refused_by (worth_refusal n) (entry_payoffs_fit cut.tree entries)) in
    bind-single (refused_by (in_subgame n cut.nodes) (entries_by method cut.tree)) (λ entries. paid entries >> only entries)
    (refused_by-single (in_subgame n cut.nodes) (entries_by method cut.tree) (entries_by-single method cut.tree laws recalls w))
    (λ entries _. bind-single (paid entries) (λ _. only entries)
    (by_case-single (n ≡ 0) (only tt) (refused_by (worth_refusal n) (entry_payoffs_fit cut.tree entries)) (λ _. only-single tt) (λ _. refused_by-single (worth_refusal n) (entry_payoffs_fit cut.tree entries) (entry_payoffs_fit-single cut.tree entries laws w)))
    (λ _ _. only-single entries))
