-- The tools `lp` and `lcp` have an answer for the whole game.
use Rattle.std.proofs.Common.{Bool, true, false, [], ◌++◌}
use Rattle.answers.specs.Answered.{IsAnswered}
use Rattle.answers.specs.Answers.{◌>>=◌, only, refuse_where, refused_by}
use Rattle.answers.proofs.AnsweredLemmas.{bind-answered, only-answered, refuse_where-answered, refused_by-answered}
use Rattle.frac128.specs.Steps.{AddFits}
use Rattle.game_theory.specs.Lines.{line_text}
use Rattle.game_core.specs.declared.game.Game.{Game}
use Rattle.lemke_pivot.specs.Ends.{solved_in}
use Rattle.lemke_pivot.specs.FormProblems.{problem_in}
use Rattle.lemke_pivot.specs.Parts.{plans_at}
use Rattle.lemke_pivot.proofs.AnsweredPathLemmas.{ends_answered as pivots_end}
use Rattle.lemke_pivot.proofs.AnsweredProblemLemmas.{problems_answered}
use Rattle.lemke_pivot.proofs.FormProblemLemmas.{problems_of_forms}
use Rattle.refusals.specs.Told.{pivot_refusal, plan_refusal, problem_refusal, program_refusal}
use Rattle.sequence_data.specs.Data.{FormData, IsFormData}
use Rattle.sequence_data.specs.PlanPairs.{PlanPair}
use Rattle.sequence_data.specs.Sizes.{problem_rows, program_size}
use Rattle.zero_sum_lp.specs.Ends.{optimum_in}
use Rattle.zero_sum_lp.specs.FormPrograms.{program_in}
use Rattle.zero_sum_lp.specs.Parts.{IsOptimumOf, IsProgram, Program}
use Rattle.zero_sum_lp.specs.PlanStops.{plans_of}
use Rattle.zero_sum_lp.proofs.AnsweredPathLemmas.{ends_answered}
use Rattle.zero_sum_lp.proofs.AnsweredPlanLemmas.{plans_answered}
use Rattle.zero_sum_lp.proofs.AnsweredProgramLemmas.{programs_answered}
use Rattle.zero_sum_lp.proofs.FormLaws.{programs_of_forms}
use Rattle.two_player_tools.specs.Entries.{entries_in, plans_line}
use Rattle.two_player_tools.specs.GameTypes.{IsGame}
use Rattle.two_player_tools.specs.Lcp.{equilibrium_in, lcp}
use Rattle.two_player_tools.specs.Lp.{Solution, first_price, lp, prices_in, prices_text, solution, solution_in, solution_text, value_refusal}
use Rattle.two_player_tools.specs.TwoPlayers.{form_in, two_players}
use Rattle.two_player_tools.proofs.AnsweredFormLemmas.{entries_in-answered, form_in-answered, two_players-answered}
use Rattle.two_player_tools.proofs.KeptPropertyLemmas.{TreesAreGames, form_in-valid, optimum-first, optimum-second}

-- ---- by a linear program
-- an optimum has its solution, or a first step that does not fit
plans-answered : (f : FormData) (p o : Program) → IsProgram p → IsOptimumOf p o → IsAnswered (refused_by plan_refusal (plans_of o) >>= λ plans. only (solution f o plans))
plans-answered f p o h k =
    bind-answered (refused_by plan_refusal (plans_of o)) (λ plans. only (solution f o plans))
    (refused_by-answered plan_refusal (plans_of o) (plans_answered o (optimum-first p o h k) (optimum-second p o h k)))
    (λ plans _. only-answered (solution f o plans))

-- a form has a solution, or a reason why it has none
pub solution_in-answered : (f : FormData) → IsFormData f → IsAnswered (solution_in f)
solution_in-answered f w =
    bind-answered (refused_by program_refusal (program_in f)) (λ p. refused_by pivot_refusal (optimum_in p) >>= λ o. (refused_by plan_refusal (plans_of o) >>= λ plans. only (solution f o plans)))
    (refused_by-answered program_refusal (program_in f) (programs_answered f w))
    (λ p k. let h : IsProgram p = (programs_of_forms f p w k).0 in
    bind-answered (refused_by pivot_refusal (optimum_in p)) (λ o. refused_by plan_refusal (plans_of o) >>= λ plans. only (solution f o plans)) (refused_by-answered pivot_refusal (optimum_in p) (ends_answered p h)) (λ o l. plans-answered f p o h l))

-- prices have their lines, or a value that does not fit
prices_in-answered : (prices : Bool) (f : FormData) (s : Solution) → IsAnswered (prices_in prices f s)
prices_in-answered false f s = only-answered []
prices_in-answered true f s =
    bind-answered (refuse_where (¬ (AddFits (first_price s) f.least_one)) (value_refusal f s)) (λ _. only (prices_text f s))
    (refuse_where-answered (¬ (AddFits (first_price s) f.least_one)) (value_refusal f s)) (λ _ _. only-answered (prices_text f s))

-- a solution has a text, or a reason why it has none
solution_text-answered : (strategic prices : Bool) (game : Game) (f : FormData) (s : Solution) → IsAnswered (solution_text strategic prices game f s)
solution_text-answered strategic prices game f s =
    bind-answered (entries_in strategic game s.one s.two) (λ entries. prices_in prices f s >>= λ lines. only (line_text entries ++ lines)) (entries_in-answered strategic game s.one s.two)
    (λ entries _. bind-answered (prices_in prices f s) (λ lines. only (line_text entries ++ lines)) (prices_in-answered prices f s) (λ lines _. only-answered (line_text entries ++ lines)))

pub lp-answered : (strategic prices : Bool) (game : Game) → TreesAreGames → IsGame game → IsAnswered (lp strategic prices game)
lp-answered strategic prices game laws w =
    bind-answered (two_players game) (λ _. form_in program_size strategic game >>= λ f. (solution_in f >>= λ s. solution_text strategic prices game f s))
    (two_players-answered game)
    (λ _ _. bind-answered (form_in program_size strategic game) (λ f. solution_in f >>= λ s. solution_text strategic prices game f s) (form_in-answered program_size strategic game w)
    (λ f k. bind-answered (solution_in f) (λ s. solution_text strategic prices game f s) (solution_in-answered f (form_in-valid program_size strategic game f laws w k)) (λ s _. solution_text-answered strategic prices game f s)))

-- ---- by complementary pivots
-- a form has plans in equilibrium, or a reason why it has none
pub equilibrium_in-answered : (f : FormData) → IsFormData f → IsAnswered (equilibrium_in f)
equilibrium_in-answered f w =
    bind-answered (refused_by problem_refusal (problem_in f)) (λ p. refused_by pivot_refusal (solved_in p) >>= λ s. only (plans_at s))
    (refused_by-answered problem_refusal (problem_in f) (problems_answered f w))
    (λ p k. bind-answered (refused_by pivot_refusal (solved_in p)) (λ s. only (plans_at s)) (refused_by-answered pivot_refusal (solved_in p) (pivots_end p (problems_of_forms f p w k).0)) (λ s _. only-answered (plans_at s)))

-- two plans have a line, or a first quotient that does not fit
plans_line-answered : (strategic : Bool) (game : Game) (plans : PlanPair) → IsAnswered (plans_line strategic game plans.one plans.two)
plans_line-answered strategic game plans =
    bind-answered (entries_in strategic game plans.one plans.two) (λ entries. only (line_text entries)) (entries_in-answered strategic game plans.one plans.two)
    (λ entries _. only-answered (line_text entries))

pub lcp-answered : (strategic : Bool) (game : Game) → TreesAreGames → IsGame game → IsAnswered (lcp strategic game)
lcp-answered strategic game laws w =
    let line = λ (plans : PlanPair). plans_line strategic game plans.one plans.two in
    bind-answered (two_players game) (λ _. form_in problem_rows strategic game >>= λ f. (equilibrium_in f >>= line))
    (two_players-answered game)
    (λ _ _. bind-answered (form_in problem_rows strategic game) (λ f. equilibrium_in f >>= line) (form_in-answered problem_rows strategic game w)
    (λ f k. bind-answered (equilibrium_in f) line (equilibrium_in-answered f (form_in-valid problem_rows strategic game f laws w k)) (λ plans _. plans_line-answered strategic game plans)))
