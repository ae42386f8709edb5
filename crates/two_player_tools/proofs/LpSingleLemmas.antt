-- The tool `lp` has at most one answer.
use Rattle.std.proofs.Common.{Bool, true, false, [], ◌++◌}
use Rattle.answers.specs.Answers.{IsSingle, ◌>>=◌, only, refuse_where, refused_by}
use Rattle.answers.proofs.AnswerLemmas.{bind-single, only-single, refuse_where-single, refused_by-single}
use Rattle.frac128.specs.Steps.{AddFits, step_of}
use Rattle.frac128.specs.declared.steps.Op.TheVariants.{Add}
use Rattle.game_theory.specs.Lines.{line_text}
use Rattle.game_core.specs.declared.game.Game.{Game}
use Rattle.sequence_data.specs.Data.{FormData, IsFormData}
use Rattle.sequence_data.specs.Sizes.{program_size}
use Rattle.zero_sum_lp.specs.Ends.{optimum_in}
use Rattle.zero_sum_lp.specs.FormPrograms.{program_in}
use Rattle.zero_sum_lp.specs.Parts.{IsOptimumOf, IsProgram, Program}
use Rattle.zero_sum_lp.specs.PlanStops.{plans_of}
use Rattle.zero_sum_lp.proofs.FormLaws.{programs_of_forms}
use Rattle.zero_sum_lp.proofs.PathEndLemmas.{ends_same}
use Rattle.zero_sum_lp.proofs.PlanAnswerLemmas.{plans_single}
use Rattle.zero_sum_lp.proofs.ProgramAnswerLemmas.{programs_single}
use Rattle.two_player_tools.specs.Entries.{entries_in}
use Rattle.two_player_tools.specs.GameTypes.{IsGame}
use Rattle.two_player_tools.specs.Lp.{Solution, first_price, lp, prices_in, prices_text, solution, solution_in, solution_text}
use Rattle.refusals.specs.Told.{pivot_refusal, plan_refusal, program_refusal}
use Rattle.two_player_tools.specs.TwoPlayers.{form_in, two_players}
use Rattle.refusals.specs.declared.refusal.Refusal.TheVariants as refusal
use Rattle.refusals.specs.declared.site.Site.TheVariants as site
use Rattle.two_player_tools.proofs.FormSingleLemmas.{RecallsAreSingle, entries_in-single, form_in-single, two_players-single}
use Rattle.two_player_tools.proofs.KeptPropertyLemmas.{TreesAreGames, form_in-valid, optimum-first, optimum-second}

-- ---- the solution
plans-single : (f : FormData) (p o : Program) → IsProgram p → IsOptimumOf p o → IsSingle (refused_by plan_refusal (plans_of o) >>= λ plans. only (solution f o plans))
plans-single f p o h k =
    bind-single (refused_by plan_refusal (plans_of o)) (λ plans. only (solution f o plans))
    (refused_by-single plan_refusal (plans_of o) (plans_single o (optimum-first p o h k) (optimum-second p o h k)))
    (λ plans _. only-single (solution f o plans))

pub solution_in-single : (f : FormData) → IsFormData f → IsSingle (solution_in f)
solution_in-single f w =
    bind-single (refused_by program_refusal (program_in f)) (λ p. refused_by pivot_refusal (optimum_in p) >>= λ o. (refused_by plan_refusal (plans_of o) >>= λ plans. only (solution f o plans)))
    (refused_by-single program_refusal (program_in f) (programs_single f))
    (λ p k. let h : IsProgram p = (programs_of_forms f p w k).0 in
    bind-single (refused_by pivot_refusal (optimum_in p)) (λ o. refused_by plan_refusal (plans_of o) >>= λ plans. only (solution f o plans)) (refused_by-single pivot_refusal (optimum_in p) (ends_same p h)) (λ o l. plans-single f p o h l))

-- ---- the text
prices_in-single : (prices : Bool) (f : FormData) (s : Solution) → IsSingle (prices_in prices f s)
prices_in-single false f s = only-single []
prices_in-single true f s =
    bind-single (refuse_where (¬ (AddFits (first_price s) f.least_one)) (refusal.Range site.Value (step_of Add (first_price s) f.least_one))) (λ _. only (prices_text f s))
    (refuse_where-single _ _) (λ _ _. only-single (prices_text f s))

solution_text-single : (strategic prices : Bool) (game : Game) (f : FormData) (s : Solution) → IsSingle (solution_text strategic prices game f s)
solution_text-single strategic prices game f s =
    bind-single (entries_in strategic game s.one s.two) (λ entries. prices_in prices f s >>= λ lines. only (line_text entries ++ lines)) (entries_in-single strategic game s.one s.two)
    (λ entries _. bind-single (prices_in prices f s) (λ lines. only (line_text entries ++ lines)) (prices_in-single prices f s) (λ lines _. only-single (line_text entries ++ lines)))

pub lp-single : (strategic prices : Bool) (game : Game) → TreesAreGames → RecallsAreSingle → IsGame game → IsSingle (lp strategic prices game)
lp-single strategic prices game laws recalls w =
    bind-single (two_players game) (λ _. form_in program_size strategic game >>= λ f. (solution_in f >>= λ s. solution_text strategic prices game f s))
    (two_players-single game)
    (λ _ _. bind-single (form_in program_size strategic game) (λ f. solution_in f >>= λ s. solution_text strategic prices game f s) (form_in-single program_size strategic game recalls w)
    (λ f k. bind-single (solution_in f) (λ s. solution_text strategic prices game f s) (solution_in-single f (form_in-valid program_size strategic game f laws w k)) (λ s _. solution_text-single strategic prices game f s)))
