-- Refusals of the tool `lp` come from the contents of its input, and the steps that they name do not fit.
use Rattle.std.proofs.Common.{inl, inr, refl, subst, sym, Bool, true, false, [], ◌++◌, Err}
use Rattle.answers.specs.Answers.{only, refuse_where, ◌>>=◌, refused_by}
use Rattle.frac128.specs.Steps.{AddFits, step_of}
use Rattle.frac128.specs.declared.steps.Op.TheVariants.{Add}
use Rattle.game_theory.specs.Lines.{line_text}
use Rattle.game_core.specs.declared.game.Game.{Game}
use Rattle.sequence_data.specs.Data.{FormData}
use Rattle.sequence_data.specs.Sizes.{program_size}
use Rattle.lex_tableau.specs.StartStops.{start_of}
use Rattle.lex_tableau.specs.declared.tableau.StartStop.{StartStop}
use Rattle.zero_sum_lp.specs.Ends.{optimum_in}
use Rattle.zero_sum_lp.specs.FormPrograms.{IsSystemOf, program_in, told_start}
use Rattle.zero_sum_lp.specs.Parts.{Program}
use Rattle.zero_sum_lp.specs.PlanStops.{plans_of}
use Rattle.zero_sum_lp.specs.declared.stop.LpStop.{LpStop}
use Rattle.zero_sum_lp.specs.declared.stop.PlanStop.{PlanStop}
use Rattle.zero_sum_lp.proofs.PlanStageLemmas.{plan_in-unfit}
use Rattle.two_player_tools.specs.Entries.{entries_in}
use Rattle.two_player_tools.specs.Lp.{Solution, first_price, lp, prices_in, prices_text, solution, solution_in, solution_text}
use Rattle.two_player_tools.specs.TwoPlayers.{form_in, two_players}
use Rattle.refusals.specs.Told.{pivot_refusal, plan_refusal, program_refusal}
use Rattle.refusals.specs.declared.refusal.Refusal.{Refusal}
use Rattle.refusals.specs.declared.refusal.Refusal.TheVariants as refusal
use Rattle.refusals.specs.declared.site.Site.TheVariants as site
use Rattle.gambit_tools.proofs.FormContentLemmas.{AreContents, IsOfContents, entries-contents, form_in-contents, only-contents, then-contents, told-contents, two_players-contents, where-contents}

-- ---- reasons to stop
plan-contents : (o : Program) (stop : PlanStop) → plans_of o (Err stop) → IsOfContents (plan_refusal stop)
plan-contents o stop (inl h) = subst (λ s. IsOfContents (plan_refusal s)) (sym h.2) (plan_in-unfit _ _ h.0 h.1)
plan-contents o stop (inr (_, _, inl h)) = subst (λ s. IsOfContents (plan_refusal s)) (sym h.2) (plan_in-unfit _ _ h.0 h.1)
plan-contents o stop (inr (_, _, inr (_, _, h))) = cc (h)

start-contents : (f : FormData) (stop : StartStop) → start_of (IsSystemOf f) (Err stop) → IsOfContents (program_refusal (told_start stop))
start-contents f stop (s, (_, inl h)) =
    subst (λ r. IsOfContents (program_refusal (told_start r))) (sym h.2) (h.1.first_unfit.does_not_fit)
start-contents f stop (s, (_, inr (_, _, h))) = absurd h

program-contents : (f : FormData) (stop : LpStop) → program_in f (Err stop) → IsOfContents (program_refusal stop)
program-contents f stop (inl h) = subst (λ s. IsOfContents (program_refusal s)) (sym h.2) refl
program-contents f stop (inr (_, _, inl h)) =
    subst (λ s. IsOfContents (program_refusal s)) (sym h.2) (h.1.first_unfit.does_not_fit)
program-contents f stop (inr (_, _, inr (_, _, inl h))) = subst (λ s. IsOfContents (program_refusal s)) (sym h.2) refl
program-contents f stop (inr (_, _, inr (_, _, inr (_, _, inl h)))) =
    subst (λ s. IsOfContents (program_refusal s)) (sym h.2) (h.1.first_unfit.does_not_fit)
program-contents f stop (inr (_, _, inr (_, _, inr (_, _, inr (_, _, inl h))))) =
    subst (λ s. IsOfContents (program_refusal s)) (sym h.2) (start-contents f h.0 h.1)
program-contents f stop (inr (_, _, inr (_, _, inr (_, _, inr (_, _, inr (_, _, e)))))) = cc e

-- ---- the solution
pub solution_in-contents : (f : FormData) → AreContents (solution_in f)
solution_in-contents f =
    then-contents (refused_by program_refusal (program_in f)) (λ p. refused_by pivot_refusal (optimum_in p) >>= λ o. (refused_by plan_refusal (plans_of o) >>= λ plans. only (solution f o plans)))
    (told-contents program_refusal (program_in f) (program-contents f))
    (λ p. then-contents (refused_by pivot_refusal (optimum_in p)) (λ o. refused_by plan_refusal (plans_of o) >>= λ plans. only (solution f o plans)) (told-contents pivot_refusal (optimum_in p) (λ stop h. h.first_unfit.does_not_fit))
    (λ o. then-contents (refused_by plan_refusal (plans_of o)) (λ plans. only (solution f o plans))
    (told-contents plan_refusal (plans_of o) (plan-contents o)) (λ plans. only-contents (solution f o plans))))

-- ---- the text
prices-contents : (prices : Bool) (f : FormData) (s : Solution) → AreContents (prices_in prices f s)
prices-contents false f s = only-contents []
prices-contents true f s =
    then-contents (refuse_where (¬ (AddFits (first_price s) f.least_one)) (refusal.Range site.Value (step_of Add (first_price s) f.least_one))) (λ _. only (prices_text f s))
    (where-contents _ _ (λ h. h)) (λ _. only-contents (prices_text f s))

text-contents : (strategic prices : Bool) (game : Game) (f : FormData) (s : Solution) → AreContents (solution_text strategic prices game f s)
text-contents strategic prices game f s =
    then-contents (entries_in strategic game s.one s.two) (λ entries. prices_in prices f s >>= λ lines. only (line_text entries ++ lines)) (entries-contents strategic game s.one s.two)
    (λ entries. then-contents (prices_in prices f s) (λ lines. only (line_text entries ++ lines)) (prices-contents prices f s) (λ lines. only-contents (line_text entries ++ lines)))

pub lp-contents : (strategic prices : Bool) (game : Game) (r : Refusal) → lp strategic prices game (Err r) → IsOfContents r
lp-contents strategic prices game =
    then-contents (two_players game) (λ _. form_in program_size strategic game >>= λ f. (solution_in f >>= λ s. solution_text strategic prices game f s)) (two_players-contents game)
    (λ _. then-contents (form_in program_size strategic game) (λ f. solution_in f >>= λ s. solution_text strategic prices game f s) (form_in-contents program_size strategic game)
    (λ f. then-contents (solution_in f) (λ s. solution_text strategic prices game f s) (solution_in-contents f) (λ s. text-contents strategic prices game f s)))
