-- Refusals of the tool `lcp` come from the contents of its input, and the steps that they name do not fit.
use Rattle.std.proofs.Common.{inl, inr, refl, subst, sym, Bool, Err}
use Rattle.answers.specs.Answers.{only, ◌>>=◌, refused_by}
use Rattle.game_core.specs.declared.game.Game.{Game}
use Rattle.sequence_data.specs.Data.{FormData}
use Rattle.sequence_data.specs.Sizes.{problem_rows}
use Rattle.lex_tableau.specs.StartStops.{start_of}
use Rattle.lex_tableau.specs.declared.tableau.StartStop.{StartStop}
use Rattle.sequence_data.specs.PlanPairs.{PlanPair}
use Rattle.lemke_pivot.specs.Ends.{solved_in}
use Rattle.lemke_pivot.specs.FormProblems.{IsSystemOf, problem_in, told_start}
use Rattle.lemke_pivot.specs.Parts.{size_of, plans_at}
use Rattle.lemke_pivot.specs.declared.stop.LcpStop.{LcpStop}
use Rattle.lemke_pivot.proofs.PathEndLemmas.{path_unfit}
use Rattle.two_player_tools.specs.Entries.{plans_line}
use Rattle.two_player_tools.specs.Lcp.{equilibrium_in, lcp}
use Rattle.refusals.specs.Told.{pivot_refusal, problem_refusal}
use Rattle.two_player_tools.specs.TwoPlayers.{form_in, two_players}
use Rattle.refusals.specs.declared.refusal.Refusal.{Refusal}
use Rattle.gambit_tools.proofs.FormContentLemmas.{AreContents, IsOfContents, form_in-contents, plans_line-contents, only-contents, then-contents, told-contents, two_players-contents}

start-contents : (f : FormData) (stop : StartStop) → start_of (IsSystemOf f) (Err stop) → IsOfContents (problem_refusal (told_start stop))
start-contents f stop (s, (_, inl h)) =
    subst (λ r. IsOfContents (problem_refusal (told_start r))) (sym h.2) (h.1.first_unfit.does_not_fit)
start-contents f stop (s, (_, inr (_, _, h))) = absurd h

problem-contents : (f : FormData) (stop : LcpStop) → problem_in f (Err stop) → IsOfContents (problem_refusal stop)
problem-contents f stop (inl h) = subst (λ s. IsOfContents (problem_refusal s)) (sym h.2) refl
problem-contents f stop (inr (_, _, inl h)) =
    subst (λ s. IsOfContents (problem_refusal s)) (sym h.2) (h.1.first_unfit.does_not_fit)
problem-contents f stop (inr (_, _, inr (_, _, inl h))) =
    subst (λ s. IsOfContents (problem_refusal s)) (sym h.2) (start-contents f h.0 h.1)
problem-contents f stop (inr (_, _, inr (_, _, inr (_, _, e)))) = cc e

pub equilibrium-contents : (f : FormData) → AreContents (equilibrium_in f)
equilibrium-contents f =
    then-contents (refused_by problem_refusal (problem_in f)) (λ p. refused_by pivot_refusal (solved_in p) >>= λ s. only (plans_at s))
    (told-contents problem_refusal (problem_in f) (problem-contents f))
    (λ p. then-contents (refused_by pivot_refusal (solved_in p)) (λ s. only (plans_at s)) (told-contents pivot_refusal (solved_in p) (λ stop h. path_unfit p.tableau (size_of p) h.row stop h.path)) (λ s. only-contents (plans_at s)))

pub lcp-contents : (strategic : Bool) (game : Game) (r : Refusal) → lcp strategic game (Err r) → IsOfContents r
lcp-contents strategic game =
    let line = λ (plans : PlanPair). plans_line strategic game plans.one plans.two in
    then-contents (two_players game) (λ _. form_in problem_rows strategic game >>= λ f. (equilibrium_in f >>= line)) (two_players-contents game)
    (λ _. then-contents (form_in problem_rows strategic game) (λ f. equilibrium_in f >>= line) (form_in-contents problem_rows strategic game)
    (λ f. then-contents (equilibrium_in f) line (equilibrium-contents f) (λ plans. plans_line-contents strategic game plans.one plans.two)))
