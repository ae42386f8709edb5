use Rattle.std.proofs.Common.{◌∙◌, Ok, Err, ap, inr, length, refl}
use Rattle.answers.specs.Answers.{◌>>=◌, only, refused_by}
use Rattle.answers.proofs.AnswerLemmas.{gives_bind, gives_first, gives_stop, gives_told_exit}
use Rattle.lemke_pivot.specs.Ends.{solved_in}
use Rattle.lemke_pivot.specs.FormProblems.{problem_in}
use Rattle.lemke_pivot.specs.Parts.{plans_at}
use Rattle.lemke_pivot.specs.declared.stop.LcpStop.TheVariants as lcp_stop
use Rattle.refusals.specs.Told.{pivot_refusal, problem_refusal}
use Rattle.refusals.specs.declared.refusal.Refusal.TheVariants as refusal
use Rattle.sequence_data.specs.PlanPairs.{PlanPair}
use Rattle.two_player_tools.specs.Lcp.{equilibrium_in}
use Rattle.two_player_tools.proofs.LcpTextLemmas.{IsPivoting, weighted}
use Rattle.two_player_tools.proofs.pivoting.equilibrium_in.Goals as goal

pub returns-in_err-lcp-clause-answer : goal.returns-in_err-lcp-clause-answer
returns-in_err-lcp-clause-answer c =
    let stop = c.in_err-lcp.field-0.0 in
    gives_stop refusal.Memory (equilibrium_in c.args.form.now) (problem_refusal stop) c.from_residual.result
    (gives_told_exit lcp_stop.Memory problem_refusal (problem_in c.args.form.now) (λ p. refused_by pivot_refusal (solved_in p) >>= λ s. only (plans_at s)) stop (Err (problem_refusal stop)) (λ (v : PlanPair). v) c.in_err-lcp.ensures refl)
    c.from_residual.ensures.1

pub returns-in_err-solution-clause-answer : goal.returns-in_err-solution-clause-answer
returns-in_err-solution-clause-answer c =
    let f = c.args.form.now in
    let p = c.in_ok-lcp.lcp in
    let r = c.from_residual-in_err-solution.result in
    let stop = c.in_err-solution.field-0.0 in
    gives_bind refusal.Memory (refused_by problem_refusal (problem_in f)) (λ p. refused_by pivot_refusal (solved_in p) >>= λ s. only (plans_at s)) p r c.in_ok-lcp.ensures
    (gives_stop refusal.Memory (refused_by pivot_refusal (solved_in p) >>= λ s. only (plans_at s)) (pivot_refusal stop) r
    (gives_first refusal.Memory (refused_by pivot_refusal (solved_in p)) (λ s. only (plans_at s)) (pivot_refusal stop) (inr (stop, c.in_err-solution.ensures, refl)))
    c.from_residual-in_err-solution.ensures.1)

pub returns-clause-answer : goal.returns-clause-answer
returns-clause-answer c = (c.in_ok-lcp.lcp, c.in_ok-lcp.ensures, (c.in_ok-solution.solution, c.in_ok-solution.ensures, ap Ok c.in_ok-plans.ensures))

pub returns-clause-one : goal.returns-clause-one
returns-clause-one c =
    let h : IsPivoting c.args.form.now c.in_ok-lcp.lcp c.in_ok-solution.solution = record { valid = c.first-side.ensures.valid; problem = c.in_ok-lcp.ensures; solution = c.in_ok-solution.ensures } in
    ap (λ (v : PlanPair). length v.one) c.in_ok-plans.ensures ∙ (weighted c.args.form.now c.in_ok-lcp.lcp c.in_ok-solution.solution h).one_has_all

pub returns-clause-two : goal.returns-clause-two
returns-clause-two c =
    let h : IsPivoting c.args.form.now c.in_ok-lcp.lcp c.in_ok-solution.solution = record { valid = c.first-side.ensures.valid; problem = c.in_ok-lcp.ensures; solution = c.in_ok-solution.ensures } in
    ap (λ (v : PlanPair). length v.two) c.in_ok-plans.ensures ∙ (weighted c.args.form.now c.in_ok-lcp.lcp c.in_ok-solution.solution h).two_has_all
