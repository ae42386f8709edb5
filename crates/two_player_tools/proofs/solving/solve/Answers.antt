use Rattle.std.proofs.Common.{ap, inr, length, refl}
use Rattle.answers.specs.Answers.{◌>>=◌, only, refused_by}
use Rattle.answers.proofs.AnswerLemmas.{gives_bind_as, gives_exit, gives_told_exit}
use Rattle.zero_sum_lp.specs.Ends.{optimum_in}
use Rattle.zero_sum_lp.specs.FormPrograms.{program_in}
use Rattle.zero_sum_lp.specs.PlanStops.{plans_of}
use Rattle.zero_sum_lp.specs.declared.stop.LpStop.TheVariants as lp_stop
use Rattle.zero_sum_lp.specs.declared.stop.PlanStop.TheVariants as plan_stop
use Rattle.two_player_tools.specs.Lp.{solution}
use Rattle.two_player_tools.specs.Solved.{solution_of}
use Rattle.refusals.specs.Told.{pivot_refusal, plan_refusal, program_refusal}
use Rattle.refusals.specs.declared.refusal.Refusal.TheVariants as refusal
use Rattle.two_player_tools.proofs.KeptPropertyLemmas.{IsSolving, few-first, few-second, first-same, one-long, second-same, two-long}
use Rattle.two_player_tools.proofs.solving.solve.Goals as goal

pub returns-in_err-optimum-clause-answer : goal.returns-in_err-optimum-clause-answer
returns-in_err-optimum-clause-answer c =
    let f = c.args.form.now in
    let p = c.in_ok-lp.lp in
    let r = c.from_residual-in_err-optimum.result in
    let stop = c.in_err-optimum.field-0.0 in
    gives_bind_as refusal.Memory (refused_by program_refusal (program_in f)) (λ p. refused_by pivot_refusal (optimum_in p) >>= λ o. (refused_by plan_refusal (plans_of o) >>= λ plans. only (solution f o plans))) p r (solution_of f) c.in_ok-lp.ensures
    (gives_exit refusal.Memory (refused_by pivot_refusal (optimum_in p)) (λ o. refused_by plan_refusal (plans_of o) >>= λ plans. only (solution f o plans)) (pivot_refusal stop) r (solution_of f) (inr (stop, c.in_err-optimum.ensures, refl)) c.from_residual-in_err-optimum.ensures.1)

pub returns-in_err-plans-clause-answer : goal.returns-in_err-plans-clause-answer
returns-in_err-plans-clause-answer c =
    let f = c.args.form.now in
    let p = c.in_ok-lp.lp in
    let o = c.in_ok-optimum.optimum in
    let r = c.from_residual-in_err-plans.result in
    gives_bind_as refusal.Memory (refused_by program_refusal (program_in f)) (λ p. refused_by pivot_refusal (optimum_in p) >>= λ o. (refused_by plan_refusal (plans_of o) >>= λ plans. only (solution f o plans))) p r (solution_of f) c.in_ok-lp.ensures
    (gives_bind_as refusal.Memory (refused_by pivot_refusal (optimum_in p)) (λ o. refused_by plan_refusal (plans_of o) >>= λ plans. only (solution f o plans)) o r (solution_of f) c.in_ok-optimum.ensures
    (gives_told_exit plan_stop.Memory plan_refusal (plans_of o) (λ plans. only (solution f o plans)) c.in_err-plans.field-0.0 r (solution_of f) c.in_err-plans.ensures c.from_residual-in_err-plans.ensures.1))

pub returns-in_err-lp-clause-answer : goal.returns-in_err-lp-clause-answer
returns-in_err-lp-clause-answer c =
    let f = c.args.form.now in
    gives_told_exit lp_stop.Memory program_refusal (program_in f) (λ p. refused_by pivot_refusal (optimum_in p) >>= λ o. (refused_by plan_refusal (plans_of o) >>= λ plans. only (solution f o plans))) c.in_err-lp.field-0.0 c.from_residual.result (solution_of f) c.in_err-lp.ensures c.from_residual.ensures.1

pub returns-clause-answer : goal.returns-clause-answer
returns-clause-answer c = (c.in_ok-lp.lp, c.in_ok-lp.ensures, (c.in_ok-optimum.optimum, c.in_ok-optimum.ensures, (c.in_ok-plans.plans, c.in_ok-plans.ensures, refl)))

pub returns-clause-sizes : goal.returns-clause-sizes
returns-clause-sizes c =
    let f = c.args.form.now in
    let p = c.in_ok-lp.lp in
    let o = c.in_ok-optimum.optimum in
    let plans = c.in_ok-plans.plans in
    let h : IsSolving f p o plans = record {
      valid = c.first-side.ensures.valid;
      program = c.in_ok-lp.ensures;
      optimum = c.in_ok-optimum.ensures;
      planned = c.in_ok-plans.ensures;
    } in
    record {
      first_sets = ap (λ s. length s.sets) (first-same f p o plans h);
      second_sets = ap (λ s. length s.sets) (second-same f p o plans h);
      few_first = few-first f p o plans h;
      few_second = few-second f p o plans h;
      one = one-long f p o plans h;
      two = two-long f p o plans h;
    }
