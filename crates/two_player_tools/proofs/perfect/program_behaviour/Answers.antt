use Rattle.std.proofs.Common.{◌∙◌, ap, length, refl, subst₂}
use Rattle.answers.specs.Answers.{Gives, only}
use Rattle.answers.proofs.AnswerLemmas.{gives_first}
use Rattle.sequence_data.specs.PlanPairs.{PlanPair}
use Rattle.refusals.specs.declared.refusal.Refusal.TheVariants as refusal
use Rattle.two_player_tools.specs.Lp.{Solution, solution_in}
use Rattle.two_player_tools.specs.Solved.{solution_of}
use Rattle.two_player_tools.specs.declared.forms.Method.TheVariants.{LinearProgram}
use Rattle.two_player_tools.proofs.TreeEntryLemmas.{entries_of, entries-of_plans, entries-stop}
use Rattle.two_player_tools.proofs.perfect.program_behaviour.Goals as goal

-- the plans of a solution
abbrev pair_in : Solution → PlanPair
pair_in s = record { one = s.one; two = s.two }

pub returns-in_err-solved-clause-answer : goal.returns-in_err-solved-clause-answer
returns-in_err-solved-clause-answer c =
    let f = c.args.form.now in
    let stop = c.in_err-solved.field-0.0 in
    entries-stop LinearProgram c.args.tree.now f c.from_residual.result c.requires stop
    (gives_first refusal.Memory (solution_in f) (λ s. only (pair_in s)) stop c.in_err-solved.ensures.answer) c.from_residual.ensures.1

pub plan_behaviour-requires : goal.plan_behaviour-requires
plan_behaviour-requires c = record {
  form = c.requires.2.2;
  one = ap length c.one.ensures ∙ c.in_ok-solved.ensures.sizes.one;
  two = ap length c.two.ensures ∙ c.in_ok-solved.ensures.sizes.two;
}

pub returns-clause-answer : goal.returns-clause-answer
returns-clause-answer c =
    let t = c.args.tree.now in
    let f = c.args.form.now in
    let s = solution_of f c.in_ok-solved.solved in
    let r = c.plan_behaviour.result in
    entries-of_plans LinearProgram t f r c.requires (pair_in s) (s, c.in_ok-solved.ensures.answer, refl)
    (subst₂ (λ one two. Gives refusal.Memory (entries_of t (record { one = one; two = two })) r) c.one.ensures c.two.ensures c.plan_behaviour.ensures.answer)
