use Rattle.std.proofs.Common.{◌∙◌, ap, length, subst₂}
use Rattle.answers.specs.Answers.{Gives}
use Rattle.refusals.specs.declared.refusal.Refusal.TheVariants as refusal
use Rattle.two_player_tools.specs.declared.forms.Method.TheVariants.{Complementarity}
use Rattle.two_player_tools.proofs.TreeEntryLemmas.{entries_of, entries-of_plans, entries-stop}
use Rattle.two_player_tools.proofs.perfect.pivot_behaviour.Goals as goal

pub returns-in_err-plans-clause-answer : goal.returns-in_err-plans-clause-answer
returns-in_err-plans-clause-answer c =
    entries-stop Complementarity c.args.tree.now c.args.form.now c.from_residual.result c.requires c.in_err-plans.field-0.0 c.in_err-plans.ensures.answer c.from_residual.ensures.1

pub plan_behaviour-requires : goal.plan_behaviour-requires
plan_behaviour-requires c = record {
  form = c.requires.2.2;
  one = ap length c.one.ensures ∙ c.in_ok-plans.ensures.one;
  two = ap length c.two.ensures ∙ c.in_ok-plans.ensures.two;
}

pub returns-clause-answer : goal.returns-clause-answer
returns-clause-answer c =
    let t = c.args.tree.now in
    let f = c.args.form.now in
    let r = c.plan_behaviour.result in
    entries-of_plans Complementarity t f r c.requires c.in_ok-plans.plans c.in_ok-plans.ensures.answer
    (subst₂ (λ one two. Gives refusal.Memory (entries_of t (record { one = one; two = two })) r) c.one.ensures c.two.ensures c.plan_behaviour.ensures.answer)
