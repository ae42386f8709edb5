use Rattle.std.proofs.Common.{◌∙◌, ap, length, subst₂}
use Rattle.answers.specs.Answers.{Gives, map_ok, ◌>>=◌}
use Rattle.answers.proofs.AnswerLemmas.{gives_bind_as, gives_exit}
use Rattle.sequence_data.specs.Sizes.{problem_rows}
use Rattle.sequence_data.specs.PlanPairs.{PlanPair}
use Rattle.two_player_tools.specs.Entries.{plans_line}
use Rattle.two_player_tools.specs.Lcp.{equilibrium_in}
use Rattle.two_player_tools.specs.TwoPlayers.{form_in, two_players}
use Rattle.refusals.specs.declared.refusal.Refusal.TheVariants as refusal
use Rattle.two_player_tools.proofs.lcp.form_text.Goals as goal

pub returns-in_err-plans : goal.returns-in_err-plans
returns-in_err-plans c =
    let strategic = c.args.strategic in
    let game = c.args.game.now in
    let f = c.args.form.now in
    let r = c.from_residual.result in
    let line = λ (plans : PlanPair). plans_line strategic game plans.one plans.two in
    gives_bind_as refusal.Memory (two_players game) (λ _. form_in problem_rows strategic game >>= λ f. (equilibrium_in f >>= line)) tt r (λ text. text.items) (λ other. other c.requires.two)
    (gives_bind_as refusal.Memory (form_in problem_rows strategic game) (λ f. equilibrium_in f >>= line) f r (λ text. text.items) c.requires.form
    (gives_exit refusal.Memory (equilibrium_in f) line c.in_err-plans.field-0.0 r (λ text. text.items) c.in_err-plans.ensures.answer c.from_residual.ensures.1))

pub plans_line-requires : goal.plans_line-requires
plans_line-requires c = record {
  form = (problem_rows, c.requires.form);
  one = ap length c.one.ensures ∙ c.in_ok-plans.ensures.one;
  two = ap length c.two.ensures ∙ c.in_ok-plans.ensures.two;
}

pub returns : goal.returns
returns c =
    let strategic = c.args.strategic in
    let game = c.args.game.now in
    let f = c.args.form.now in
    let r = c.plans_line.result in
    let line = λ (plans : PlanPair). plans_line strategic game plans.one plans.two in
    gives_bind_as refusal.Memory (two_players game) (λ _. form_in problem_rows strategic game >>= λ f. (equilibrium_in f >>= line)) tt r (λ text. text.items) (λ other. other c.requires.two)
    (gives_bind_as refusal.Memory (form_in problem_rows strategic game) (λ f. equilibrium_in f >>= line) f r (λ text. text.items) c.requires.form
    (gives_bind_as refusal.Memory (equilibrium_in f) line c.in_ok-plans.plans r (λ text. text.items) c.in_ok-plans.ensures.answer
    (subst₂ (λ a b. Gives refusal.Memory (plans_line strategic game a b) (map_ok r (λ text. text.items))) c.one.ensures c.two.ensures c.plans_line.ensures)))
