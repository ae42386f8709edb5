use Rattle.sequence_data.specs.Sizes.{form_sizes, problem_rows}
use Rattle.std.proofs.Common.{◌<◌, ◌≡◌, ◌∙◌, Ok, Err, List, ap₂, subst, subst₂}
use Rattle.std.proofs.lemmas.Result.{err_from_is_err_and}
use Rattle.answers.specs.Answers.{Gives}
use Rattle.rational.specs.Rational.{ℚ}
use Rattle.game_core.specs.Limits.{most_rows, within}
use Rattle.game_core.specs.declared.too_large.What.TheVariants as what
use Rattle.sequence_data.specs.declared.types.Cell.{Cell}
use Rattle.lemke_pivot.specs.declared.stop.LcpStop.TheVariants as stops
use Rattle.lemke_pivot.specs.FormProblems.{costs_in}
use Rattle.lemke_pivot.specs.Parts.{size_for}
use Rattle.lemke_pivot.proofs.FormProblemLemmas.{size_stop, costs_stop, start_gives}
use Rattle.lemke_pivot.proofs.form_problem.problem.Goals as goal

pub returns-in_err-within : goal.returns-in_err-within
returns-in_err-within c =
    let e : c.row_count-count.result ≡ problem_rows (form_sizes c.args.form.now) = c.row_count-count.ensures ∙ ap₂ size_for c.first.ensures.side c.second.ensures.side in
    let stop = subst (λ n. within what.Rows most_rows n (Err c.in_err-within.field-0.0)) e c.in_err-within.ensures in
    let p = err_from_is_err_and c.from_residual.result c.from_residual.ensures.1 in
    rw (p.1, p.2) (size_stop c.args.form.now c.in_err-within.field-0.0 stop)

pub returns-in_err-costs : goal.returns-in_err-costs
returns-in_err-costs c =
    let e : c.row_count-count.result ≡ problem_rows (form_sizes c.args.form.now) = c.row_count-count.ensures ∙ ap₂ size_for c.first.ensures.side c.second.ensures.side in
    let few = subst (λ n. ¬ (most_rows < n)) e c.in_ok-within.ensures in
    let stage = subst (λ (xs : List Cell). Gives stops.Memory (costs_in c.args.form.now.greatest_one c.args.form.now.greatest_two xs) (Err c.in_err-costs.field-0.0)) c.cells.ensures.cells
    (subst₂ (λ (v w : ℚ). Gives stops.Memory (costs_in v w c.cells.result.now) (Err c.in_err-costs.field-0.0)) c.greatest_one.ensures c.greatest_two.ensures c.in_err-costs.ensures.stage) in
    let p = err_from_is_err_and c.from_residual-in_err-costs.result c.from_residual-in_err-costs.ensures.1 in
    rw (p.1, p.2) (costs_stop c.args.form.now few c.in_err-costs.field-0.0 stage)

pub returns : goal.returns
returns c =
    let e : c.row_count-count.result ≡ problem_rows (form_sizes c.args.form.now) = c.row_count-count.ensures ∙ ap₂ size_for c.first.ensures.side c.second.ensures.side in
    let few = subst (λ n. ¬ (most_rows < n)) e c.in_ok-within.ensures in
    let stage = subst (λ (xs : List Cell). costs_in c.args.form.now.greatest_one c.args.form.now.greatest_two xs (Ok tt)) c.cells.ensures.cells
    (subst₂ (λ (v w : ℚ). costs_in v w c.cells.result.now (Ok tt)) c.greatest_one.ensures c.greatest_two.ensures c.in_ok-costs.ensures.stage) in
    start_gives c.args.form.now few c.started.result stage c.started.ensures
