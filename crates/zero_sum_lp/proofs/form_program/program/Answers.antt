use Rattle.std.proofs.Common.{◌<◌, Ok, Err, List, subst, subst₂}
use Rattle.std.proofs.lemmas.Result.{err_from_is_err_and}
use Rattle.answers.specs.Answers.{Gives}
use Rattle.rational.specs.Rational.{ℚ}
use Rattle.game_core.specs.Limits.{most_rows, within}
use Rattle.game_core.specs.declared.too_large.What.TheVariants as what
use Rattle.sequence_data.specs.declared.types.Leaf.{Leaf}
use Rattle.sequence_data.specs.declared.types.Cell.{Cell}
use Rattle.zero_sum_lp.specs.declared.stop.LpStop.TheVariants as stops
use Rattle.zero_sum_lp.specs.FormPrograms.{gains_in, is_constant, sums_in}
use Rattle.zero_sum_lp.proofs.FormProgramLemmas.{size_stop, sums_stop, apart_stop, gains_stop, start_gives}
use Rattle.zero_sum_lp.proofs.form_program.program.Goals as goal

pub returns-in_err-within : goal.returns-in_err-within
returns-in_err-within c =
    let stop = subst (λ n. within what.Rows most_rows n (Err c.in_err-within.field-0.0)) c.size.ensures c.in_err-within.ensures in
    let p = err_from_is_err_and c.from_residual.result c.from_residual.ensures.1 in
    rw (p.1, p.2) (size_stop c.args.form.now c.in_err-within.field-0.0 stop)

pub returns-in_err-sums : goal.returns-in_err-sums
returns-in_err-sums c =
    let few = subst (λ n. ¬ (most_rows < n)) c.size.ensures c.in_ok-within.ensures in
    let stage = subst (λ (xs : List Leaf). Gives stops.Memory (sums_in xs) (Err c.in_err-sums.field-0.0)) c.leaves.ensures.leaves c.in_err-sums.ensures.stage in
    let p = err_from_is_err_and c.from_residual-in_err-sums.result c.from_residual-in_err-sums.ensures.1 in
    rw (p.1, p.2) (sums_stop c.args.form.now few c.in_err-sums.field-0.0 stage)

pub returns-in_err-test_constant : goal.returns-in_err-test_constant
returns-in_err-test_constant c =
    let few = subst (λ n. ¬ (most_rows < n)) c.size.ensures c.in_ok-within.ensures in
    let sums = subst (λ (xs : List Leaf). sums_in xs (Ok tt)) c.leaves.ensures.leaves c.in_ok-sums.ensures.stage in
    let apart = subst (λ (xs : List Leaf). is_constant xs (Err c.in_err-test_constant.field-0.0)) c.leaves-2.ensures.leaves c.in_err-test_constant.ensures in
    let p = err_from_is_err_and c.from_residual-in_err-test_constant.result c.from_residual-in_err-test_constant.ensures.1 in
    rw (p.1, p.2) (apart_stop c.args.form.now few sums c.in_err-test_constant.field-0.0 apart)

pub returns-in_err-gains : goal.returns-in_err-gains
returns-in_err-gains c =
    let few = subst (λ n. ¬ (most_rows < n)) c.size.ensures c.in_ok-within.ensures in
    let sums = subst (λ (xs : List Leaf). sums_in xs (Ok tt)) c.leaves.ensures.leaves c.in_ok-sums.ensures.stage in
    let constant = subst (λ (xs : List Leaf). is_constant xs (Ok tt)) c.leaves-2.ensures.leaves c.in_ok-test_constant.ensures in
    let stage = subst₂ (λ (v : ℚ) (xs : List Cell). Gives stops.Memory (gains_in v xs) (Err c.in_err-gains.field-0.0)) c.least_one.ensures c.cells.ensures.cells c.in_err-gains.ensures.stage in
    let p = err_from_is_err_and c.from_residual-in_err-gains.result c.from_residual-in_err-gains.ensures.1 in
    rw (p.1, p.2) (gains_stop c.args.form.now few sums constant c.in_err-gains.field-0.0 stage)

pub returns : goal.returns
returns c =
    let few = subst (λ n. ¬ (most_rows < n)) c.size.ensures c.in_ok-within.ensures in
    let sums = subst (λ (xs : List Leaf). sums_in xs (Ok tt)) c.leaves.ensures.leaves c.in_ok-sums.ensures.stage in
    let constant = subst (λ (xs : List Leaf). is_constant xs (Ok tt)) c.leaves-2.ensures.leaves c.in_ok-test_constant.ensures in
    let stage = subst₂ (λ (v : ℚ) (xs : List Cell). gains_in v xs (Ok tt)) c.least_one.ensures c.cells.ensures.cells c.in_ok-gains.ensures.stage in
    start_gives c.args.form.now few sums constant c.started.result stage c.started.ensures
