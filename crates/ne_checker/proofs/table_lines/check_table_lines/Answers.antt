use Rattle.std.proofs.Common.{sym, subst, Ok}
use Rattle.ne_checker.specs.LineChecks.{table_line}
use Rattle.ne_checker.proofs.LineStepLemmas.{at_end, at_next, at_stop}
use Rattle.ne_checker.proofs.table_lines.check_table_lines.Goals as goal

pub returns-in_err-verdict : goal.returns-in_err-verdict
returns-in_err-verdict c =
    at_stop (table_line c.args.table.now) c.args.text.now c.loop-line.number c.loop-line.rest.now c.loop-line.verdicts.items c.in-Some.line.now c.in-Some.following.now c.in_err-verdict.field-0.0 c.from_residual.result (λ text. text.items) c.loop-line.invariant c.in-Some.ensures.lines c.in_err-verdict.ensures c.from_residual.ensures.1

pub loop-line-preserved : goal.loop-line-preserved
loop-line-preserved c =
    let judge = table_line c.args.table.now in
    let verdict : judge c.loop-line.number c.in-Some.line.now (Ok c.deref.result.now) = subst (λ text. judge c.loop-line.number c.in-Some.line.now (Ok text)) (sym c.deref.ensures.value) c.in_ok-verdict.ensures in
    at_next judge c.args.text.now c.loop-line.number c.loop-line.rest.now c.loop-line.verdicts.items c.in-Some.line.now c.in-Some.following.now c.deref.result.now c.keep.new.text.items c.loop-line.invariant c.in-Some.ensures.lines c.in-Some.ensures.shorter verdict (c.in_ok-keep.ensures {u = tt})

pub returns : goal.returns
returns c =
    at_end (table_line c.args.table.now) c.args.text.now c.loop-line.number c.loop-line.rest.now c.loop-line.verdicts.items c.within_limit.result (λ text. text.items) c.loop-line.invariant c.in_default.ensures.lines c.within_limit.ensures
