use Rattle.std.proofs.Common.{sym, subst, Ok}
use Rattle.ne_checker.specs.LineChecks.{tree_line}
use Rattle.ne_checker.proofs.LineStepLemmas.{at_end, at_next, at_stop}
use Rattle.ne_checker.proofs.tree_lines.check_tree_lines.Goals as goal

pub returns-in_err-verdict : goal.returns-in_err-verdict
returns-in_err-verdict c =
    at_stop (tree_line c.args.tree.now) c.args.text.now c.loop-line.number c.loop-line.rest.now c.loop-line.verdicts.items c.in-Some.line.now c.in-Some.following.now c.in_err-verdict.field-0.0 c.from_residual-in_err-verdict.result (λ text. text.items) c.loop-line.invariant.on_way c.in-Some.ensures.lines c.in_err-verdict.ensures.text c.from_residual-in_err-verdict.ensures.1

pub loop-line-preserved : goal.loop-line-preserved
loop-line-preserved c =
    let judge = tree_line c.args.tree.now in
    let verdict : judge c.loop-line.number c.in-Some.line.now (Ok c.deref.result.now) = subst (λ text. judge c.loop-line.number c.in-Some.line.now (Ok text)) (sym c.deref.ensures.value) c.in_ok-verdict.ensures.text in
    record {
      scratch = c.in_ok-verdict.ensures.scratch;
      on_way = at_next judge c.args.text.now c.loop-line.number c.loop-line.rest.now c.loop-line.verdicts.items c.in-Some.line.now c.in-Some.following.now c.deref.result.now c.keep.new.text.items c.loop-line.invariant.on_way c.in-Some.ensures.lines c.in-Some.ensures.shorter verdict (c.in_ok-keep.ensures {u = tt});
    }

pub returns : goal.returns
returns c =
    at_end (tree_line c.args.tree.now) c.args.text.now c.loop-line.number c.loop-line.rest.now c.loop-line.verdicts.items c.within_limit.result (λ text. text.items) c.loop-line.invariant.on_way c.in_default.ensures.lines c.within_limit.ensures
