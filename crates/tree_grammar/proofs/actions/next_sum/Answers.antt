use Rattle.std.proofs.Common.{sym, ◌∙◌, arith}
use Rattle.std.proofs.lemmas.Int.{ints}
use Rattle.tree_grammar.proofs.ProbabilityLemmas.{sum_so, sum_negative, sum_above, sum_outside}
use Rattle.tree_grammar.proofs.actions.next_sum.Goals as goal
use Rattle.tree_grammar.proofs.actions.next_sum.Goals.{then-signum-lt0-via-then-signum-lt0, then-signum-lt0-via-else-signum-lt0+then-eq}

pub returns-in-Err : goal.returns-in-Err
returns-in-Err c = sum_outside c.args.set c.args.sum c.args.prob c.in-Err.unfit c.in-Err.ensures.unfit c.in-Err.ensures.step

pub returns-then-signum-lt0 : goal.returns-then-signum-lt0
returns-then-signum-lt0 c = elim c.then-signum-lt0.branch [
  | then-signum-lt0-via-then-signum-lt0 w ↦ sum_negative c.args.set c.args.sum c.args.prob c.in-Ok.next c.signum.result c.in-Ok.ensures.value c.in-Ok.ensures.fits c.signum.ensures (omega (arith, ints))
  | then-signum-lt0-via-else-signum-lt0+then-eq w ↦ sum_above c.args.set c.args.sum c.args.prob c.in-Ok.next w.one.result w.cmp.result c.in-Ok.ensures.value c.in-Ok.ensures.fits w.one.ensures w.cmp.ensures (sym w.eq.ensures ∙ w.if-eq.true)
]

pub returns : goal.returns
returns c =
    sum_so c.args.set c.args.sum c.args.prob c.in-Ok.next c.one.result c.signum.result c.cmp.result c.in-Ok.ensures.value c.in-Ok.ensures.fits c.signum.ensures (omega (arith, ints)) c.one.ensures c.cmp.ensures (sym c.eq.ensures ∙ c.if-eq.false)
