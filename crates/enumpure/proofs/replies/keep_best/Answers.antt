use Rattle.std.proofs.Common.{◌+◌, sym, subst, arith}
use Rattle.rational.specs.Rational.{◌<ℚ◌}
use Rattle.enumpure.specs.Replies.{KeepsBestInLine, column_pays}
use Rattle.enumpure.proofs.BestPayoffLemmas.{KeepsBestInLine-none, KeepsBestInLine-keep, KeepsBestInLine-clear}
use Rattle.enumpure.proofs.replies.keep_best.Goals as goal
use Rattle.enumpure.proofs.replies.keep_best.Goals.{then-is_less, else-is_less}

pub loop-strategy-init : goal.loop-strategy-init
loop-strategy-init c = KeepsBestInLine-none (column_pays c.args.column) c.args.first c.args.stride c.args.best c.args.all_best.now

pub loop-strategy-preserved : goal.loop-strategy-preserved
loop-strategy-preserved c =
    let p = column_pays c.args.column in
    let n = c.loop-strategy.strategy in
    let old = c.args.all_best.now in
    let mid = c.loop-strategy.all_best in
    let best = c.args.best in
    elim c.if-is_less.branch [
      | then-is_less w ↦ subst (λ v. KeepsBestInLine p c.args.first c.args.stride (n + 1) best old v) (sym w.all_best-is) (KeepsBestInLine-clear p c.args.first c.args.stride n best old mid c.requires.stride (omega (arith, c.requires.numbers n (omega arith))) (subst (λ v. v <ℚ best) c.pays.ensures (c.is_less.ensures.0 w.if-is_less.true)) c.loop-strategy.invariant)
      | else-is_less w ↦ subst (λ v. KeepsBestInLine p c.args.first c.args.stride (n + 1) best old v) (sym w.all_best-is) (KeepsBestInLine-keep p c.args.first c.args.stride n best old mid c.requires.stride (λ l. cc (w.if-is_less.false, c.is_less.ensures.1 (subst (λ v. v <ℚ best) (sym c.pays.ensures) l))) c.loop-strategy.invariant)
    ]

pub returns : goal.returns
returns c =
    record {
      in_line = subst (λ n. KeepsBestInLine (column_pays c.args.column) c.args.first c.args.stride n c.args.best c.args.all_best.now c.loop-strategy.all_best) (omega arith) c.loop-strategy.invariant;
    }
