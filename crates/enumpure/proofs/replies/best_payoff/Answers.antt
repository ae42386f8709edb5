use Rattle.std.proofs.Common.{◌+◌, sym, subst, arith}
use Rattle.enumpure.specs.Replies.{IsGreatestInLine, column_pays}
use Rattle.enumpure.proofs.BestPayoffLemmas.{IsGreatestInLine-one, IsGreatestInLine-greater, IsGreatestInLine-same}
use Rattle.enumpure.proofs.replies.best_payoff.Goals as goal
use Rattle.enumpure.proofs.replies.best_payoff.Goals.{then-is_less, else-is_less}

pub loop-strategy-init : goal.loop-strategy-init
loop-strategy-init c =
    let p = column_pays c.args.column in
    subst (λ v. IsGreatestInLine p c.args.first c.args.stride 1 v) (sym c.pays-best.ensures) (IsGreatestInLine-one p c.args.first c.args.stride)

pub loop-strategy-preserved : goal.loop-strategy-preserved
loop-strategy-preserved c =
    let p = column_pays c.args.column in
    let n = c.loop-strategy.strategy in
    let best = c.loop-strategy.best in
    let other = c.pays-other.result in
    elim c.if-is_less.branch [
      | then-is_less w ↦ subst (λ v. IsGreatestInLine p c.args.first c.args.stride (n + 1) v) (sym w.best-is) (IsGreatestInLine-greater p c.args.first c.args.stride n best other c.loop-strategy.invariant c.pays-other.ensures (c.is_less.ensures.0 w.if-is_less.true))
      | else-is_less w ↦ subst (λ v. IsGreatestInLine p c.args.first c.args.stride (n + 1) v) (sym w.best-is) (IsGreatestInLine-same p c.args.first c.args.stride n best other c.loop-strategy.invariant c.pays-other.ensures (λ l. cc (w.if-is_less.false, c.is_less.ensures.1 l)))
    ]

pub returns : goal.returns
returns c =
    subst (λ n. IsGreatestInLine (column_pays c.args.column) c.args.first c.args.stride n c.loop-strategy.best) (omega arith) c.loop-strategy.invariant
