use Rattle.std.proofs.Common.{◌+◌, ◌<◌, length, get_or, sym, ◌∙◌, subst, arith}
use Rattle.enumpure.specs.Replies.{IsGreatestInLine, KeepsBestInLine, column_pays}
use Rattle.enumpure.proofs.ColumnLemmas.{KeepsBestReplies-column, are_apart, column_game, line-below, played_strategy, some_strategy}
use Rattle.enumpure.proofs.KeptReplyLemmas.{KeepsBestBelow, KeepsBestBelow-none, KeepsBestBelow-skip, KeepsBestBelow-step, KeepsBestReplies-all}
use Rattle.enumpure.proofs.replies.keep_best_replies.Goals as goal
use Rattle.enumpure.proofs.replies.keep_best_replies.Goals.{then-first-stride-eq0, else-first-stride-eq0}

pub loop-first-init : goal.loop-first-init
loop-first-init c g i h = KeepsBestBelow-none (column_game c.args.column g) i c.args.all_best.now

pub nonzero_div-first : goal.nonzero_div-first
nonzero_div-first c = omega (arith, are_apart _ _ _ _ _ _ c.requires.2 c.loop-first.first (omega arith))

pub nonzero_rem-first : goal.nonzero_rem-first
nonzero_rem-first c = omega (arith, some_strategy _ _ _ _ _ _ c.requires.2 c.loop-first.first (omega arith))

pub best_payoff-best-requires-clause-some : goal.best_payoff-best-requires-clause-some
best_payoff-best-requires-clause-some c = some_strategy _ _ _ _ _ _ c.requires.2 c.loop-first.first (omega arith)

pub best_payoff-best-requires-clause-numbers : goal.best_payoff-best-requires-clause-numbers
best_payoff-best-requires-clause-numbers c s l =
    omega (arith, line-below _ _ _ _ _ _ c.requires.2 c.loop-first.first s (omega arith) c.if-first-stride-eq0.true l)

pub best_payoff-best-requires-clause-profiles : goal.best_payoff-best-requires-clause-profiles
best_payoff-best-requires-clause-profiles c s l =
    c.requires.2.long_enough _ (line-below _ _ _ _ _ _ c.requires.2 c.loop-first.first s (omega arith) c.if-first-stride-eq0.true l)

pub keep_best-requires-clause-stride : goal.keep_best-requires-clause-stride
keep_best-requires-clause-stride c = are_apart _ _ _ _ _ _ c.requires.2 c.loop-first.first (omega arith)

pub keep_best-requires-clause-numbers : goal.keep_best-requires-clause-numbers
keep_best-requires-clause-numbers c s l =
    omega (arith, line-below _ _ _ _ _ _ c.requires.2 c.loop-first.first s (omega arith) c.if-first-stride-eq0.true l)

pub keep_best-requires-clause-profiles : goal.keep_best-requires-clause-profiles
keep_best-requires-clause-profiles c s l =
    c.requires.2.long_enough _ (line-below _ _ _ _ _ _ c.requires.2 c.loop-first.first s (omega arith) c.if-first-stride-eq0.true l)

pub loop-first-preserved : goal.loop-first-preserved
loop-first-preserved c g i h =
    let game = column_game c.args.column g in
    let k = c.loop-first.first in
    let old = c.args.all_best.now in
    let mid = c.loop-first.all_best in
    let number : k < length old = omega arith in
    let some : 0 < get_or g.strategies i 0 = omega (arith, some_strategy g i c.args.column (length old) c.args.stride c.args.strategies h k number, h.strategies_is) in
    let played = played_strategy g i c.args.column (length old) c.args.stride c.args.strategies h k in
    elim c.if-first-stride-eq0.branch [
      | then-first-stride-eq0 w ↦ subst (λ v. KeepsBestBelow game i old v (k + 1)) (sym w.all_best-is) (KeepsBestBelow-step game i old mid w.keep_best.new.all_best k w.best_payoff-best.result (omega (arith, number, h.of_each)) h.player some (played ∙ w.if-first-stride-eq0.true) (subst (λ d. IsGreatestInLine (column_pays c.args.column) k d (get_or g.strategies i 0) w.best_payoff-best.result) h.apart_is (subst (λ n. IsGreatestInLine (column_pays c.args.column) k c.args.stride n w.best_payoff-best.result) h.strategies_is w.best_payoff-best.ensures)) (subst (λ d. KeepsBestInLine (column_pays c.args.column) k d (get_or g.strategies i 0) w.best_payoff-best.result mid w.keep_best.new.all_best) h.apart_is (subst (λ n. KeepsBestInLine (column_pays c.args.column) k c.args.stride n w.best_payoff-best.result mid w.keep_best.new.all_best) h.strategies_is w.keep_best.ensures.in_line)) (c.loop-first.invariant g i h))
      | else-first-stride-eq0 w ↦ subst (λ v. KeepsBestBelow game i old v (k + 1)) (sym w.all_best-is) (KeepsBestBelow-skip game i old mid k h.player some (λ z. w.if-first-stride-eq0.false (sym played ∙ z)) (c.loop-first.invariant g i h))
    ]

pub returns : goal.returns
returns c g i h =
    let game = column_game c.args.column g in
    let old = c.args.all_best.now in
    let new = c.loop-first.all_best in
    KeepsBestReplies-column g i c.args.column (length old) c.args.stride c.args.strategies h old new (KeepsBestReplies-all game i old new h.player (subst (KeepsBestBelow game i old new) (omega (arith, h.of_each)) (c.loop-first.invariant g i h)))
