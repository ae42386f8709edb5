use Rattle.std.proofs.Common.{◌+◌, length, ap, ◌∙◌, arith}
use Rattle.strategy_lists.proofs.WalkTurnLemmas.{left, end_there, IsTurn-made, walks_counted}
use Rattle.strategy_lists.proofs.walk.count_ends.Goals as goal

pub returns-then-count-most-clause-lists : goal.returns-then-count-most-clause-lists
returns-then-count-most-clause-lists c =
    let seen = ap (left c.loop-from.walk) c.in-Some.is ∙ end_there c.loop-from.walk c.forward.new.self c.in-Some.number c.in_ok-forward.ensures in
    walks_counted c.args.decisions.now c.args.actions.now (c.loop-from.count + 1) (c.args.most + 1) c.requires.linked (omega (arith, ap length seen))

pub returns-then-count-most-clause-ends : goal.returns-then-count-most-clause-ends
returns-then-count-most-clause-ends c =
    let seen = ap (left c.loop-from.walk) c.in-Some.is ∙ end_there c.loop-from.walk c.forward.new.self c.in-Some.number c.in_ok-forward.ensures in
    omega (arith, ap length seen)

pub loop-from-smaller : goal.loop-from-smaller
loop-from-smaller c =
    let turn = IsTurn-made c.loop-from.walk c.forward.new.self c.back-from.new.self c.in-Some.number c.back-from.result c.in_ok-forward.ensures c.back-from.ensures in
    let seen = ap (left c.loop-from.walk) c.in-Some.is ∙ turn.ends in
    omega (arith, ap length seen)

pub loop-from-preserved : goal.loop-from-preserved
loop-from-preserved c =
    let turn = IsTurn-made c.loop-from.walk c.forward.new.self c.back-from.new.self c.in-Some.number c.back-from.result c.in_ok-forward.ensures c.back-from.ensures in
    let seen = ap (left c.loop-from.walk) c.in-Some.is ∙ turn.ends in
    record { at = turn.next_at; ends = omega (arith, ap length seen); few = c.if-count-most.false }

pub returns-clause-lists : goal.returns-clause-lists
returns-clause-lists c =
    let none = ap (left c.loop-from.walk) c.in_default.is in
    walks_counted c.args.decisions.now c.args.actions.now c.loop-from.count (c.args.most + 1) c.requires.linked (omega (arith, ap length none))

pub returns-clause-ends : goal.returns-clause-ends
returns-clause-ends c =
    let none = ap (left c.loop-from.walk) c.in_default.is in
    omega (arith, ap length none)
