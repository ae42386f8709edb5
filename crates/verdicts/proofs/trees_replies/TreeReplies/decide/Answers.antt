use Rattle.std.proofs.Common.{◌≡◌, ◌<◌, sym, subst, arith}
use Rattle.std.proofs.lemmas.Result.{err_from_is_err_and}
use Rattle.strategy_lists.proofs.ActionCountLemmas.{actions-below}
use Rattle.verdicts.specs.TreeReplies.{tree_game_at}
use Rattle.verdicts.proofs.TreeDecisionLemmas.{weighed-greater, weighed-other, weighed-all}
use Rattle.frac128.proofs.StepPartLemmas.{part-refused}
use Rattle.verdicts.proofs.trees_replies.TreeReplies.decide.Goals as goal
use Rattle.verdicts.proofs.trees_replies.TreeReplies.decide.Goals.{then-is_greater, else-is_greater}

pub returns-in_err-value-clause-decided : goal.returns-in_err-value-clause-decided
returns-in_err-value-clause-decided c = λ b choice decided.
    let below : c.loop-action.action < (tree_game_at c.args.self.now).actions c.args.set = omega (arith, c.action_count-action-end.ensures) in
    let p = err_from_is_err_and c.from_residual.result c.from_residual.ensures.1 in
    let before = c.loop-action.invariant.2 b choice decided in
    rw (p.1, p.2) (part-refused _ c.loop-action.action _ _ below before.fit (c.in_err-value.ensures b choice before.decided))

pub loop-action-preserved : goal.loop-action-preserved
loop-action-preserved c =
    let below : c.loop-action.action < (tree_game_at c.args.self.now).actions c.args.set = omega (arith, c.action_count-action-end.ensures) in
    elim c.if-is_greater.branch [
      | then-is_greater w ↦ (
        omega arith,
        subst (λ x. x < (tree_game_at c.args.self.now).actions c.args.set) (sym w.best-is) below,
        λ b choice decided.
            let before = c.loop-action.invariant.2 b choice decided in
            let value = c.in_ok-value.ensures b choice before.decided in
            rw (w.best-is, w.most-is) (weighed-greater _ b _ choice _ _ c.args.set _ _ c.loop-action.action _ _ c.in_ok-value.value before value.0 value.1 value.2 (λ some. c.is_greater.ensures.greater w.if-is_greater.true some)),
      )
      | else-is_greater w ↦ (
        omega arith,
        subst (λ x. x < (tree_game_at c.args.self.now).actions c.args.set) (sym w.best-is) c.loop-action.invariant.1,
        λ b choice decided.
            let before = c.loop-action.invariant.2 b choice decided in
            let value = c.in_ok-value.ensures b choice before.decided in
            rw (w.best-is, w.most-is) (weighed-other _ b _ choice _ _ c.args.set _ _ c.loop-action.action _ _ c.in_ok-value.value before value.0 value.1 value.2 (c.is_greater.ensures.otherwise w.if-is_greater.false)),
      )
    ]

pub overflow_cast-choices : goal.overflow_cast-choices
overflow_cast-choices c =
    let valid = c.stands_for_game_tree.ensures.valid in
    omega (arith, actions-below c.args.self.now.tree.now c.args.set valid c.requires.set, valid.few_nodes, c.loop-action.invariant.1)

pub returns-clause-decided : goal.returns-clause-decided
returns-clause-decided c = λ b choice decided.
    let all : c.loop-action.action ≡ (tree_game_at c.args.self.now).actions c.args.set = omega (arith, c.action_count-action-end.ensures) in
    weighed-all _ b _ choice _ _ c.args.set _ c.loop-action.action _ _ c.requires.replies.tree c.requires.set c.requires.own c.requires.choices.long all (c.loop-action.invariant.2 b choice decided)
