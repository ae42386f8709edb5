use Rattle.std.proofs.Common.{◌≡◌, ◌∙◌, ◌<◌, ap, subst, get_or, length, arith}
use Rattle.std.proofs.lemmas.List.{length-set, length-map}
use Rattle.std.proofs.lemmas.Result.{err_from_is_err_and}
use Rattle.pure_payoffs.proofs.PlaceLemmas.{child-read, child-found}
use Rattle.perfect_recall.proofs.MemberLemmas.{AreMembers}
use Rattle.verdicts.specs.TreeReplies.{tree_game_at}
use Rattle.verdicts.proofs.TreeMemberLemmas.{decided-fewer, later-sets, listed-are, listed-at, listed-child, summed-more, summed-all}
use Rattle.frac128.proofs.SumStepLemmas.{number-refused, addition-refused}
use Rattle.verdicts.proofs.trees_replies.TreeReplies.action_value.Goals as goal

pub bounds-self-member : goal.bounds-self-member
bounds-self-member c =
    let at = listed-at c.args.self.now.tree.now _ c.args.set _ _ c.sets.ensures.valid c.sets.ensures.sets c.requires.set c.index-sets-set.is c.members-members.ensures c.loop-member.member-index c.loop-member-test.true in
    omega (arith, at.0, c.requires.replies.children_are.one_for_each, length-map c.args.self.now.children.now (λ v. v.items))

pub index-requires : goal.index-requires
index-requires c =
    let at = listed-at c.args.self.now.tree.now _ c.args.set _ _ c.sets.ensures.valid c.sets.ensures.sets c.requires.set c.index-sets-set.is c.members-members.ensures c.loop-member.member-index c.loop-member-test.true in
    let member = get_or c.members-members.result.now c.loop-member.member-index 0 in
    let read = child-read (λ v. v.items) _ c.args.self.now.children.now member c.args.set c.args.action c.index-self-member.result c.requires.replies.tree c.requires.replies.children_are at.0 at.1 c.requires.action in
    rw (get_or c.args.self.now.children.now member c.index-self-member.result).ok.0 read.0

pub value-requires-clause-node : goal.value-requires-clause-node
value-requires-clause-node c =
    let at = listed-at c.args.self.now.tree.now _ c.args.set _ _ c.sets.ensures.valid c.sets.ensures.sets c.requires.set c.index-sets-set.is c.members-members.ensures c.loop-member.member-index c.loop-member-test.true in
    let member = get_or c.members-members.result.now c.loop-member.member-index 0 in
    (child-found (λ v. v.items) _ c.args.self.now.children.now member c.args.set c.args.action c.index-self-member.result c.index.result.now c.requires.replies.tree c.requires.replies.children_are at.0 at.1 c.requires.action c.index.ensures).2

pub bounds-values-child : goal.bounds-values-child
bounds-values-child c =
    let at = listed-at c.args.self.now.tree.now _ c.args.set _ _ c.sets.ensures.valid c.sets.ensures.sets c.requires.set c.index-sets-set.is c.members-members.ensures c.loop-member.member-index c.loop-member-test.true in
    let member = get_or c.members-members.result.now c.loop-member.member-index 0 in
    let found = child-found (λ v. v.items) _ c.args.self.now.children.now member c.args.set c.args.action c.index-self-member.result c.index.result.now c.requires.replies.tree c.requires.replies.children_are at.0 at.1 c.requires.action c.index.ensures in
    omega (arith, found.2, c.requires.values, c.loop-member.invariant.0)

pub returns-in_err-value : goal.returns-in_err-value
returns-in_err-value c = λ b choice decided.
    let at = listed-at c.args.self.now.tree.now _ c.args.set _ _ c.sets.ensures.valid c.sets.ensures.sets c.requires.set c.index-sets-set.is c.members-members.ensures c.loop-member.member-index c.loop-member-test.true in
    let listed = listed-are c.args.self.now.tree.now _ c.args.set _ _ c.sets.ensures.valid c.sets.ensures.sets c.requires.set c.index-sets-set.is c.members-members.ensures in
    let member = get_or c.members-members.result.now c.loop-member.member-index 0 in
    let found = child-found (λ v. v.items) _ c.args.self.now.children.now member c.args.set c.args.action c.index-self-member.result c.index.result.now c.requires.replies.tree c.requires.replies.children_are at.0 at.1 c.requires.action c.index.ensures in
    let child = listed-child c.args.self.now.tree.now _ c.args.set _ _ c.sets.ensures.valid c.sets.ensures.sets c.requires.set c.index-sets-set.is c.members-members.ensures c.args.action c.loop-member.member-index _ found.0 in
    let p = err_from_is_err_and c.from_residual.result c.from_residual.ensures.1 in
    let before = c.loop-member.invariant.1 b choice decided in
    let later = rw (← found.0) at (later-sets _ b _ choice _ _ c.requires.replies.tree c.args.set c.args.action c.requires.own c.requires.action _ _ member before.decided at.0 at.1) in
    let refused = rw child at (c.in_err-value.ensures b choice _ (decided-fewer _ b _ choice _ _ _ _ _ before.decided) later) in
    rw (p.1, p.2) (number-refused _ _ c.loop-member.member-index c.loop-member.sum c.loop-member.sum before.sum_is before.fit _ _ (subst (λ xs. c.loop-member.member-index < length xs) listed.0 c.loop-member-test.true) refused)

pub returns-in_err-sum : goal.returns-in_err-sum
returns-in_err-sum c = λ b choice decided.
    let at = listed-at c.args.self.now.tree.now _ c.args.set _ _ c.sets.ensures.valid c.sets.ensures.sets c.requires.set c.index-sets-set.is c.members-members.ensures c.loop-member.member-index c.loop-member-test.true in
    let listed = listed-are c.args.self.now.tree.now _ c.args.set _ _ c.sets.ensures.valid c.sets.ensures.sets c.requires.set c.index-sets-set.is c.members-members.ensures in
    let member = get_or c.members-members.result.now c.loop-member.member-index 0 in
    let found = child-found (λ v. v.items) _ c.args.self.now.children.now member c.args.set c.args.action c.index-self-member.result c.index.result.now c.requires.replies.tree c.requires.replies.children_are at.0 at.1 c.requires.action c.index.ensures in
    let child = listed-child c.args.self.now.tree.now _ c.args.set _ _ c.sets.ensures.valid c.sets.ensures.sets c.requires.set c.index-sets-set.is c.members-members.ensures c.args.action c.loop-member.member-index _ found.0 in
    let p = err_from_is_err_and c.from_residual-in_err-sum.result c.from_residual-in_err-sum.ensures.1 in
    let before = c.loop-member.invariant.1 b choice decided in
    let later = rw (← found.0) at (later-sets _ b _ choice _ _ c.requires.replies.tree c.args.set c.args.action c.requires.own c.requires.action _ _ member before.decided at.0 at.1) in
    let value = rw child at (c.in_ok-value.ensures b choice _ (decided-fewer _ b _ choice _ _ _ _ _ before.decided) later) in
    rw (p.1, p.2) (addition-refused _ _ c.loop-member.member-index c.loop-member.sum c.in_ok-value.value before.sum_is before.fit _ _ (subst (λ xs. c.loop-member.member-index < length xs) listed.0 c.loop-member-test.true) value.0 value.1 c.in_err-sum.ensures.step c.in_err-sum.ensures.unfit)

pub loop-member-preserved : goal.loop-member-preserved
loop-member-preserved c =
    let at = listed-at c.args.self.now.tree.now _ c.args.set _ _ c.sets.ensures.valid c.sets.ensures.sets c.requires.set c.index-sets-set.is c.members-members.ensures c.loop-member.member-index c.loop-member-test.true in
    let member = get_or c.members-members.result.now c.loop-member.member-index 0 in
    let found = child-found (λ v. v.items) _ c.args.self.now.children.now member c.args.set c.args.action c.index-self-member.result c.index.result.now c.requires.replies.tree c.requires.replies.children_are at.0 at.1 c.requires.action c.index.ensures in
    let child = listed-child c.args.self.now.tree.now _ c.args.set _ _ c.sets.ensures.valid c.sets.ensures.sets c.requires.set c.index-sets-set.is c.members-members.ensures c.args.action c.loop-member.member-index _ found.0 in
    let inside : c.index.result.now < length c.loop-member.values = omega (arith, found.2, c.requires.values, c.loop-member.invariant.0) in (
      length-set c.loop-member.values c.index.result.now c.in_ok-value.value ∙ c.loop-member.invariant.0,
      λ b choice decided.
          let before = c.loop-member.invariant.1 b choice decided in
          let later = rw (← found.0) at (later-sets _ b _ choice _ _ c.requires.replies.tree c.args.set c.args.action c.requires.own c.requires.action _ _ member before.decided at.0 at.1) in
          let value = rw child at (c.in_ok-value.ensures b choice _ (decided-fewer _ b _ choice _ _ _ _ _ before.decided) later) in
          rw child (summed-more _ b _ choice _ _ c.requires.replies.tree c.args.set c.args.action c.requires.own c.requires.action c.loop-member.values c.loop-member.member-index c.loop-member.sum c.in_ok-value.value c.in_ok-sum.sum before (subst (λ x. x < length c.loop-member.values) child inside) value.0 value.1 c.in_ok-sum.ensures.value c.in_ok-sum.ensures.fits),
    )

pub returns : goal.returns
returns c = λ b choice decided.
    let listed = listed-are c.args.self.now.tree.now _ c.args.set _ _ c.sets.ensures.valid c.sets.ensures.sets c.requires.set c.index-sets-set.is c.members-members.ensures in
    let all : c.loop-member.member-index ≡ length c.members-members.result.now = omega arith in
    summed-all _ b _ choice _ _ c.requires.replies.tree c.args.set c.args.action c.requires.own c.requires.action c.loop-member.values c.loop-member.member-index c.loop-member.sum (subst (AreMembers (tree_game_at c.args.self.now) c.args.set) listed.0 listed.1) (all ∙ ap length listed.0) (c.loop-member.invariant.1 b choice decided)
