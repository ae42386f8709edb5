use Rattle.std.proofs.Common.{◌≡◌, Option, Some, None, List, ℕ, get_or, map, subst}
use Rattle.game_core.specs.Tree.{IsBelow}
use Rattle.subgames.proofs.MemberListLemmas.{members-none, members-some_of, members-start}
use Rattle.subgames.proofs.members.member_lists.Goals as goal
use Rattle.subgames.proofs.members.member_lists.Goals.{in-Some+in_ok-push, in_default}

pub loop-number-init : goal.loop-number-init
loop-number-init c = members-start c.args.count (map (λ v. v.items) c.in_ok-lists.lists.items) (c.in_ok-lists.ensures {u = tt})

pub loop-number-preserved : goal.loop-number-preserved
loop-number-preserved c =
    let names : List (Option ℕ) = c.args.names.now in
    let k = c.loop-number.number in
    let below = c.loop-number-test.true in
    elim c.match-names-number.branch [
      | in-Some+in_ok-push w ↦
          let at : get_or names k None ≡ Some w.in-Some.set = w.in-Some.is in
          let within = subst (IsBelow c.args.count) at (c.requires.names k None below) in
          rw w.lists-is (members-some_of (λ v. v.items) names k c.args.count w.in-Some.set c.loop-number.lists.items w.index_mut.result.now w.push.new.self below at within w.index_mut.ensures.value w.in_ok-push.ensures.items c.loop-number.invariant)
      | in_default w ↦ rw w.lists-is (members-none names k c.args.count (map (λ v. v.items) c.loop-number.lists.items) below c.loop-number.invariant w.in_default.is)
    ]
