use Rattle.std.proofs.Common.{◌<◌, ◌∙◌, sym, length, arith}
use Rattle.std.proofs.lemmas.List.{length-map}
use Rattle.game_core.proofs.PlayerSetLemmas.{AreOwnLists-step_chance, AreOwnLists-step_player, owner_within}
use Rattle.game_core.proofs.tree.own_lists.Goals as goal
use Rattle.game_core.proofs.tree.own_lists.Goals.{in-Some+in_ok-push, in_default}

pub loop-number-preserved : goal.loop-number-preserved
loop-number-preserved c =
    let below : c.loop-number.number < length c.args.sets.now = omega arith in
    elim c.match-owner.branch [
      | in-Some+in_ok-push w ↦
          let owner = sym c.owner.ensures ∙ w.in-Some.is in
          let within = owner_within _ _ _ _ w.in-Some.player c.requires.owners below c.index-sets-number.is owner in
          let lists = rw length-map at c.loop-number.invariant.one_for_each in
          let inside : w.in-Some.player < length c.loop-number.lists.items = omega arith in
          rw w.lists-is (AreOwnLists-step_player (λ v. v.items) _ _ _ _ w.in-Some.player _ w.index_mut.result.now w.push.new.self below c.index-sets-number.is owner inside w.index_mut.ensures.value w.in_ok-push.ensures.items c.loop-number.invariant)
      | in_default w ↦ rw w.lists-is (AreOwnLists-step_chance _ _ _ _ _ below c.index-sets-number.is (sym c.owner.ensures ∙ w.in_default.is) c.loop-number.invariant)
    ]
