use Rattle.std.proofs.Common.{◌+◌, ◌≡◌, ◌∙◌, [], get_or, length, map, ap, arith}
use Rattle.std.proofs.lemmas.List.{length-map, length_push}
use Rattle.game_core.specs.TreeGame.{game_of_tree}
use Rattle.two_player_tools.proofs.KnownCutLemmas.{lists-pushed}
use Rattle.two_player_tools.proofs.perfect.room_for_lists.Goals as goal

pub loop-set-preserved : goal.loop-set-preserved
loop-set-preserved c =
    let lists = c.loop-set.lists.items in
    let longs = (game_of_tree c.args.tree.now).actions in
    let before = c.loop-set.invariant in
    let pushed = c.in_ok-push.ensures.items in
    record {
      one_for_each = ap length pushed ∙ length_push lists c.in_ok-vec.field-0 ∙ ap (λ n. n + 1) before.one_for_each;
      as_long = λ s below. ap (λ xs. length (get_or (map (λ v. v.items) xs) s [])) pushed
          ∙ lists-pushed (λ v. v.items) lists c.in_ok-vec.field-0 c.loop-set.set longs before.one_for_each before.as_long (omega (arith, c.in_ok-vec.field-0.ok.0, c.in_ok-vec.ensures.len, c.action_count.ensures)) s below;
    }

pub returns : goal.returns
returns c =
    let all : c.loop-set.set ≡ length c.args.tree.now.sets = omega (arith, c.loop-set-test.false, c.loop-set.auto.set-end, ap length c.sets-set-end.ensures.sets) in
    record {
      one_for_each = length-map c.loop-set.lists.items (λ v. v.items) ∙ c.loop-set.invariant.one_for_each ∙ all;
      as_long = λ s below. c.loop-set.invariant.as_long s (omega (arith, below, all));
    }
