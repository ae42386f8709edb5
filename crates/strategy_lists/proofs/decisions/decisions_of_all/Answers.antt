use Rattle.std.proofs.Common.{◌≡◌, ◌<◌, ◌∙◌, ℕ, None, [], length, map, get_or, sym, ap, subst, arith, add-one}
use Rattle.std.proofs.lemmas.List.{get_or_default, length-map, length-replicate}
use Rattle.std.proofs.lemmas.List.Elements.{All-map}
use Rattle.lists.proofs.OptionLemmas.{none_alone}
use Rattle.lists.proofs.ElementLemmas.{get_or-copies}
use Rattle.game_core.specs.TreeGame.{game_of_tree}
use Rattle.game_core.specs.LastMoves.{IsLastAbove}
use Rattle.strategy_lists.proofs.PlayerDecisionLemmas.{AreMadeByAll, AreMadeByAll-none, AreMadeByAll-nobody, AreMadeByAll-player, AreDecisionsOfAll-made, player-inside, latest-within, before-few}
use Rattle.strategy_lists.proofs.decisions.decisions_of_all.Goals as goal
use Rattle.strategy_lists.proofs.decisions.decisions_of_all.Goals.{in-Some+in_ok-number, in_default}

pub loop-node-init : goal.loop-node-init
loop-node-init c =
    let none = c.in_ok-lists.ensures in
    let players = length-map c.in_ok-lists.lists.items (λ v. v.items) ∙ none.0 ∙ ap length c.players.ensures.players in
    let latest = c.in_ok-latest.ensures.items_if_clones_equal (none_alone _ (λ x h. h)) in
    let sets = ap length latest ∙ length-replicate _ None ∙ ap length c.sets.ensures.sets in
    let nothing = λ (s : ℕ). ap (λ xs. get_or xs s None) latest ∙ get_or-copies _ s None in
    rw c.new-numbers.ensures.items (AreMadeByAll-none (game_of_tree c.args.tree.now) c.in_ok-latest.latest.items _ players sets nothing (All-map (λ list. list ≡ []) (λ v. v.items) c.in_ok-lists.lists.items none.1))

pub index_mut-list-requires : goal.index_mut-list-requires
index_mut-list-requires c =
    let inside = player-inside (λ v. v.items) (game_of_tree c.args.tree.now) c.loop-node.node c.in-Some.player c.in-Some.set c.loop-node.numbers.items c.loop-node.latest.items c.loop-node.lists.items (c.trees_are_game_trees.ensures c.args.tree.now c.nodes-node-end.ensures.valid) c.loop-node.invariant (rw c.nodes-node-end.ensures.nodes at c.loop-node-test.true) c.in-Some.ensures in
    omega (arith, c.loop-node.lists.ok)

-- the set's latest decision is one of the player's list
pub take-requires-clause-latest : goal.take-requires-clause-latest
take-requires-clause-latest c = latest-within (λ v. v.items) (game_of_tree c.args.tree.now) c.loop-node.node c.in-Some.player c.in-Some.set c.loop-node.numbers.items c.loop-node.latest.items c.loop-node.lists.items (c.trees_are_game_trees.ensures c.args.tree.now c.nodes-node-end.ensures.valid) c.loop-node.invariant (rw c.nodes-node-end.ensures.nodes at c.loop-node-test.true) c.in-Some.ensures c.index_mut-list.result.now c.index_mut-list.ensures.value c.index_mut.result.now c.index_mut.ensures.value

pub take-requires-clause-few : goal.take-requires-clause-few
take-requires-clause-few c =
    let few = before-few (λ v. v.items) (game_of_tree c.args.tree.now) c.loop-node.node c.in-Some.player c.in-Some.set c.loop-node.numbers.items c.loop-node.latest.items c.loop-node.lists.items (c.trees_are_game_trees.ensures c.args.tree.now c.nodes-node-end.ensures.valid) c.loop-node.invariant (rw c.nodes-node-end.ensures.nodes at c.loop-node-test.true) c.in-Some.ensures c.index_mut-list.result.now c.index_mut-list.ensures.value in
    omega (arith, few, c.loop-node-test.true, c.nodes-node-end.ensures.valid.few_nodes, ap length c.nodes-node-end.ensures.nodes)

pub decision_at-decision-requires-clause-last : goal.decision_at-decision-requires-clause-last
decision_at-decision-requires-clause-last c =
    let g = game_of_tree c.args.tree.now in
    let inside : c.loop-node.node < length c.in_ok-moves.moves.items = omega (arith, c.in_ok-moves.ensures.so_many, c.loop-node-test.true, ap length c.nodes-node-end.ensures.nodes) in
    subst (IsLastAbove g c.in-Some.player c.loop-node.node) (get_or_default c.in_ok-moves.moves.items c.loop-node.node None c.index-last.result.now inside ∙ sym c.index-last.ensures)
    ((c.in_ok-moves.ensures.moves c.loop-node.node inside).of_player c.in-Some.player c.in-Some.set c.in-Some.ensures)

pub loop-node-preserved : goal.loop-node-preserved
loop-node-preserved c =
    let g = game_of_tree c.args.tree.now in
    let law = c.trees_are_game_trees.ensures c.args.tree.now c.nodes-node-end.ensures.valid in
    let below : c.loop-node.node < length c.args.tree.now.nodes = rw c.nodes-node-end.ensures.nodes at c.loop-node-test.true in
    elim c.match-choice_at.branch [
      | in-Some+in_ok-number w ↦ (
          let made = rw w.as_slice.ensures.value at w.decision_at-decision.ensures in
          rw (w.lists-is, w.latest-is, w.in_ok-number.ensures.latest, add-one, c.in_ok-push.ensures.items, w.number-is) (AreMadeByAll-player (λ v. v.items) g c.loop-node.node w.in-Some.player w.in-Some.set c.loop-node.numbers.items c.loop-node.latest.items c.loop-node.lists.items law c.loop-node.invariant below w.in-Some.ensures w.index_mut-list.result.now w.take.new.list w.decision_at-decision.result w.in_ok-number.number w.index_mut-list.ensures.value made w.in_ok-number.ensures.list))
      | in_default w ↦ rw (w.lists-is, w.latest-is, add-one, c.in_ok-push.ensures.items) (AreMadeByAll-nobody g c.loop-node.node c.loop-node.numbers.items _ c.loop-node.latest.items _ w.in_default.ensures c.loop-node.invariant)
    ]

pub returns : goal.returns
returns c =
    let all : c.loop-node.node ≡ length c.args.tree.now.nodes = omega (arith, ap length c.nodes-node-end.ensures.nodes) in
    AreDecisionsOfAll-made (game_of_tree c.args.tree.now) c.loop-node.numbers.items c.loop-node.latest.items _ (c.trees_are_game_trees.ensures c.args.tree.now c.nodes-node-end.ensures.valid) (subst (λ n. AreMadeByAll (game_of_tree c.args.tree.now) n c.loop-node.numbers.items c.loop-node.latest.items (map (λ v. v.items) c.loop-node.lists.items)) all c.loop-node.invariant)
