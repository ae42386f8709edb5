use Rattle.std.proofs.Common.{◌+◌, ◌-◌, ◌<◌, ◌≡◌, None, get_or, length, sym, ap, ◌∙◌, subst, arith}
use Rattle.std.proofs.lemmas.List.{length_push}
use Rattle.game_theory.specs.Trees.{IsWithin}
use Rattle.game_core.specs.TreeGame.{game_of_tree}
use Rattle.game_core.proofs.ParentPathLemmas.{parent-on_path}
use Rattle.game_core.specs.LastMoves.{AreLastMoves, IsLastAbove, IsMoveBefore}
use Rattle.game_core.proofs.LastMoveLemmas.{chooses-within, moves-more, one_chooses}
use Rattle.game_core.proofs.moves.last_moves.Goals as goal
use Rattle.game_core.proofs.moves.last_moves.Goals.{After-choice_at, then-node-gt0, else-node-gt0, in-Some, in-None}

pub climb-requires-clause-to : goal.climb-requires-clause-to
climb-requires-clause-to c =
    let g = game_of_tree c.args.tree.now in
    let below : c.loop-node.node < length c.args.tree.now.nodes = omega (arith, c.loop-node-test.true, ap length c.nodes-node-end.ensures.nodes) in
    subst (λ k. IsWithin g k (c.loop-node.node - 1)) (sym c.parent-above.ensures) (parent-on_path c.args.tree.now c.loop-node.node c.stands_for_game_tree.ensures.valid c.if-node-gt0.true below)

-- each player's last move above the node
last : (c : After-choice_at) → AreLastMoves (game_of_tree c.args.tree.now) c.loop-node.node c.if-node-gt0.last
last c =
    let g = game_of_tree c.args.tree.now in
    elim c.if-node-gt0.branch [
      | then-node-gt0 w ↦ subst (AreLastMoves g c.loop-node.node) (sym w.last-is) w.descend.ensures
      | else-node-gt0 w ↦ (
          let first : c.loop-node.node - 1 ≡ c.loop-node.node = omega (arith, w.if-node-gt0.false) in
          subst (AreLastMoves g c.loop-node.node) (sym w.last-is) (subst (λ k. AreLastMoves g k c.loop-node.last) first c.loop-node.invariant.are_last))
    ]

pub loop-node-preserved : goal.loop-node-preserved
loop-node-preserved c =
    let g = game_of_tree c.args.tree.now in
    let n = c.loop-node.node in
    let below : n < length c.args.tree.now.nodes = omega (arith, c.loop-node-test.true, ap length c.nodes-node-end.ensures.nodes) in
    let all = last (goal.at.loop-node-preserved c).After-choice_at in
    let here : IsMoveBefore g n c.match-choice_at.move_before = record {
      of_player = λ i s chooses. elim c.match-choice_at.branch [
        | in-Some w ↦ (
            let same : i ≡ w.in-Some.player = one_chooses g n i s w.in-Some.player w.in-Some.field-0-1 chooses w.in-Some.ensures in
            subst (IsLastAbove g i n) (ap (λ j. get_or c.if-node-gt0.last j None) same ∙ sym w.move_before-is) (all.are_last i (chooses-within g n i s c.stands_for_game_tree.ensures.game below chooses)))
        | in-None w ↦ absurd (w.in-None.ensures i s chooses)
      ];
      of_nobody = λ nobody. elim c.match-choice_at.branch [
        | in-Some w ↦ absurd (nobody w.in-Some.player w.in-Some.field-0-1 w.in-Some.ensures)
        | in-None w ↦ w.move_before-is
      ];
    } in
    let back : n + 1 - 1 ≡ n = omega arith in
    record {
      so_many = ap length c.in_ok-push.ensures.items ∙ length_push c.loop-node.moves.items c.match-choice_at.move_before ∙ ap (λ m. m + 1) c.loop-node.invariant.so_many;
      are_before = moves-more g n c.loop-node.moves.items c.push.new.self.items c.match-choice_at.move_before c.loop-node.invariant.so_many c.in_ok-push.ensures.items c.loop-node.invariant.are_before here;
      are_last = subst (λ k. AreLastMoves g k c.if-node-gt0.last) (sym back) all;
    }
