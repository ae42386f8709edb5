use Rattle.std.proofs.Common.{◌<◌, ◌≢◌, None, get_or, set, length, sym, subst, arith}
use Rattle.game_theory.proofs.SubtreeOrderLemmas.{within-after, within-parent}
use Rattle.game_theory.specs.OwnSets.{Chooses, NobodyChooses}
use Rattle.game_theory.specs.Trees.{IsWithin}
use Rattle.game_core.specs.TreeGame.{game_of_tree}
use Rattle.game_core.specs.LastMoves.{AreLastMoves}
use Rattle.game_core.proofs.LastMoveLemmas.{chooser-inside, up-nobody, up-player}
use Rattle.game_core.proofs.moves.climb.Goals as goal
use Rattle.game_core.proofs.moves.climb.Goals.{After-parent-here, In-Some}

below : (c : After-parent-here) → c.loop-here.here < length c.args.tree.now.nodes
below c = omega (arith, c.loop-here.invariant.below, c.requires.from)

later : (c : After-parent-here) → 0 < c.loop-here.here
later c =
    let low = within-after (game_of_tree c.args.tree.now) c.stands_for_game_tree.ensures.game c.args.to c.loop-here.here (below c) c.loop-here.invariant.within in
    omega (arith, low, c.loop-here-test.true)

-- the next node stands before
before : (c : After-parent-here) → c.parent-here.result < c.loop-here.here
before c = omega (arith, c.stands_for_game_tree.ensures.game.after_parent c.loop-here.here (later c) (below c), c.parent-here.ensures)

-- and still in the subtree
within : (c : After-parent-here) → IsWithin (game_of_tree c.args.tree.now) c.args.to c.parent-here.result
within c =
    let apart : c.args.to ≢ c.loop-here.here = λ same. absurd (omega (arith, same, c.loop-here-test.true)) in
    subst (IsWithin (game_of_tree c.args.tree.now) c.args.to) (sym c.parent-here.ensures)
    ((within-parent (game_of_tree c.args.tree.now) c.stands_for_game_tree.ensures.game c.args.to c.loop-here.here (later c) apart).0 c.loop-here.invariant.within)

-- the player who moves there
chooses : (c : In-Some) → Chooses (game_of_tree c.args.tree.now) ((game_of_tree c.args.tree.now).parent c.loop-here.here) c.in-Some.player c.in-Some.field-0-1
chooses c = subst (λ k. Chooses (game_of_tree c.args.tree.now) k c.in-Some.player c.in-Some.field-0-1) c.parent-here.ensures c.in-Some.ensures

pub bounds-before-here : goal.bounds-before-here
bounds-before-here c =
    omega (arith, before (goal.at.bounds-before-here c).After-parent-here, c.loop-here.invariant.below, c.requires.few)

pub bounds-last-player : goal.bounds-last-player
bounds-last-player c =
    let here = (goal.at.bounds-last-player c).After-parent-here in
    let inside = chooser-inside (game_of_tree c.args.tree.now) c.loop-here.here c.loop-here.last c.stands_for_game_tree.ensures.game (later here) (below here) c.in-Some.player c.in-Some.field-0-1 (chooses (goal.at.bounds-last-player c).In-Some) in
    omega (arith, inside, c.loop-here.invariant.are_last.one_for_each)

pub loop-here-smaller-in-Some : goal.loop-here-smaller-in-Some
loop-here-smaller-in-Some c = before (goal.at.loop-here-smaller-in-Some c).After-parent-here

pub loop-here-smaller : goal.loop-here-smaller
loop-here-smaller c = before (goal.at.loop-here-smaller c).After-parent-here

pub loop-here-preserved-in-Some : goal.loop-here-preserved-in-Some
loop-here-preserved-in-Some c =
    let g = game_of_tree c.args.tree.now in
    let here = (goal.at.loop-here-preserved-in-Some c).After-parent-here in
    let owner = chooses (goal.at.loop-here-preserved-in-Some c).In-Some in
    let up = g.parent c.loop-here.here in
    let inside : up < length c.args.before.now = omega (arith, before here, c.parent-here.ensures, c.loop-here.invariant.below, c.requires.few) in
    record {
      within = within here;
      below = omega (arith, before here, c.loop-here.invariant.below);
      are_last = subst (λ k. AreLastMoves g k (set c.loop-here.last c.in-Some.player (get_or c.args.before.now k None))) (sym c.parent-here.ensures)
          (up-player g c.loop-here.here c.loop-here.last c.stands_for_game_tree.ensures.game (later here) (below here) c.in-Some.player c.in-Some.field-0-1 owner (get_or c.args.before.now up None)
          ((c.requires.before up inside).of_player c.in-Some.player c.in-Some.field-0-1 owner) c.loop-here.invariant.are_last);
    }

pub loop-here-preserved : goal.loop-here-preserved
loop-here-preserved c =
    let g = game_of_tree c.args.tree.now in
    let here = (goal.at.loop-here-preserved c).After-parent-here in
    let nobody = subst (NobodyChooses g) c.parent-here.ensures c.in_default.ensures in
    record {
      within = within here;
      below = omega (arith, before here, c.loop-here.invariant.below);
      are_last = subst (λ k. AreLastMoves g k c.loop-here.last) (sym c.parent-here.ensures) (up-nobody g c.loop-here.here c.loop-here.last c.stands_for_game_tree.ensures.game (later here) (below here) nobody c.loop-here.invariant.are_last);
    }

pub choice_at-requires : goal.choice_at-requires
choice_at-requires c =
    let here = (goal.at.choice_at-requires c).After-parent-here in
    omega (arith, before here, below here)
