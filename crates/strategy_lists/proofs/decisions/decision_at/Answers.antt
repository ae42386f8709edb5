use Rattle.std.proofs.Common.{refl, sym, subst}
use Rattle.game_core.specs.TreeGame.{game_of_tree}
use Rattle.game_core.specs.LastMoves.{IsLastAbove}
use Rattle.strategy_lists.specs.Made.{LeadsTo}
use Rattle.strategy_lists.proofs.MoveLemmas.{move_at}
use Rattle.strategy_lists.proofs.decisions.decision_at.Goals as goal
use Rattle.strategy_lists.proofs.decisions.decision_at.Goals.{in-Some, in-None}

-- the edge leads to the decision
led_to : (c : goal.After-place_at-2) → LeadsTo (game_of_tree c.args.tree.now) c.args.player c.args.numbers.now c.args.number c.match-last.before
led_to c = elim c.match-last.branch [
  | in-Some w ↦ (
      let last = subst (IsLastAbove (game_of_tree c.args.tree.now) c.args.player c.args.number) w.in-Some.is c.requires.last in
      subst (LeadsTo (game_of_tree c.args.tree.now) c.args.player c.args.numbers.now c.args.number) (sym w.before-is) (record { node = w.in-Some.node; set = w.in-Some.field-0-1; last = last; number_is = refl; place_is = w.place_at.ensures c.args.player w.in-Some.field-0-1 last.is_move }))
  | in-None w ↦ subst (LeadsTo (game_of_tree c.args.tree.now) c.args.player c.args.numbers.now c.args.number) (sym w.before-is) (subst (IsLastAbove (game_of_tree c.args.tree.now) c.args.player c.args.number) w.in-None.is c.requires.last)
]

pub returns : goal.returns
returns c =
    let move = move_at (game_of_tree c.args.tree.now) c.args.player c.args.number c.requires.moves in
    record { set = move.0; is_move = move.1; place_is = c.place_at-2.ensures c.args.player move.0 move.1; led_to = led_to c }
