use Rattle.std.proofs.Common.{Some, ◌<◌, ◌≡◌, ◌∙◌, ap, sym, length, slice_get, arith}
use Rattle.std.proofs.lemmas.Option.{slice_get-get_or}
use Rattle.std.proofs.lemmas.Result.{err_from_is_err_and}
use Rattle.game_core.specs.Table.{strategy_counts}
use Rattle.behaviour_profile.proofs.GroupListLemmas.{next_passes, next_fault}
use Rattle.verdicts.proofs.TablePartLemmas.{player-few, player-within, entries-next}
use Rattle.verdicts.proofs.mixed.test_players.Goals as goal
use Rattle.verdicts.proofs.mixed.test_players.Goals.{In-loop-player, After-strategy_count-count}

is_player : (c : In-loop-player) → c.loop-player.player < length c.args.table.now.players
is_player c = omega (arith, c.loop-player-test.true, ap length c.players-player-end.ensures.players)

at : (c : After-strategy_count-count) → slice_get (strategy_counts c.args.table.now) c.loop-player.player ≡ Some c.strategy_count-count.result
at c =
    slice_get-get_or (strategy_counts c.args.table.now) c.loop-player.player 0 (player-within c.args.table.now c.strategy_count-count.ensures.valid c.loop-player.player (omega (arith, c.loop-player-test.true, ap length c.players-player-end.ensures.players)))
    ∙ ap Some (sym c.strategy_count-count.ensures.count)

pub overflow_cast-player : goal.overflow_cast-player
overflow_cast-player c = omega (arith, player-few c.args.table.now c.players-player-end.ensures.valid c.loop-player.player (is_player (goal.at.overflow_cast-player c).In-loop-player))

pub returns-in_err-test_group : goal.returns-in_err-test_group
returns-in_err-test_group c =
    let p = err_from_is_err_and c.from_residual.result c.from_residual.ensures.1 in
    rw (p.1, p.2) (next_fault (strategy_counts c.args.table.now) c.loop-player.player c.strategy_count-count.result (at (goal.at.returns-in_err-test_group c).After-strategy_count-count) c.args.entries.now 0 0 c.loop-player.place c.loop-player.player
    (omega (arith, c.loop-player.invariant.place)) (omega arith) c.loop-player.invariant.passed c.in_err-test_group.field-0.0 c.in_err-test_group.ensures)

pub loop-player-preserved : goal.loop-player-preserved
loop-player-preserved c =
    let t = c.args.table.now in
    let next = entries-next t c.strategy_count-count.ensures.valid c.loop-player.player (is_player (goal.at.loop-player-preserved c).In-loop-player) in
    record {
      place = omega (arith, c.loop-player.invariant.place, next, c.strategy_count-count.ensures.count);
      passed = next_passes (strategy_counts t) c.loop-player.player c.strategy_count-count.result (at (goal.at.loop-player-preserved c).After-strategy_count-count) c.args.entries.now 0 0 c.loop-player.place c.loop-player.player
          (omega (arith, c.loop-player.invariant.place)) (omega arith) c.loop-player.invariant.passed c.in_ok-test_group.ensures;
    }
