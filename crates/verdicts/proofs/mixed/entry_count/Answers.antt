use Rattle.std.proofs.Common.{ap, length, arith}
use Rattle.std.specs.Prelude.{sum}
use Rattle.std.proofs.lemmas.List.{take_all}
use Rattle.game_core.specs.Table.{strategy_counts}
use Rattle.game_core.proofs.TableCountLemmas.{length-strategy_counts}
use Rattle.verdicts.proofs.TablePartLemmas.{strategies-few, entries-next, entries-within}
use Rattle.verdicts.proofs.mixed.entry_count.Goals as goal

pub overflow_add-count : goal.overflow_add-count
overflow_add-count c =
    let t = c.args.table.now in
    let valid = c.players-player-end.ensures.valid in
    let within = entries-within t valid c.loop-player.player (omega (arith, c.loop-player-test.true, ap length c.players-player-end.ensures.players)) in
    omega (arith, within, strategies-few t valid, c.strategy_count-count.ensures.count, c.loop-player.invariant)

pub loop-player-preserved : goal.loop-player-preserved
loop-player-preserved c =
    let t = c.args.table.now in
    let next = entries-next t c.players-player-end.ensures.valid c.loop-player.player (omega (arith, c.loop-player-test.true, ap length c.players-player-end.ensures.players)) in
    omega (arith, next, c.strategy_count-count.ensures.count, c.loop-player.invariant)

pub returns : goal.returns
returns c =
    let t = c.args.table.now in
    let valid = c.players-player-end.ensures.valid in
    let all = take_all c.loop-player.player (strategy_counts t) (omega (arith, c.loop-player-test.false, length-strategy_counts t valid, ap length c.players-player-end.ensures.players)) in
    record {
      value = omega (arith, c.loop-player.invariant, ap sum all);
      few = omega (arith, c.loop-player.invariant, ap sum all, strategies-few t valid);
    }
