use Rattle.std.proofs.Common.{◌<◌, length, arith}
use Rattle.game_theory.proofs.ProfileNumberLemmas.{length-profile, profile-below}
use Rattle.game_core.specs.Table.{strategy_counts}
use Rattle.game_core.proofs.TableCountLemmas.{length-strategy_counts}
use Rattle.convert_tables.proofs.tables.push_chosen.Goals as goal

pub bounds-profile-player : goal.bounds-profile-player
bounds-profile-player c =
    let t = c.args.axes.now.table.now in
    omega (arith, c.requires.player, length-profile (strategy_counts t) c.args.profile.now c.requires.profile, length-strategy_counts t c.args.axes.now.valid)

pub push_strategy-requires-clause-strategy : goal.push_strategy-requires-clause-strategy
push_strategy-requires-clause-strategy c =
    let t = c.args.axes.now.table.now in
    let inside : c.args.player < length (strategy_counts t) = omega (arith, c.requires.player, length-strategy_counts t c.args.axes.now.valid) in
    profile-below (strategy_counts t) c.args.profile.now c.args.player c.requires.profile inside

pub offset_bounds-profile-player : goal.offset_bounds-profile-player
offset_bounds-profile-player c =
    let t = c.args.axes.now.table.now in
    let inside : c.args.player < length c.args.profile.now = omega (arith, c.requires.player, length-profile (strategy_counts t) c.args.profile.now c.requires.profile, length-strategy_counts t c.args.axes.now.valid) in
    omega arith
