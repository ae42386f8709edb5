use Rattle.std.proofs.Common.{ap, length, ◌<◌, ◌≤◌, ◌+◌, ◌^◌, arith}
use Rattle.std.specs.Prelude.{sum}
use Rattle.std.proofs.lemmas.Result.{err_from_is_err_and}
use Rattle.game_core.specs.TreeGame.{game_of_tree}
use Rattle.game_theory.specs.OwnSets.{own_counts}
use Rattle.behaviour_profile.proofs.ActionTotalLemmas.{actions-few}
use Rattle.behaviour_profile.proofs.TreeGroupLemmas.{total-next, groups-next, total-within, groups-within, player_passes, player_fault}
use Rattle.behaviour_profile.proofs.entries.test_players.Goals as goal
use Rattle.behaviour_profile.proofs.entries.test_players.Goals.{In-loop-player}

is_player : (c : In-loop-player) → c.loop-player.player < length c.args.tree.now.players
is_player c = omega (arith, c.loop-player-test.true, ap length c.players-player-end.ensures.players)

total : (c : In-loop-player) → c.loop-player.position.place + sum (own_counts (game_of_tree c.args.tree.now) c.loop-player.player) ≤ length c.args.entries.now
total c = omega (arith, c.requires, total-within (game_of_tree c.args.tree.now) c.loop-player.player (is_player c), c.loop-player.invariant.place)

few : (c : In-loop-player) → length c.args.entries.now < 2 ^ 32
few c = omega (arith, c.requires, actions-few c.args.tree.now c.stands_for_game_tree.ensures.valid)

groups : (c : In-loop-player) → c.loop-player.position.group + length (own_counts (game_of_tree c.args.tree.now) c.loop-player.player) < 2 ^ 32
groups c =
    omega (arith, few c, c.requires, groups-within (game_of_tree c.args.tree.now) c.loop-player.player c.stands_for_game_tree.ensures.game (is_player c), c.loop-player.invariant.group)

pub test_player-requires-clause-within : goal.test_player-requires-clause-within
test_player-requires-clause-within c = total c

pub test_player-requires-clause-few : goal.test_player-requires-clause-few
test_player-requires-clause-few c = omega (arith, total c, few c)

pub test_player-requires-clause-groups : goal.test_player-requires-clause-groups
test_player-requires-clause-groups c = groups c

pub returns-in_err-position : goal.returns-in_err-position
returns-in_err-position c =
    let p = err_from_is_err_and c.from_residual.result c.from_residual.ensures.1 in
    rw (p.1, p.2) (player_fault (game_of_tree c.args.tree.now) c.args.entries.now c.loop-player.player c.loop-player.position.place c.loop-player.position.group c.loop-player.invariant.place c.loop-player.invariant.group c.loop-player.invariant.passed
    c.in_err-position.field-0.0 (is_player (goal.at.returns-in_err-position c).In-loop-player) c.in_err-position.ensures.tests)

pub loop-player-preserved : goal.loop-player-preserved
loop-player-preserved c =
    let t = game_of_tree c.args.tree.now in
    record {
      place = omega (arith, c.in_ok-position.ensures.place, c.loop-player.invariant.place, total-next t c.loop-player.player);
      group = omega (arith, c.in_ok-position.ensures.group, c.loop-player.invariant.group, groups-next t c.loop-player.player);
      passed = player_passes t c.args.entries.now c.loop-player.player c.loop-player.position.place c.loop-player.position.group c.loop-player.invariant.place c.loop-player.invariant.group c.loop-player.invariant.passed c.in_ok-position.ensures.tests;
    }
