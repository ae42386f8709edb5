use Rattle.std.proofs.Common.{ap, length, arith}
use Rattle.game_core.specs.TreeGame.{game_of_tree}
use Rattle.behaviour_profile.proofs.TreeGroupLemmas.{total-next, total-within}
use Rattle.behaviour_profile.proofs.entries.is_count.Goals as goal

pub returns-in-None : goal.returns-in-None
returns-in-None c =
    let within = total-within (game_of_tree c.args.tree.now) c.loop-player.player (omega (arith, c.loop-player-test.true, ap length c.players-player-end.ensures.players)) in
    (λ no. absurd (cc), λ same. absurd (omega (arith, same, within, c.loop-player.invariant, c.in-None.ensures)))

pub loop-player-preserved : goal.loop-player-preserved
loop-player-preserved c = omega (arith, total-next (game_of_tree c.args.tree.now) c.loop-player.player, c.loop-player.invariant, c.in-Some.ensures)
