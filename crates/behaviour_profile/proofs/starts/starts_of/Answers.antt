use Rattle.std.proofs.Common.{◌≡◌, ap, subst, length, arith}
use Rattle.game_core.specs.TreeGame.{game_of_tree}
use Rattle.behaviour_profile.specs.EntryStarts.{AreStartsOf, sets_below}
use Rattle.behaviour_profile.proofs.starts.starts_of.Goals as goal

pub returns : goal.returns
returns c =
    let t = game_of_tree c.args.tree.now in
    let all : c.loop-player.player ≡ length c.args.tree.now.players = omega (arith, ap length c.players-player-end.ensures.players) in
    subst (λ n. AreStartsOf t (sets_below t n) c.loop-player.starts.items) all c.loop-player.invariant.1
