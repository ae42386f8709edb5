use Rattle.std.proofs.Common.{map}
use Rattle.game_core.specs.TreeGame.{game_of_tree}
use Rattle.behaviour_profile.specs.ListedBehaviour.{listed_behaviour}
use Rattle.behaviour_profile.proofs.BehaviourEntryLemmas.{entries_below-next}
use Rattle.behaviour_profile.proofs.Behaviour.from_lists.Goals as goal

pub loop-player-preserved : goal.loop-player-preserved
loop-player-preserved c =
    entries_below-next (game_of_tree c.args.tree.now) (listed_behaviour (map (λ v. v.items) c.args.lists.now)) _ c.loop-player.entries.items c.loop-player.player c.loop-player.invariant (c.in_ok-push_lists.ensures {u = tt})
