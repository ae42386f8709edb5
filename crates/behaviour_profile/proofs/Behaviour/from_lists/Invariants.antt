use Rattle.std.proofs.Common.{◌≡◌, map}
use Rattle.game_theory.specs.TreeEntries.{entries_at}
use Rattle.game_core.specs.TreeGame.{game_of_tree}
use Rattle.behaviour_profile.specs.EntryStarts.{sets_below}
use Rattle.behaviour_profile.specs.ListedBehaviour.{listed_behaviour}
use Rattle.behaviour_profile.proofs.Behaviour.from_lists.Given as goal

-- the entries of the players so far
abbrev pub invariant-loop-player : goal.invariant-loop-player
invariant-loop-player l =
    let t = game_of_tree l.tree in
    l.entries.items ≡ entries_at t (listed_behaviour (map (λ v. v.items) l.lists)) (sets_below t l.player)
