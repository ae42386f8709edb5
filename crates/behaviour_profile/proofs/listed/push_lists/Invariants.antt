use Rattle.std.proofs.Common.{◌≡◌, ◌++◌, map, take}
use Rattle.game_theory.specs.OwnSets.{own_sets}
use Rattle.game_core.specs.TreeGame.{game_of_tree}
use Rattle.behaviour_profile.specs.ListedBehaviour.{listed_behaviour}
use Rattle.game_theory.specs.TreeEntries.{entries_at}
use Rattle.behaviour_profile.proofs.listed.push_lists.Given as goal

-- the probabilities at the sets so far are added
abbrev pub invariant-loop-set : goal.invariant-loop-set
invariant-loop-set l =
    let t = game_of_tree l.tree in
    l.entries.items ≡ l.initial.entries.items ++ entries_at t (listed_behaviour (map (λ v. v.items) l.lists)) (take l.set-index (own_sets t l.player))
