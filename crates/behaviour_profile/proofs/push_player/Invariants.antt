use Rattle.std.proofs.Common.{◌≡◌, ◌++◌, take}
use Rattle.game_theory.specs.OwnSets.{own_sets}
use Rattle.game_theory.specs.Behaviour.{pure}
use Rattle.game_core.specs.TreeGame.{game_of_tree}
use Rattle.behaviour_profile.specs.FirstActions.{first_for_none}
use Rattle.game_theory.specs.TreeEntries.{entries_at}
use Rattle.behaviour_profile.proofs.push_player.Given as goal

abbrev pub invariant-loop-place : goal.invariant-loop-place
invariant-loop-place l =
    let t = game_of_tree l.tree in
    l.entries.items ≡ l.initial.entries.items ++ entries_at t (pure (first_for_none t l.player l.strategy)) (take l.place (own_sets t l.player))
