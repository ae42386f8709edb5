use Rattle.std.proofs.Common.{◌≡◌}
use Rattle.game_theory.specs.TreeEntries.{entries_at}
use Rattle.game_theory.specs.Behaviour.{pure}
use Rattle.game_core.specs.TreeGame.{game_of_tree}
use Rattle.reduced_strategies.specs.StrategicForm.{completed}
use Rattle.behaviour_profile.specs.EntryStarts.{sets_below}
use Rattle.behaviour_profile.proofs.Behaviour.from_reduced.Given as goal

abbrev pub invariant-loop-player : goal.invariant-loop-player
invariant-loop-player l =
    let t = game_of_tree l.tree in
    l.entries.items ≡ entries_at t (pure (completed t l.reduced.choices l.profile)) (sets_below t l.player)
