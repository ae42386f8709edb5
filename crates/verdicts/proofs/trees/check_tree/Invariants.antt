use Rattle.std.proofs.Common.{◌≡◌, ◌<◌, ℕ, []}
use Rattle.game_theory.specs.Behaviour.{Behaviour}
use Rattle.game_theory.specs.TreeEntries.{tree_entries}
use Rattle.game_core.specs.TreeGame.{game_of_tree}
use Rattle.verdicts.specs.TreeScratches.{IsScratchOf, reply_of}
use Rattle.verdicts.specs.TreeVerdicts.{PassesTree}
use Rattle.verdicts.proofs.trees.check_tree.Given as goal

-- no player so far has a better reply
abbrev pub invariant-loop-player : goal.invariant-loop-player
invariant-loop-player l =
    IsScratchOf l.tree l.scratch × (reply_of l.scratch ≡ [])
    × ((b : Behaviour) → l.behaviour ≡ tree_entries (game_of_tree l.tree) b → (j : ℕ) → j < l.player → PassesTree (game_of_tree l.tree) b j)
