use Rattle.std.proofs.Common.{◌≡◌, map}
use Rattle.game_core.specs.TreeGame.{game_of_tree}
use Rattle.game_theory.specs.Behaviour.{Behaviour}
use Rattle.game_theory.specs.TreeEntries.{tree_entries}
use Rattle.two_player_tools.specs.KnownCuts.{AreKeptTo}
use Rattle.two_player_tools.proofs.perfect.keep_lists.Given as goal

-- the sets so far are kept
abbrev pub invariant-loop-set : goal.invariant-loop-set
invariant-loop-set l = (b : Behaviour) → l.behaviour ≡ tree_entries (game_of_tree l.cut.tree) b
    → AreKeptTo l.cut l.set b (map (λ v. v.items) l.fn.lists) (map (λ v. v.items) l.lists)
