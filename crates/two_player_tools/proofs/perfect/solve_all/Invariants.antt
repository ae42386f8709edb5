use Rattle.std.proofs.Common.{◌≤◌, length}
use Rattle.two_player_tools.specs.KnownCuts.{AreSolvedFrom}
use Rattle.two_player_tools.proofs.perfect.solve_all.Given as goal

-- the cuts from here on are solved
abbrev pub invariant-loop-root : goal.invariant-loop-root
invariant-loop-root l = record {
  within : l.root ≤ length l.tree.nodes;
  solved : AreSolvedFrom l.method l.tree l.root l.known;
}

abbrev pub decreases-loop-root : goal.decreases-loop-root
decreases-loop-root l = l.root
