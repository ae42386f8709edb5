use Rattle.pure_payoffs.specs.Plays.{choice_of, game_of}
use Rattle.pure_payoffs.specs.Shortcuts.{StandsFor}
use Rattle.std.proofs.Common.{◌-◌, length}
use Rattle.pure_payoffs.proofs.shortcuts.target.Given as goal

-- the node here stands for the first one
abbrev pub invariant-loop-next : goal.invariant-loop-next
invariant-loop-next l = StandsFor (game_of l.play) (choice_of l.play) l.node l.here

abbrev pub decreases-loop-next : goal.decreases-loop-next
decreases-loop-next l = length l.play.tree.now.nodes - l.here
