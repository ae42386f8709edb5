use Rattle.std.proofs.Common.{map}
use Rattle.game_core.specs.TreeGame.{game_of_tree}
use Rattle.pure_payoffs.proofs.SettledPlaceLemmas.{HavePlaces}
use Rattle.pure_payoffs.proofs.settled.Settled.new.Given as goal

-- the places of the nodes so far
abbrev pub invariant-loop-node : goal.invariant-loop-node
invariant-loop-node l = HavePlaces (game_of_tree l.tree) l.node (map (λ v. v.items) l.places.items)
