use Rattle.std.proofs.Common.{◌≡◌, All, length}
use Rattle.std.specs.List.{flat_map, range_with_len}
use Rattle.game_theory.specs.Behaviour.{Behaviour}
use Rattle.frac128.specs.Steps.{StepFits}
use Rattle.verdicts.specs.TreeBehaviours.{Reads, game_of}
use Rattle.verdicts.specs.TreeSteps.{weight_step}
use Rattle.verdicts.specs.TreeWeights.{AreWeights}
use Rattle.verdicts.proofs.trees_behaviour.PlayedBehaviour.set_weights.Given as goal

-- the nodes so far have their weights, and their steps fit
abbrev pub invariant-loop-node : goal.invariant-loop-node
invariant-loop-node l = (length l.weights ≡ length l.initial.weights) × ((b : Behaviour) → Reads l.self b →
    AreWeights (game_of l.self) b l.player l.weights l.node × All StepFits (flat_map (weight_step (game_of l.self) b l.player) (range_with_len 0 l.node)))
