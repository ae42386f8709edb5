use Rattle.std.proofs.Common.{◌≡◌, ◌+◌, ◌-◌, ◌*◌, All, length}
use Rattle.game_theory.specs.Children.{child}
use Rattle.rational.specs.Rational.{◌*ℚ◌}
use Rattle.rational.specs.Sum.{sum_to}
use Rattle.game_theory.specs.Behaviour.{Behaviour, action_probability, value}
use Rattle.frac128.specs.Steps.{StepFits}
use Rattle.pure_payoffs.specs.Steps.{chance_steps}
use Rattle.verdicts.specs.TreeBehaviours.{Reads, game_of}
use Rattle.verdicts.specs.TreeSteps.{behaviour_steps_at}
use Rattle.verdicts.proofs.trees_behaviour.PlayedBehaviour.+values.Given as goal

-- three times the number of nodes from this one on, and more for each call at the node
abbrev pub decreases-value_after : goal.decreases-value_after
decreases-value_after l = 3 * (length l.self.now.tree.now.nodes - l.node)

abbrev pub decreases-value : goal.decreases-value
decreases-value l = 3 * (length l.self.now.tree.now.nodes - l.node) + 1

abbrev pub decreases-with_branch : goal.decreases-with_branch
decreases-with_branch l = 3 * (length l.self.now.tree.now.nodes - l.child) + 2

-- the sum is over the actions so far, whose steps all fit
abbrev pub invariant-value_after-loop-action : goal.invariant-value_after-loop-action
invariant-value_after-loop-action l = (b : Behaviour) → Reads l.self b →
    let t = game_of l.self in
    (l.sum ≡ sum_to l.action (λ a. action_probability t b l.set a *ℚ value t b l.player (child t l.node a)))
    × All StepFits (chance_steps l.action (action_probability t b l.set) (λ a. value t b l.player (child t l.node a)) (λ a. behaviour_steps_at t b l.player (child t l.node a)))
