use Rattle.std.proofs.Common.{◌≡◌, ◌+◌, ◌-◌, ◌*◌, All, length}
use Rattle.game_theory.specs.Children.{child}
use Rattle.rational.specs.Rational.{◌*ℚ◌}
use Rattle.rational.specs.Sum.{sum_to}
use Rattle.game_theory.specs.Behaviour.{pure, value}
use Rattle.pure_payoffs.specs.Plays.{choice_of, game_of}
use Rattle.pure_payoffs.specs.Shortcuts.{KeepShortcuts}
use Rattle.frac128.specs.Steps.{StepFits}
use Rattle.pure_payoffs.specs.Steps.{chance_steps, steps_at}
use Rattle.pure_payoffs.proofs.payoff.Play.+values.Given as goal

-- five times the number of nodes from this one on, and more for each call at the node
abbrev pub decreases-chance_value : goal.decreases-chance_value
decreases-chance_value l = 5 * (length l.self.now.tree.now.nodes - l.node)

abbrev pub decreases-value_at : goal.decreases-value_at
decreases-value_at l = 5 * (length l.self.now.tree.now.nodes - l.node) + 2

abbrev pub decreases-value : goal.decreases-value
decreases-value l = 5 * (length l.self.now.tree.now.nodes - l.node) + 3

abbrev pub decreases-value_after : goal.decreases-value_after
decreases-value_after l = 5 * (length l.self.now.tree.now.nodes - l.node) + 1

abbrev pub decreases-with_branch : goal.decreases-with_branch
decreases-with_branch l = 5 * (length l.self.now.tree.now.nodes - l.child) + 4

-- the shortcuts are kept, and the sum is over the actions so far, whose steps all fit
abbrev pub invariant-chance_value-loop-action : goal.invariant-chance_value-loop-action
invariant-chance_value-loop-action l =
    let t = game_of l.self in
    let choice = choice_of l.self in
    KeepShortcuts t choice l.entries
    × (l.sum ≡ sum_to l.action (λ a. t.chance l.set a *ℚ value t (pure choice) l.player (child t l.node a)))
    × All StepFits (chance_steps l.action (t.chance l.set) (λ a. value t (pure choice) l.player (child t l.node a)) (λ a. steps_at t choice l.player (child t l.node a)))
