use Rattle.std.proofs.Common.{◌≡◌, ◌+◌, ◌-◌, ◌*◌, ℕ, All, length}
use Rattle.rational.specs.Sum.{sum_to}
use Rattle.game_theory.specs.Behaviour.{Behaviour}
use Rattle.game_theory.specs.Children.{child}
use Rattle.frac128.specs.Steps.{StepFits, sum_steps}
use Rattle.verdicts.specs.TreeReplies.{AreDecided, OwnSetsFrom, tree_game_at}
use Rattle.verdicts.specs.TreeSteps.{child_value, reply_steps}
use Rattle.verdicts.proofs.trees_replies.TreeReplies.+values.Given as goal

-- three times the number of nodes from this one on, and more for each call at the node
abbrev pub decreases-children_sum : goal.decreases-children_sum
decreases-children_sum l = 3 * (length l.self.now.tree.now.nodes - l.node)

abbrev pub decreases-value_after : goal.decreases-value_after
decreases-value_after l = 3 * (length l.self.now.tree.now.nodes - l.node) + 1

abbrev pub decreases-value : goal.decreases-value
decreases-value l = 3 * (length l.self.now.tree.now.nodes - l.node) + 2

-- the sum is over the actions so far, whose steps all fit
abbrev pub invariant-children_sum-loop-action : goal.invariant-children_sum-loop-action
invariant-children_sum-loop-action l = (b : Behaviour) (choice : ℕ → ℕ) (first : ℕ) →
    let t = tree_game_at l.self in
    let i = l.self.player in
    AreDecided t b i choice l.self.weights.now l.choices l.values first 0 → OwnSetsFrom t i l.node first
    → (l.sum ≡ sum_to l.action (child_value t b i choice l.node)) × All StepFits (sum_steps l.action (child_value t b i choice l.node) (λ a. reply_steps t b i choice (child t l.node a)))
