use Rattle.std.proofs.Common.{◌≡◌, ℕ, suc, length}
use Rattle.game_theory.specs.Behaviour.{Behaviour}
use Rattle.verdicts.specs.TreeReplies.{AreDecided, tree_game_at}
use Rattle.verdicts.proofs.TreeMemberLemmas.{AreSummed}
use Rattle.verdicts.proofs.trees_replies.TreeReplies.action_value.Given as goal

-- the action's values at the members so far are known, and the sum is over these
abbrev pub invariant-loop-member : goal.invariant-loop-member
invariant-loop-member l = (length l.values ≡ length l.initial.values) × ((b : Behaviour) (choice : ℕ → ℕ) →
    AreDecided (tree_game_at l.self) b l.self.player choice l.self.weights.now l.choices l.initial.values (suc l.set) l.action
    → AreSummed (tree_game_at l.self) b l.self.player choice l.self.weights.now l.choices l.values l.set l.action l.member-index l.sum)
