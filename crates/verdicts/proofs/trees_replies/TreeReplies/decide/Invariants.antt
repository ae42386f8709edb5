use Rattle.std.proofs.Common.{◌≡◌, ◌<◌, ℕ, suc, length}
use Rattle.game_theory.specs.Behaviour.{Behaviour}
use Rattle.verdicts.specs.TreeReplies.{AreDecided, tree_game_at}
use Rattle.verdicts.proofs.TreeDecisionLemmas.{AreWeighed}
use Rattle.verdicts.proofs.trees_replies.TreeReplies.decide.Given as goal

-- the actions so far are weighed
abbrev pub invariant-loop-action : goal.invariant-loop-action
invariant-loop-action l = (length l.values ≡ length l.initial.values) × (l.best < (tree_game_at l.self).actions l.set) × ((b : Behaviour) (choice : ℕ → ℕ) →
    AreDecided (tree_game_at l.self) b l.self.player choice l.self.weights.now l.choices l.initial.values (suc l.set) 0
    → AreWeighed (tree_game_at l.self) b l.self.player choice l.self.weights.now l.choices l.values l.set l.action l.best l.most)
