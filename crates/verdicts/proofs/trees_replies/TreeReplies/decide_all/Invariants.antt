use Rattle.std.proofs.Common.{◌≡◌, ◌++◌, ℕ, List, length}
use Rattle.std.specs.Iterator.Adapters.{rev_source}
use Rattle.std.specs.Slice.Iter.{iter_rest}
use Rattle.game_theory.specs.Behaviour.{Behaviour}
use Rattle.game_theory.specs.OwnSets.{own_sets}
use Rattle.verdicts.specs.TreeReplies.{IsChoiceList, AreDecided, tree_game_at}
use Rattle.verdicts.proofs.TreeOwnSetLemmas.{AreAllDecided}
use Rattle.verdicts.proofs.trees_replies.TreeReplies.decide_all.Given as goal

-- the own sets after those that are left are decided
abbrev pub invariant-loop-set : goal.invariant-loop-set
invariant-loop-set l =
    let left = iter_rest (rev_source l.set-iterator) in
    record {
      choices : IsChoiceList (tree_game_at l.self) l.self.player l.choices;
      later : List ℕ;
      own : left ++ later ≡ own_sets (tree_game_at l.self) l.self.player;
      decided : (b : Behaviour) (choice : ℕ → ℕ)
          → AreDecided (tree_game_at l.self) b l.self.player choice l.self.weights.now l.initial.choices l.initial.values (length l.self.tree.now.sets) 0
          → AreAllDecided (tree_game_at l.self) b l.self.player choice l.self.weights.now l.choices l.values left later;
    }
