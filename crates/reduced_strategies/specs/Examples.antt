-- A tree of one player worked out, under two numberings of its sets.
use Rattle.std.specs.Prelude.{[], ◌∷◌, Some, pos}
use Rattle.game_theory.specs.Trees.{Tree, IsTree}
use Rattle.game_theory.specs.TreeExamples.{tree_of, inner, end}
use Rattle.reduced_strategies.specs.Choices.{AreReducedStrategies}

-- A player ends the game (action 0) or goes on (action 1) at set 0, and then has two actions at set
-- 1.
abbrev pub one_player_tree : Tree
one_player_tree = tree_of 1
    (inner 0 0 0 ∷ end 0 0 (pos 3 ∷ []) ∷ inner 0 1 1 ∷ end 2 0 (pos 1 ∷ []) ∷ end 2 1 (pos 2 ∷ [])
    ∷ [])
    (Some 0 ∷ Some 0 ∷ [])

-- the same tree with the numbers of its two sets exchanged
abbrev pub renumbered : Tree
renumbered = tree_of 1
    (inner 0 0 1 ∷ end 0 0 (pos 3 ∷ []) ∷ inner 0 1 0 ∷ end 2 0 (pos 1 ∷ []) ∷ end 2 1 (pos 2 ∷ [])
    ∷ [])
    (Some 0 ∷ Some 0 ∷ [])

-- The reduced strategies are 1*, 21 and 22, in this order. Under the other numbers they are *1, 12
-- and 22: there `*` stands before the actions of one set.
pub record ReducedStrategiesOfOnePlayer : Type 0 where
  pub tree : IsTree one_player_tree
  pub strategies : AreReducedStrategies one_player_tree 0
      ((1 ∷ 0 ∷ []) ∷ (2 ∷ 1 ∷ []) ∷ (2 ∷ 2 ∷ []) ∷ [])
  pub renumbered_tree : IsTree renumbered
  pub renumbered_strategies : AreReducedStrategies renumbered 0
      ((0 ∷ 1 ∷ []) ∷ (1 ∷ 2 ∷ []) ∷ (2 ∷ 2 ∷ []) ∷ [])
