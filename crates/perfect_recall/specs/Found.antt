-- What is found of perfect recall in a tree.
use Rattle.std.specs.Prelude.{ℕ, ◌<◌, ◌≡◌, ◌≢◌, List, map, slice_get, Option, Some, None, Ok, Err}
use Rattle.std.specs.List.{range_with_len}
use Rattle.answers.specs.Answers.{Answer}
use Rattle.game_theory.specs.Trees.{Tree}
use Rattle.game_theory.specs.Recall.{AllRecall, own_history, HasPerfectRecall, HaveOneHistory}
use Rattle.sequence_forms.specs.Sequences.{last_edge, history_before}
use Rattle.game_core.specs.Tree.{GameTree, InformationSet}
use Rattle.game_core.specs.TreeGame.{game_of_tree}
use Rattle.perfect_recall.specs.declared.recall.Forgets.{Forgets}
use Rattle.perfect_recall.specs.declared.recall.RecallStop.{RecallStop}
use Rattle.perfect_recall.specs.declared.recall.RecallStop.TheVariants as stops

-- ---- a tree in which the players recall
-- the last own set and action before set s, by its owner; none at a set of chance
abbrev pub edge_before : Tree → ℕ → Option ℕ → Option (ℕ × ℕ)
edge_before t s None = None
edge_before t s (Some i) = last_edge (history_before t i s)

-- each player has perfect recall, and these are the edges before the sets
pub record IsRecallOf (t : Tree) (before : List (Option (ℕ × ℕ))) : Type 0 where
  pub all_recall : AllRecall t
  pub before_is : before ≡ map (λ s. edge_before t s (t.owner s)) (range_with_len 0 t.sets)

-- ---- a player who forgets
-- the nodes of each of player i's own sets before set s have one own history
abbrev pub EarlierHaveOneHistory : Tree → ℕ → ℕ → Type 0
EarlierHaveOneHistory t i s = (r : ℕ) → r < s → t.owner r ≡ Some i → HaveOneHistory t i r

-- node k is the first of set s
pub record IsFirstNode (t : Tree) (s k : ℕ) : Type 0 where
  pub within : k < t.size
  pub in_set : t.set k ≡ Some s
  pub none_before : (l : ℕ) → l < k → t.set l ≢ Some s

-- node l is the first of set s whose own history for player i is another than that of node k
pub record IsFirstOther (t : Tree) (i s k l : ℕ) : Type 0 where
  pub within : l < t.size
  pub in_set : t.set l ≡ Some s
  pub other : own_history t i l ≢ own_history t i k
  pub same_before : (m : ℕ) → m < l → t.set m ≡ Some s → own_history t i m ≡ own_history t i k

-- Player f.player forgets at the first of the player's sets with nodes of different own histories.
-- It is named as a file numbers it, with its first node and its first node with another own
-- history.
pub record ForgetsAt (t : GameTree) (f : Forgets) : Type 0 where
  pub number : ℕ
  pub set : InformationSet
  pub stands_at : slice_get t.sets number ≡ Some set
  pub own : set.owner ≡ Some f.player
  pub sets_before : EarlierHaveOneHistory (game_of_tree t) f.player number
  pub label_is : f.set ≡ set.label
  pub first_is : IsFirstNode (game_of_tree t) number f.first_node
  pub second_is : IsFirstOther (game_of_tree t) f.player number f.first_node f.second_node

-- the first player who forgets, and where
pub record IsForgetting (t : GameTree) (f : Forgets) : Type 0 where
  pub players_before : (i : ℕ) → i < f.player → HasPerfectRecall (game_of_tree t) i
  pub forgets : ForgetsAt t f

-- ---- the answer
-- what a tree has: the edges before its sets, where all recall, or who forgets first, and where
abbrev pub recall_of : GameTree → Answer RecallStop (List (Option (ℕ × ℕ)))
recall_of t (Ok before) = IsRecallOf (game_of_tree t) before
recall_of t (Err (stops.Forgets forgets)) = IsForgetting t forgets
recall_of t (Err stops.Memory) = ⊥
