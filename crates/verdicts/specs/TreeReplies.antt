-- A player's replies while the player's sets are decided from the last to the first.
use Rattle.std.specs.Prelude.{ℕ, suc, ◌<◌, ◌≤◌, ◌≡◌, ◌⊎◌, List, length, map, slice_index, Some}
use Rattle.rational.specs.Rational.{ℚ}
use Rattle.rational.specs.Sum.{entry_at}
use Rattle.frac128.specs.Steps.{Step}
use Rattle.game_theory.specs.Trees.{Tree, IsTree, IsWithin}
use Rattle.game_theory.specs.Behaviour.{Behaviour, IsChoice}
use Rattle.game_theory.specs.Children.{AreChildren}
use Rattle.game_core.specs.TreeGame.{game_of_tree}
use Rattle.best_replies.specs.Order.{AgreeFrom, AscendOnPaths}
use Rattle.best_replies.specs.Replies.{reply_value, AreBestChoices}
use Rattle.verdicts.specs.declared.trees_replies.TreeReplies.{TreeReplies}
use Rattle.verdicts.specs.TreeSteps.{after_steps, after_sum, reply_steps}
use Rattle.verdicts.specs.TreeWeights.{AreWeights}

-- a game tree, its nodes' children, a weight for each node, and one of its players
pub record AreReplies (t : Tree) (children : List (List ℕ)) (weights : List ℚ)
    (i : ℕ) : Type 0 where
  pub tree : IsTree t
  pub children_are : AreChildren t children
  pub weights_long : length weights ≡ t.size
  pub player_within : i < t.players

-- the game of the tree
abbrev pub tree_game_at : TreeReplies → Tree
tree_game_at r = game_of_tree r.tree.now

-- the parts of a player's replies fit
abbrev pub AreTreeReplies : TreeReplies → Type 0
AreTreeReplies r =
    AreReplies (tree_game_at r) (map (λ v. v.items) r.children.now) r.weights.now r.player

-- a number for each set, which at each own set of player i is one of its actions
pub record IsChoiceList (t : Tree) (i : ℕ) (choices : List ℕ) : Type 0 where
  pub long : length choices ≡ t.sets
  pub within : IsChoice t i (slice_index choices)

-- player i's own sets in the subtree of node k have this number or greater ones
abbrev pub OwnSetsFrom : Tree → ℕ → ℕ → ℕ → Type 0
OwnSetsFrom t i k first =
    (c s : ℕ) → IsWithin t k c → c < t.size → t.set c ≡ Some s → t.owner s ≡ Some i → first ≤ s

-- an action has been computed: its set is the first one or a later one, or the one before and the
-- action is among its first n
abbrev pub IsComputed : ℕ → ℕ → ℕ → ℕ → Type 0
IsComputed first n s a = (first ≤ s) ⊎ ((suc s ≡ first) × (a < n))

-- The best choices of player i's own sets from this first one on are made, and the reply values
-- after them are known, as well as those after the first n actions of the set before.
pub record AreDecided (t : Tree) (b : Behaviour) (i : ℕ) (choice : ℕ → ℕ) (weights : List ℚ)
    (choices : List ℕ) (values : List ℚ) (first n : ℕ) : Type 0 where
  pub best : AreBestChoices t b i choice
  pub ascend : AscendOnPaths t i
  pub weights_are : AreWeights t b i weights t.size
  pub choices_are : AgreeFrom t i (slice_index choices) choice first
  pub values_are : (c s : ℕ) → 0 < c → c < t.size → t.set (t.parent c) ≡ Some s → t.owner s ≡ Some i
      → IsComputed first n s (t.branch c)
      → entry_at values c ≡ reply_value t b i choice c

-- the choices at player i's own sets are these
abbrev pub AreChosen : Tree → ℕ → (ℕ → ℕ) → List ℕ → Type 0
AreChosen t i choice choices = AgreeFrom t i (slice_index choices) choice 0

-- the steps of the sum after a node
abbrev pub after_steps_at : Tree → Behaviour → ℕ → (ℕ → ℕ) → ℕ → List Step
after_steps_at t b i choice k = after_steps t b i choice (reply_steps t b i choice) k (t.set k)

-- that sum
abbrev pub after_sum_at : Tree → Behaviour → ℕ → (ℕ → ℕ) → ℕ → ℚ
after_sum_at t b i choice k = after_sum t b i choice k (t.set k)
