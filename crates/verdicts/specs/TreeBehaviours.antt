-- What the check of a behaviour on a tree reads.
use Rattle.std.specs.Prelude.{ℕ, ◌+◌, ◌<◌, ◌≤◌, ◌≡◌, List, length, map, slice_index, Some}
use Rattle.rational.specs.Rational.{ℚ}
use Rattle.rational.specs.Sum.{entry_at}
use Rattle.game_theory.specs.Trees.{Tree, IsTree}
use Rattle.game_theory.specs.Behaviour.{Behaviour}
use Rattle.game_theory.specs.Children.{AreChildren}
use Rattle.game_core.specs.TreeGame.{game_of_tree}
use Rattle.verdicts.specs.declared.trees_behaviour.PlayedBehaviour.{PlayedBehaviour}

-- a game tree, its nodes' children, and at each player's set the place of its first entry, after
-- which there are as many entries as the set has actions
pub record IsPlayed (t : Tree) (children : List (List ℕ)) (starts : List ℕ)
    (entries : List ℚ) : Type 0 where
  pub tree : IsTree t
  pub children_are : AreChildren t children
  pub starts_long : length starts ≡ t.sets
  pub entries_within : (s i : ℕ) → s < t.sets → t.owner s ≡ Some i
      → slice_index starts s + t.actions s ≤ length entries

-- the game of the tree
abbrev pub game_of : PlayedBehaviour → Tree
game_of played = game_of_tree played.tree.now

-- the parts of a played behaviour fit
abbrev pub IsPlayedBehaviour : PlayedBehaviour → Type 0
IsPlayedBehaviour played =
    IsPlayed (game_of played) (map (λ v. v.items) played.children.now) played.starts.now
    played.entries.now

-- the entries that are played are the probabilities of behaviour b
abbrev pub Reads : PlayedBehaviour → Behaviour → Type 0
Reads played b =
    (s i a : ℕ) → s < (game_of played).sets → (game_of played).owner s ≡ Some i
    → a < (game_of played).actions s
    → entry_at played.entries.now (slice_index played.starts.now s + a) ≡ b s a
