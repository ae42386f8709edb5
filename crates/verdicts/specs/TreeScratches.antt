-- Room for the check of a behaviour on a tree.
use Rattle.std.specs.Prelude.{ℕ, ◌≤◌, ◌≡◌, List, length, map, take}
use Rattle.game_theory.specs.Children.{AreChildren}
use Rattle.game_core.specs.Tree.{GameTree}
use Rattle.game_core.specs.TreeGame.{game_of_tree}
use Rattle.behaviour_profile.specs.EntryStarts.{AreStarts}
use Rattle.verdicts.specs.declared.scratch.Scratch.{Scratch}

-- the room is for this tree
pub record IsScratchOf (tree : GameTree) (scratch : Scratch) : Type 0 where
  pub children_are : AreChildren (game_of_tree tree) (map (λ v. v.items) scratch.children.items)
  pub starts_are : AreStarts (game_of_tree tree) scratch.starts.items
  pub weights_long : length scratch.weights.items ≡ length tree.nodes
  pub values_long : length scratch.values.items ≡ length tree.nodes
  pub choices_long : length scratch.choices.items ≡ length tree.sets
  pub reply_long : length scratch.reply.items ≡ length tree.sets
  pub replied_within : scratch.replied ≤ length tree.sets

-- the reply that was kept
abbrev pub reply_of : Scratch → List ℕ
reply_of scratch = take scratch.replied scratch.reply.items

-- the numbers at the sets that were written last
abbrev pub choices_of : Scratch → List ℕ
choices_of scratch = scratch.choices.items
