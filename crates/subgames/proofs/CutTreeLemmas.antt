-- The parts of a tree that a cut is made of.
use Rattle.std.proofs.Common.{ℕ, ◌<◌, ◌≡◌, inl, inr, None, List, [], ◌∷◌, length, map, get_or, refl, ap, ◌∙◌, arith}
use Rattle.std.specs.Prelude.{unwrap_or}
use Rattle.std.proofs.lemmas.Bool.{cases_eq}
use Rattle.game_core.specs.declared.tree.Node.{Node}
use Rattle.game_core.specs.Tree.{AreInPrefixOrder, GameTree, InformationSet, IsGameTree}
use Rattle.game_core.specs.TreeGame.{game_of_tree}
use Rattle.game_theory.specs.Trees.{IsTree}

-- a root hangs nowhere
root-parent : (sets : List InformationSet) (nodes : List Node) → AreInPrefixOrder sets 0 nodes ((None, 0) ∷ []) [] → unwrap_or (get_or (map (λ node. node.parent) nodes) 0 None) 0 ≡ 0
root-parent sets [] h = refl
root-parent sets (node ∷ nodes) h = ap (λ p. unwrap_or p.0 0) h.0

-- each node's parent is a node: the root stands in its own place
pub parent-within : (t : GameTree) (k : ℕ) → IsGameTree t → IsTree (game_of_tree t) → k < length t.nodes → (game_of_tree t).parent k < length t.nodes
parent-within t k valid w below = elim (cases_eq k 0) [
  | inl same ↦ let is : (game_of_tree t).parent k ≡ 0 = ap (game_of_tree t).parent same ∙ root-parent t.sets t.nodes valid.in_prefix_order in omega (arith, is, below)
  | inr other ↦ omega (arith, w.after_parent k (omega (arith, other)) below, below)
]
