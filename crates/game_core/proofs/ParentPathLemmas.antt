-- In prefix order a node's parent is the node before it, or stands above that; so a subtree is one run of numbers.
use Rattle.std.proofs.Common.{◌≡◌, ◌<◌, ◌≤◌, ◌+◌, ◌-◌, ◌∙◌, inl, inr, sym, ap, subst, refl, ℕ, zero, suc, Some, None, List, [], ◌∷◌, ◌++◌, length, map, get_or, arith}
use Rattle.std.specs.Prelude.{unwrap_or}
use Rattle.std.proofs.lemmas.Bool.{cases_eq}
use Rattle.game_theory.specs.Trees.{Tree, IsAbove, IsTree, IsWithin}
use Rattle.game_theory.proofs.SubtreeOrderLemmas.{within-parent, within-trans}
use Rattle.game_core.specs.declared.tree.Node.{Node}
use Rattle.game_core.specs.Tree.{GameTree, IsGameTree, InformationSet, OpenBranch, AreInPrefixOrder, action_count, branches_from}
use Rattle.game_core.specs.TreeGame.{game_of_tree}

-- Open branches after node m: the first is one of a node on the path to m, and each further one of a node on the path to the node of
-- the branch before it.
abbrev AreAbove : Tree → ℕ → List OpenBranch → Type 0
AreAbove t m [] = Unit {0}
AreAbove t m (branch ∷ branches) = (q : ℕ) × (branch.0 ≡ Some q) × IsWithin t q m × AreAbove t q branches

-- so are they after a child of the node
above-child : (t : Tree) (m k : ℕ) (branches : List OpenBranch) → 0 < k → t.parent k ≡ m → AreAbove t m branches → AreAbove t k branches
above-child t m k [] later is h = tt
above-child t m k (branch ∷ branches) later is h = (h.0, h.1, (suc h.2.0, (later, subst (IsAbove t h.2.0 h.0) (sym is) h.2.1)), h.3)

-- and after branches of the node's own
above-own : (t : Tree) (k a n : ℕ) (branches : List OpenBranch) → AreAbove t k branches → AreAbove t k (branches_from (Some k) a n ++ branches)
above-own t k a zero branches h = h
above-own t k a (suc n) branches h = (k, refl, (0, refl), above-own t k (a + 1) n branches h)

-- nodes in prefix order, numbered from suc m on
parent-above :
    (t : Tree) (sets : List InformationSet) (m : ℕ) (nodes : List Node) (branches : List OpenBranch) → AreInPrefixOrder sets (suc m) nodes branches [] → AreAbove t m branches
    → ((j : ℕ) → j < length nodes → t.parent (suc m + j) ≡ unwrap_or (get_or (map (λ node. node.parent) nodes) j None) 0) → (j : ℕ) → j < length nodes → IsWithin t (t.parent (suc m + j)) (m + j)
parent-above t sets m [] branches order above reads j below = absurd (omega arith)
parent-above t sets m (node ∷ nodes) [] order above reads j below = absurd order
parent-above t sets m (node ∷ nodes) (branch ∷ branches) order above reads j below =
    let here : suc m ≡ suc m + 0 = omega arith in
    let is : t.parent (suc m) ≡ above.0 = ap t.parent here ∙ reads 0 (omega arith) ∙ ap (λ o. unwrap_or o 0) (ap (λ (p : OpenBranch). p.0) order.0 ∙ above.1) in
    let next = above-own t (suc m) 0 (action_count sets node.set) branches (above-child t above.0 (suc m) branches (omega arith) is above.3) in
    go is (parent-above t sets (suc m) nodes _ order.1 next (λ i l. let same : suc (suc m) + i ≡ suc m + suc i = omega arith in ap t.parent same ∙ reads (suc i) (omega arith))) j below
  where
    go : t.parent (suc m) ≡ above.0 → ((i : ℕ) → i < length nodes → IsWithin t (t.parent (suc (suc m) + i)) (suc m + i)) → (i : ℕ) → i < suc (length nodes) → IsWithin t (t.parent (suc m + i)) (m + i)
    go is later zero l =
        let here : suc m ≡ suc m + 0 = omega arith in
        let at_m : m ≡ m + 0 = omega arith in
        subst (λ x. IsWithin t (t.parent x) (m + 0)) here (subst (λ x. IsWithin t (t.parent (suc m)) x) at_m (subst (λ q. IsWithin t q m) (sym is) above.2))
    go is later (suc i) l =
        let one : suc (suc m) + i ≡ suc m + suc i = omega arith in
        let two : suc m + i ≡ m + suc i = omega arith in
        subst (λ x. IsWithin t (t.parent x) (m + suc i)) one (subst (λ x. IsWithin t (t.parent (suc (suc m) + i)) x) two (later i (omega arith)))

-- the same after the root
after_root :
    (t : Tree) (sets : List InformationSet) (nodes : List Node) → AreInPrefixOrder sets 0 nodes ((None, 0) ∷ []) []
    → ((j : ℕ) → j < length nodes → t.parent j ≡ unwrap_or (get_or (map (λ node. node.parent) nodes) j None) 0) → (j : ℕ) → suc j < length nodes → IsWithin t (t.parent (suc j)) j
after_root t sets [] order reads j below = absurd (omega arith)
after_root t sets (node ∷ nodes) order reads j below =
    let one : 1 + j ≡ suc j = omega arith in
    let none : 0 + j ≡ j = omega arith in
    let found = parent-above t sets 0 nodes _ order.1 (above-own t 0 0 (action_count sets node.set) [] tt) (λ i l. let same : 1 + i ≡ suc i = omega arith in ap t.parent same ∙ reads (suc i) (omega arith)) j (omega arith) in
    subst (λ x. IsWithin t (t.parent x) j) one (subst (λ x. IsWithin t (t.parent (1 + j)) x) none found)

-- the parent of a node of a tree
pub parent-on_path : (t : GameTree) (k : ℕ) → IsGameTree t → 0 < k → k < length t.nodes → IsWithin (game_of_tree t) ((game_of_tree t).parent k) (k - 1)
parent-on_path t zero valid later below = absurd (omega arith)
parent-on_path t (suc j) valid later below =
    let one : j ≡ suc j - 1 = omega arith in
    subst (IsWithin (game_of_tree t) ((game_of_tree t).parent (suc j))) one (after_root (game_of_tree t) t.sets t.nodes valid.in_prefix_order (λ i l. refl) j below)

-- a subtree has each node between its root and one of its nodes
pub within-between : (t : GameTree) (k c d : ℕ) → IsGameTree t → IsTree (game_of_tree t) → k ≤ c → c ≤ d → d < length t.nodes → IsWithin (game_of_tree t) k d → IsWithin (game_of_tree t) k c
within-between t k c d valid w low high below h = go d high below h
  where
    step : (e : ℕ) → k ≤ e → suc e < length t.nodes → IsWithin (game_of_tree t) k (suc e) → IsWithin (game_of_tree t) k e
    step e low below h =
        within-trans (game_of_tree t) k ((game_of_tree t).parent (suc e)) e ((within-parent (game_of_tree t) w k (suc e) (omega arith) (λ same. absurd (omega (arith, low, same)))).0 h)
        (let one : suc e - 1 ≡ e = omega arith in subst (IsWithin (game_of_tree t) ((game_of_tree t).parent (suc e))) one (parent-on_path t (suc e) valid (omega arith) below))

    go : (d : ℕ) → c ≤ d → d < length t.nodes → IsWithin (game_of_tree t) k d → IsWithin (game_of_tree t) k c
    go zero high below h = let same : 0 ≡ c = omega (arith, high) in subst (IsWithin (game_of_tree t) k) same h
    go (suc d) high below h = elim (cases_eq (suc d) c) [
      | inl same ↦ subst (IsWithin (game_of_tree t) k) same h
      | inr other ↦ go d (omega (arith, high, other)) (omega (arith, below)) (step d (omega (arith, low, high, other)) below h)
    ]
