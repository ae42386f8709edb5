-- How many edges below the root nodes lie, where one more node comes.
use Rattle.std.proofs.Common.{◌≡◌, ℕ, zero, suc, ◌<◌, ◌≤◌, List, [], ◌∷◌, ◌++◌, length, Option, Some, None, inl, inr, refl, sym, ap, ◌∙◌, subst, length-append, arith}
use Rattle.std.proofs.lemmas.Bool.{cases_lt}
use Rattle.std.proofs.lemmas.Option.{slice_get_within}
use Rattle.lists.proofs.ElementLemmas.{slice_get-end, slice_get-longer}
use Rattle.game_core.specs.declared.tree.Node.{Node}
use Rattle.game_core.specs.Tree.{LiesBelowRoot, most_depth}

-- a node stays where it lies when others come
pub lies_longer : (nodes more : List Node) (d k : ℕ) → LiesBelowRoot nodes d k → LiesBelowRoot (nodes ++ more) d k
lies_longer nodes more zero k (node, here, root) = (node, slice_get-longer nodes more k node here, root)
lies_longer nodes more (suc d) k (node, parent, here, hangs, above) = (node, parent, slice_get-longer nodes more k node here, hangs, lies_longer nodes more d parent above)

-- a node lies in one depth
pub lies_once : (nodes : List Node) (d e k : ℕ) → LiesBelowRoot nodes d k → LiesBelowRoot nodes e k → d ≡ e
lies_once nodes zero zero k a b = refl
lies_once nodes zero (suc e) k (node, here, root) (other, parent, there, hangs, above) = absurd (let same : Some node ≡ Some other = sym here ∙ there in cc)
lies_once nodes (suc d) zero k (other, parent, there, hangs, above) (node, here, root) = absurd (let same : Some node ≡ Some other = sym here ∙ there in cc)
lies_once nodes (suc d) (suc e) k (node, parent, here, hangs, above) (other, step, there, falls, beyond) =
    let same : Some node ≡ Some other = sym here ∙ there in
    let one : parent ≡ step = cc in
    ap suc (lies_once nodes d e parent above (subst (LiesBelowRoot nodes e) (sym one) beyond))

-- what lies below the root is a node
pub lies_within : (nodes : List Node) (d k : ℕ) → LiesBelowRoot nodes d k → k < length nodes
lies_within nodes zero k (node, here, root) = slice_get_within nodes k node here
lies_within nodes (suc d) k (node, parent, here, hangs, above) = slice_get_within nodes k node here

-- how many edges below the root what hangs at a node lies; where it hangs at nothing it is the root
abbrev pub HangsAt : List Node → Option ℕ → ℕ → Type 0
HangsAt nodes None d = d ≡ 0
HangsAt nodes (Some k) d = (e : ℕ) × LiesBelowRoot nodes e k × (d ≡ suc e)

-- it stays so when other nodes come
pub hangs_longer : (nodes more : List Node) (place : Option ℕ) (d : ℕ) → HangsAt nodes place d → HangsAt (nodes ++ more) place d
hangs_longer nodes more None d h = h
hangs_longer nodes more (Some k) d (e, lies, below) = (e, lies_longer nodes more e k lies, below)

-- it hangs in one depth
pub hangs_once : (nodes : List Node) (place : Option ℕ) (d e : ℕ) → HangsAt nodes place d → HangsAt nodes place e → d ≡ e
hangs_once nodes None d e a b = a ∙ sym b
hangs_once nodes (Some k) d e (x, lies, below) (y, lie, under) = below ∙ ap suc (lies_once nodes x y k lies lie) ∙ sym under

-- a further node lies where it hangs
pub lies_new : (nodes : List Node) (node : Node) (place : Option ℕ) (d : ℕ) → node.parent ≡ place → HangsAt nodes place d → LiesBelowRoot (nodes ++ node ∷ []) d (length nodes)
lies_new nodes node None d e h = rw h (node, slice_get-end nodes node, e)
lies_new nodes node (Some k) d e (x, lies, below) = rw below (node, k, slice_get-end nodes node, e, lies_longer nodes (node ∷ []) x k lies)

-- each node lies below the root, with at most so many edges between
abbrev pub AllLie : List Node → Type 0
AllLie nodes = (k : ℕ) → k < length nodes → (d : ℕ) × LiesBelowRoot nodes d k × (d ≤ most_depth)

-- so does each with one more
pub all_lie_more : (nodes : List Node) (node : Node) (d : ℕ) → AllLie nodes → HangsAt nodes node.parent d → d ≤ most_depth → AllLie (nodes ++ node ∷ [])
all_lie_more nodes node d lie h few k lt = elim (cases_lt k (length nodes)) [
  | inl less ↦ let before = lie k less in (before.0, lies_longer nodes (node ∷ []) before.0 k before.1, before.2)
  | inr more ↦
      let same : length nodes ≡ k = omega (arith, length-append nodes (node ∷ [])) in
      (d, subst (LiesBelowRoot (nodes ++ node ∷ []) d) same (lies_new nodes node node.parent d refl h), few)
]

-- then no node lies deeper
pub few_edges_of : (nodes : List Node) (d k : ℕ) → AllLie nodes → LiesBelowRoot nodes d k → d ≤ most_depth
few_edges_of nodes d k lie h =
    let one = lie k (lies_within nodes d k h) in
    subst (λ x. x ≤ most_depth) (lies_once nodes one.0 d k one.1 h) one.2
