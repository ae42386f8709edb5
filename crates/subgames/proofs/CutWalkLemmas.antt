-- The nodes of a cut, as they are found one after another.
use Rattle.std.proofs.Common.{ℕ, ◌<◌, ◌≤◌, ◌≡◌, ◌≢◌, ◌⊎◌, inl, inr, Bool, true, false, cond, not, Option, Some, None, List, length, get_or, refl, sym, ap, ◌∙◌, subst, arith}
use Rattle.std.specs.Prelude.{◌↔◌, All, IsTrue, Contains, is_some}
use Rattle.std.proofs.lemmas.Bool.{cases_eq, eq-eqb}
use Rattle.std.proofs.lemmas.List.Elements.{Contains-get_or}
use Rattle.lists.proofs.NumberLemmas.{unequal}
use Rattle.game_theory.specs.Trees.{Tree, IsTree, IsWithin}
use Rattle.subgames.specs.CutGames.{IsGivenEnd, IsInCut}
use Rattle.lists.specs.Listed.{AreListed, IsIndexOf}
use Rattle.lists.proofs.ListedLemmas.{index-none}
use Rattle.subgames.specs.CutParts.{AreIndicesIn, is_given_end}
use Rattle.subgames.specs.FoundSubgames.{AreRootMarks}
use Rattle.subgames.specs.Roots.{IsSubgameRoot}
use Rattle.game_theory.proofs.SubtreeOrderLemmas.{within-after, within-parent}

-- ---- the nodes of a cut
-- the nodes of the cut at node n, and for each node of the tree its index among them
pub record AreCutNodes (t : Tree) (n : ℕ) (nodes : List ℕ) (indices : List (Option ℕ))
    : Type 0 where
  pub are_nodes : AreListed (IsInCut t n) nodes
  pub no_more : length nodes ≤ t.size
  pub indices_are : AreIndicesIn nodes t.size indices

-- ---- which nodes stand in a cut
module _ (t : Tree) (w : IsTree t) (n : ℕ) where
  -- no node of a cut comes before its root
  pub cut-after : (k : ℕ) → IsInCut t n k → n ≤ k
  cut-after k h = within-after t w n k h.0 h.1

  -- the root stands in its cut
  pub cut-root : n < t.size → IsInCut t n n
  cut-root below = (below, (0, refl), λ m root h later. let up = within-after t w n m (omega (arith, within-after t w m n below later, below)) h in inl (omega (arith, up, within-after t w m n below later)))

  module _ (k : ℕ) (below : k < t.size) (later : n < k) where
    before : t.parent k < k
    before = w.after_parent k (omega arith) below

    -- a later node's parent stands there too and is no given end ..
    pub cut-up : IsInCut t n k → IsInCut t n (t.parent k) × (IsGivenEnd t n (t.parent k) → ⊥)
    cut-up h = ((omega (arith, before), up, between), λ end. elim (h.2 (t.parent k) end.0 up over) [ inl same ↦ end.1 same | inr own ↦ absurd (omega (arith, before, own)) ])
      where
        up : IsWithin t n (t.parent k)
        up = (within-parent t w n k (omega arith) (λ e. absurd (omega arith))).0 h.1

        over : IsWithin t (t.parent k) k
        over = (1, (omega arith, refl))

        between : (m : ℕ) → IsSubgameRoot t m → IsWithin t n m → IsWithin t m (t.parent k) → (m ≡ n) ⊎ (m ≡ t.parent k)
        between m root from to =
            let early = within-after t w m (t.parent k) (omega (arith, before)) to in
            elim (h.2 m root from ((within-parent t w m k (omega arith) (λ e. absurd (omega (arith, before, early, e)))).1 to)) [
              | inl first ↦ inl first
              | inr own ↦ absurd (omega (arith, before, early, own))
            ]

    -- .. and below such a parent a node stands in the cut
    pub cut-down : IsInCut t n (t.parent k) → (IsGivenEnd t n (t.parent k) → ⊥) → IsInCut t n k
    cut-down h goes_on = (below, (within-parent t w n k (omega arith) (λ e. absurd (omega arith))).1 h.1, between)
      where
        between : (m : ℕ) → IsSubgameRoot t m → IsWithin t n m → IsWithin t m k → (m ≡ n) ⊎ (m ≡ k)
        between m root from to = elim (cases_eq m k) [
          | inl own ↦ inr own
          | inr other ↦ elim (cases_eq m n) [
            | inl first ↦ inl first
            | inr apart ↦ elim (h.2 m root from ((within-parent t w m k (omega arith) other).0 to)) [
              | inl first ↦ inl first
              | inr up ↦ absurd (goes_on (subst (IsSubgameRoot t) up root, λ e. apart (up ∙ e)))
            ]
          ]
        ]

    -- so both together tell it
    cut-told : (stands given : Bool) → IsTrue stands ↔ IsInCut t n (t.parent k) → (given ≡ true) ↔ IsGivenEnd t n (t.parent k) → (cond stands (not given) false ≡ true) ↔ IsInCut t n k
    cut-told false given up end = (λ e. absurd (let h : false ≡ true = e in cc), λ cut. absurd (let h : false ≡ true = up.1 (cut-up cut).0 in cc))
    cut-told true true up end = (λ e. absurd (let h : false ≡ true = e in cc), λ cut. absurd ((cut-up cut).1 (end.0 refl)))
    cut-told true false up end = (λ e. cut-down (up.0 refl) (λ given. absurd (let h : false ≡ true = end.1 given in cc)), λ cut. refl)

    -- where the parent is named otherwise
    pub cut-told_at : (p : ℕ) (stands given : Bool) → p ≡ t.parent k → IsTrue stands ↔ IsInCut t n p → (given ≡ true) ↔ IsGivenEnd t n p → (cond stands (not given) false ≡ true) ↔ IsInCut t n k
    cut-told_at p stands given is up end = cut-told stands given (subst (λ x. IsTrue stands ↔ IsInCut t n x) is up) (subst (λ x. (given ≡ true) ↔ IsGivenEnd t n x) is end)

-- ---- what the marks tell
-- a root is no given end of its own cut
pub is_given_end-root : (begins : List Bool) (n k : ℕ) → k ≡ n → is_given_end begins n k ≡ false
is_given_end-root begins n k same = ap (λ b. cond b false (get_or begins k false)) (eq-eqb k n same)

-- at another node the marks decide
is_given_end-other : (begins : List Bool) (n k : ℕ) → k ≢ n → is_given_end begins n k ≡ get_or begins k false
is_given_end-other begins n k other = ap (λ b. cond b false (get_or begins k false)) (unequal k n other)

-- a given end, by the marks
pub is_given_end-is : (t : Tree) (begins : List Bool) (n k : ℕ) → AreRootMarks t begins → k < t.size → (is_given_end begins n k ≡ true) ↔ IsGivenEnd t n k
is_given_end-is t begins n k marks below = elim (cases_eq k n) [
  | inl same ↦ (λ e. absurd (let h = is_given_end-root begins n k same in cc), λ end. absurd (end.1 same))
  | inr other ↦ let is = is_given_end-other begins n k other in (λ e. ((marks.are_all k below).0 (sym is ∙ e), other), λ end. is ∙ (marks.are_all k below).1 end.0)
]

-- ---- the nodes
-- an index tells whether a number stands there
pub index-tells : (numbers : List ℕ) (k : ℕ) (index : Option ℕ) → IsIndexOf numbers k index → IsTrue (is_some index) ↔ Contains numbers k
index-tells numbers k None h = (λ e. cc, λ found. absurd (index-none numbers k h found))
index-tells numbers k (Some j) h = (λ e. subst (Contains numbers) h.1 (Contains-get_or numbers j 0 h.0), λ found. refl)

-- they are nodes of the tree
pub nodes-within : (t : Tree) (n : ℕ) (nodes : List ℕ) (indices : List (Option ℕ)) → AreCutNodes t n nodes indices → All (λ k. k < t.size) nodes
nodes-within t n nodes indices h k d below = (h.are_nodes.sound (get_or nodes k d) (Contains-get_or nodes k d below)).0
