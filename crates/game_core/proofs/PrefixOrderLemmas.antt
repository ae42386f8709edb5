-- Nodes in prefix order: at which place each of them hangs.
use Rattle.std.proofs.Common.{◌≡◌, ◌<◌, ◌≤◌, ◌+◌, ◌∙◌, sym, ap, subst, refl, ◌⊎◌, inl, inr, ℕ, zero, suc, Option, Some, None, List, [], ◌∷◌, ◌++◌, length, map, get_or, arith}
use Rattle.std.proofs.lemmas.Bool.{cases_order}
use Rattle.game_core.specs.declared.tree.Node.{Node}
use Rattle.game_core.specs.Tree.{InformationSet, OpenBranch, IsBelow, action_count, branches_from, AreInPrefixOrder}

-- the place at which a node hangs
abbrev pub branch_at : List Node → ℕ → OpenBranch
branch_at nodes k = (get_or (map (λ node. node.parent) nodes) k None, get_or (map (λ node. node.branch) nodes) k 0)

-- the set of a node
abbrev pub set_at : List Node → ℕ → Option ℕ
set_at nodes k = get_or (map (λ node. node.set) nodes) k None

-- a place is among these
abbrev IsAmong : OpenBranch → List OpenBranch → Type 0
IsAmong p [] = ⊥
IsAmong p (q ∷ places) = (p ≡ q) ⊎ IsAmong p places

-- among the first of two lists
IsAmong-left : (p : OpenBranch) (ps qs : List OpenBranch) → IsAmong p ps → IsAmong p (ps ++ qs)
IsAmong-left p [] qs h = absurd h
IsAmong-left p (q ∷ ps) qs (inl here) = inl here
IsAmong-left p (q ∷ ps) qs (inr later) = inr (IsAmong-left p ps qs later)

-- among the second of two lists
IsAmong-right : (p : OpenBranch) (ps qs : List OpenBranch) → IsAmong p qs → IsAmong p (ps ++ qs)
IsAmong-right p [] qs h = h
IsAmong-right p (q ∷ ps) qs h = inr (IsAmong-right p ps qs h)

-- among two lists
IsAmong-append : (p : OpenBranch) (ps qs : List OpenBranch) → IsAmong p (ps ++ qs) → IsAmong p ps ⊎ IsAmong p qs
IsAmong-append p [] qs h = inr h
IsAmong-append p (q ∷ ps) qs (inl here) = inl (inl here)
IsAmong-append p (q ∷ ps) qs (inr later) = elim (IsAmong-append p ps qs later) [ inl left ↦ inl (inr left) | inr right ↦ inr right ]

-- each action has its place
action_place : (node a n i : ℕ) → i < n → IsAmong (Some node, a + i) (branches_from (Some node) a n)
action_place node a zero i below = absurd (omega arith)
action_place node a (suc n) zero below = inl (ap (λ b. (Some node, b)) (omega arith))
action_place node a (suc n) (suc i) below =
    let later : a + 1 + i ≡ a + suc i = omega arith in
    inr (rw later at (action_place node (a + 1) n i (omega arith)))

-- a place of one of a node's actions
place_is : (p : OpenBranch) (node a n : ℕ) → IsAmong p (branches_from (Some node) a n) → (p.0 ≡ Some node) × (a ≤ p.1) × (p.1 < a + n)
place_is p node a zero h = absurd h
place_is p node a (suc n) (inl here) = let branch : p.1 ≡ a = ap (λ q. q.1) here in (ap (λ q. q.0) here, omega arith, omega arith)
place_is p node a (suc n) (inr later) = let h = place_is p node (a + 1) n later in (h.0, omega arith, omega arith)

-- each open branch is taken
taken : (sets : List InformationSet) (k : ℕ) (nodes : List Node) (free : List OpenBranch) (p : OpenBranch) → AreInPrefixOrder sets k nodes free [] → IsAmong p free → (j : ℕ) × (j < length nodes) × (branch_at nodes j ≡ p)
taken sets k [] [] p h among = absurd among
taken sets k [] (q ∷ free) p h among = cc
taken sets k (node ∷ nodes) [] p h among = absurd among
taken sets k (node ∷ nodes) (q ∷ free) p h (inl here) = (0, omega arith, h.0 ∙ sym here)
taken sets k (node ∷ nodes) (q ∷ free) p h (inr later) =
    let r = taken sets (suc k) nodes (branches_from (Some k) 0 (action_count sets node.set) ++ free) p h.1 (IsAmong-right p _ free later) in
    (suc r.0, omega arith, r.2)

-- each action of each node leads to a later node
child : (sets : List InformationSet) (k : ℕ) (nodes : List Node) (free : List OpenBranch) (i a : ℕ) → AreInPrefixOrder sets k nodes free [] → i < length nodes → a < action_count sets (set_at nodes i) → (j : ℕ) × (i < j) × (j < length nodes) × (branch_at nodes j ≡ (Some (k + i), a))
child sets k [] free i a h inside action = absurd (omega arith)
child sets k (node ∷ nodes) [] i a h inside action = absurd h
child sets k (node ∷ nodes) (q ∷ free) zero a h inside action =
    let start : 0 + a ≡ a = omega arith in
    let first = rw start at (action_place k 0 (action_count sets node.set) a action) in
    let r = taken sets (suc k) nodes (branches_from (Some k) 0 (action_count sets node.set) ++ free) (Some k, a) h.1 (IsAmong-left _ _ free first) in
    (suc r.0, omega arith, omega arith, r.2 ∙ ap (λ n. (Some n, a)) (omega arith))
child sets k (node ∷ nodes) (q ∷ free) (suc i) a h inside action =
    let r = child sets (suc k) nodes (branches_from (Some k) 0 (action_count sets node.set) ++ free) i a h.1 (omega arith) action in
    (suc r.0, omega arith, omega arith, r.3 ∙ ap (λ n. (Some n, a)) (omega arith))

-- node j hangs at one of these places or at an action of a node before it
abbrev Hangs : List InformationSet → ℕ → List Node → List OpenBranch → ℕ → Type 0
Hangs sets k nodes free j = IsAmong (branch_at nodes j) free ⊎ ((i : ℕ) × (i < j) × ((branch_at nodes j).0 ≡ Some (k + i)) × ((branch_at nodes j).1 < action_count sets (set_at nodes i)))

-- each node hangs at an open branch or at an action of a node before it
hangs : (sets : List InformationSet) (k : ℕ) (nodes : List Node) (free rest : List OpenBranch) (j : ℕ) → AreInPrefixOrder sets k nodes free rest → j < length nodes → Hangs sets k nodes free j
hangs sets k [] free rest j h inside = absurd (omega arith)
hangs sets k (node ∷ nodes) [] rest j h inside = absurd h
hangs sets k (node ∷ nodes) (q ∷ free) rest zero h inside = inl (inl h.0)
hangs sets k (node ∷ nodes) (q ∷ free) rest (suc j) h inside = one_less (hangs sets (suc k) nodes (places ++ free) rest j h.1 (omega arith))
  where
    places : List OpenBranch
    places = branches_from (Some k) 0 (action_count sets node.set)

    one_less : Hangs sets (suc k) nodes (places ++ free) j → Hangs sets k (node ∷ nodes) (q ∷ free) (suc j)
    one_less (inl among) = elim (IsAmong-append _ places free among) [
      | inl own ↦ let own_is = place_is _ k 0 _ own in inr (0, omega arith, own_is.0 ∙ ap Some (omega arith), omega arith)
      | inr later ↦ inl (inr later)
    ]
    one_less (inr r) = inr (suc r.0, omega arith, r.2 ∙ ap Some (omega arith), r.3)

-- no place stands twice
abbrev AreDistinct : List OpenBranch → Type 0
AreDistinct [] = Unit {0}
AreDistinct (p ∷ places) = (IsAmong p places → ⊥) × AreDistinct places

-- two lists without a common place
AreDistinct-append : (ps qs : List OpenBranch) → AreDistinct ps → AreDistinct qs → ((p : OpenBranch) → IsAmong p ps → IsAmong p qs → ⊥) → AreDistinct (ps ++ qs)
AreDistinct-append [] qs first second apart = second
AreDistinct-append (p ∷ ps) qs first second apart =
    (λ among. elim (IsAmong-append p ps qs among) [ inl left ↦ first.0 left | inr right ↦ apart p (inl refl) right ], AreDistinct-append ps qs first.1 second (λ q left right. apart q (inr left) right))

-- the places of a node's actions differ
AreDistinct-places : (node a n : ℕ) → AreDistinct (branches_from (Some node) a n)
AreDistinct-places node a zero = tt
AreDistinct-places node a (suc n) = (λ among. let own_is = place_is _ node (a + 1) n among in absurd (omega arith), AreDistinct-places node (a + 1) n)

-- places at nodes before node k
abbrev AreBefore : ℕ → List OpenBranch → Type 0
AreBefore k places = (p : OpenBranch) → IsAmong p places → IsBelow k p.0

-- a number below a bound
pub within : (k n : ℕ) (o : Option ℕ) → IsBelow k o → o ≡ Some n → n < k
within k n o h is = subst (IsBelow k) is h

-- a number below a greater bound
within_more : (k : ℕ) (o : Option ℕ) → IsBelow k o → IsBelow (suc k) o
within_more k None h = h
within_more k (Some n) h = omega arith

-- the places that are free after a node differ
AreDistinct-more : (k n : ℕ) (free : List OpenBranch) → AreDistinct free → AreBefore k free → AreDistinct (branches_from (Some k) 0 n ++ free)
AreDistinct-more k n free distinct before = AreDistinct-append (branches_from (Some k) 0 n) free (AreDistinct-places k 0 n) distinct apart
  where
    apart : (p : OpenBranch) → IsAmong p (branches_from (Some k) 0 n) → IsAmong p free → ⊥
    apart p own other = let below = within k k p.0 (before p other) (place_is p k 0 n own).0 in absurd (omega arith)

-- the places that are free after a node are at nodes up to it
AreBefore-more : (k n : ℕ) (free : List OpenBranch) → AreBefore k free → AreBefore (suc k) (branches_from (Some k) 0 n ++ free)
AreBefore-more k n free before p among = elim (IsAmong-append p (branches_from (Some k) 0 n) free among) [
  | inl own ↦ subst (IsBelow (suc k)) (sym (place_is p k 0 n own).0) (omega arith)
  | inr other ↦ within_more k p.0 (before p other)
]

-- no two nodes hang at one place
differ : (sets : List InformationSet) (k : ℕ) (nodes : List Node) (free rest : List OpenBranch) (i j : ℕ) → AreInPrefixOrder sets k nodes free rest → AreDistinct free → AreBefore k free → i < j → j < length nodes → branch_at nodes i ≡ branch_at nodes j → ⊥
differ sets k [] free rest i j h distinct before less inside same = absurd (omega arith)
differ sets k (node ∷ nodes) [] rest i j h distinct before less inside same = absurd h
differ sets k (node ∷ nodes) (q ∷ free) rest i zero h distinct before less inside same = absurd (omega arith)
differ sets k (node ∷ nodes) (q ∷ free) rest zero (suc j) h distinct before less inside same = later (hangs sets (suc k) nodes (places ++ free) rest j h.1 (omega arith))
  where
    places : List OpenBranch
    places = branches_from (Some k) 0 (action_count sets node.set)

    -- node k's place is at a node before it
    low : (n : ℕ) → (branch_at nodes j).0 ≡ Some n → n < k
    low n is = within k n q.0 (before q (inl refl)) (ap (λ p. p.0) (sym h.0 ∙ same) ∙ is)

    later : Hangs sets (suc k) nodes (places ++ free) j → ⊥
    later (inl among) = elim (IsAmong-append _ places free among) [
      | inl own ↦ let below = low k (place_is _ k 0 _ own).0 in absurd (omega arith)
      | inr other ↦ distinct.0 (subst (λ p. IsAmong p free) (sym same ∙ h.0) other)
    ]
    later (inr r) = let below = low _ r.2 in absurd (omega arith)
differ sets k (node ∷ nodes) (q ∷ free) rest (suc i) (suc j) h distinct before less inside same =
    differ sets (suc k) nodes (branches_from (Some k) 0 (action_count sets node.set) ++ free) rest i j h.1 (AreDistinct-more k _ free distinct.1 apart) (AreBefore-more k _ free apart) (omega arith) (omega arith) same
  where
    apart : AreBefore k free
    apart p among = before p (inr among)

-- the sets of the nodes before tell where a node hangs
pub branch_at-same :
    (sets : List InformationSet) (k : ℕ) (xs ys : List Node) (free rest rest_too : List OpenBranch) → AreInPrefixOrder sets k xs free rest → AreInPrefixOrder sets k ys free rest_too → length xs ≡ length ys
    → ((j : ℕ) → j < length xs → get_or (map (λ node. node.set) xs) j None ≡ get_or (map (λ node. node.set) ys) j None) → (j : ℕ) → j < length xs → branch_at xs j ≡ branch_at ys j
branch_at-same sets k [] ys free rest rest_too h g many alike j below = absurd (omega (arith, below))
branch_at-same sets k (x ∷ xs) [] free rest rest_too h g many alike j below = absurd (omega (arith, many))
branch_at-same sets k (x ∷ xs) (y ∷ ys) [] rest rest_too h g many alike j below = absurd h
branch_at-same sets k (x ∷ xs) (y ∷ ys) (branch ∷ free) rest rest_too h g many alike zero below = h.0 ∙ sym g.0
branch_at-same sets k (x ∷ xs) (y ∷ ys) (branch ∷ free) rest rest_too h g many alike (suc j) below =
    let other = subst (λ set. AreInPrefixOrder sets (suc k) ys (branches_from (Some k) 0 (action_count sets set) ++ free) rest_too) (sym (alike 0 (omega arith))) g.1 in
    branch_at-same sets (suc k) xs ys _ rest rest_too h.1 other (omega (arith, many)) (λ i few. alike (suc i) (omega (arith, few))) j (omega (arith, below))

-- the nodes of a tree: its root hangs nowhere
module _ (sets : List InformationSet) (nodes : List Node) (ordered : AreInPrefixOrder sets 0 nodes ((None, 0) ∷ []) []) where
  -- there is a root
  pub root : (0 < length nodes) × (branch_at nodes 0 ≡ (None, 0))
  root = first nodes ordered
    where
      first : (nodes : List Node) → AreInPrefixOrder sets 0 nodes ((None, 0) ∷ []) [] → (0 < length nodes) × (branch_at nodes 0 ≡ (None, 0))
      first [] h = cc
      first (node ∷ nodes) h = (omega arith, h.0)

  -- no two nodes hang at one place
  pub same_node : (c d : ℕ) → c < length nodes → d < length nodes → branch_at nodes c ≡ branch_at nodes d → c ≡ d
  same_node c d first second same = elim (cases_order c d) [
    | inl is ↦ is
    | inr less ↦ elim less [
      | inl before ↦ absurd (differ sets 0 nodes _ [] c d ordered alone nowhere before second same)
      | inr after ↦ absurd (differ sets 0 nodes _ [] d c ordered alone nowhere after first (sym same))
    ]
  ]
    where
      alone : AreDistinct ((None, 0) ∷ [])
      alone = (λ among. absurd among, tt)

      nowhere : AreBefore 0 ((None, 0) ∷ [])
      nowhere p (inl here) = subst (λ q. IsBelow 0 q.0) (sym here) tt
      nowhere p (inr later) = absurd later

  -- each node but the root hangs at an action of a node before it
  pub hangs_at : (c : ℕ) → 0 < c → c < length nodes → (k : ℕ) × (k < c) × ((branch_at nodes c).0 ≡ Some k) × ((branch_at nodes c).1 < action_count sets (set_at nodes k))
  hangs_at c later inside = below (hangs sets 0 nodes ((None, 0) ∷ []) [] c ordered inside)
    where
      below : Hangs sets 0 nodes ((None, 0) ∷ []) c → (k : ℕ) × (k < c) × ((branch_at nodes c).0 ≡ Some k) × ((branch_at nodes c).1 < action_count sets (set_at nodes k))
      below (inl (inl nowhere)) = let is_root = same_node c 0 inside root.0 (nowhere ∙ sym root.1) in absurd (omega arith)
      below (inl (inr other)) = absurd other
      below (inr r) = (r.0, r.1, r.2 ∙ ap Some (omega arith), r.3)

  -- each action of each node leads to a later node
  pub child_at : (k a : ℕ) → k < length nodes → a < action_count sets (set_at nodes k) → (c : ℕ) × (k < c) × (c < length nodes) × (branch_at nodes c ≡ (Some k, a))
  child_at k a inside action =
      let r = child sets 0 nodes ((None, 0) ∷ []) k a ordered inside action in
      (r.0, r.1, r.2, r.3 ∙ ap (λ n. (Some n, a)) (omega arith))
