-- The nodes of a cut hang in prefix order.
use Rattle.std.proofs.Common.{ℕ, zero, suc, ◌+◌, ◌<◌, ◌≤◌, ◌≡◌, inl, inr, Bool, true, false, cond, not, Option, Some, None, List, [], ◌∷◌, length, map, get_or, drop, refl, sym, ap, ap₂, ◌∙◌, subst, arith}
use Rattle.std.specs.Prelude.{◌↔◌, ◌==◌, Contains, is_some, unwrap_or}
use Rattle.std.specs.List.{range_with_len}
use Rattle.std.proofs.Math.ListN.{drop_of_length-le}
use Rattle.std.proofs.Math.Seq.{drop-cons}
use Rattle.std.proofs.lemmas.Bool.{cases_eq, cases_lt, false_from_ne_true}
use Rattle.std.proofs.lemmas.List.{get_or-map, length-map}
use Rattle.std.proofs.lemmas.List.Elements.{Contains-get_or}
use Rattle.std.proofs.lemmas.List.FromFn.{get_or-map-range_with_len, length-map-range_with_len}
use Rattle.std.proofs.lemmas.List.Kept.{AllPairs-from_increasing}
use Rattle.lists.proofs.ElementLemmas.{index_of}
use Rattle.lists.proofs.NumberLemmas.{unequal}
use Rattle.game_theory.specs.Trees.{IsTree}
use Rattle.game_core.specs.declared.tree.Node.{Node}
use Rattle.game_core.specs.Tree.{AreInPrefixOrder, GameTree, InformationSet, IsGameTree, action_count, branches_from}
use Rattle.game_core.specs.TreeGame.{game_of_tree}
use Rattle.subgames.specs.CutGames.{IsInCut, IsSameSet}
use Rattle.lists.specs.Listed.{IsIndexOf}
use Rattle.subgames.specs.CutParts.{AreSetNames, actions_of, cut_information_set, cut_node, cut_set, is_given_end, without_name}
use Rattle.subgames.specs.FoundSubgames.{AreRootMarks}
use Rattle.lists.proofs.ListedLemmas.{index-none, index-once}
use Rattle.subgames.proofs.CutWalkLemmas.{AreCutNodes, cut-after, cut-root, cut-told_at, cut-up, index-tells, is_given_end-is}
use Rattle.subgames.proofs.CutOrderLemmas.{AreThose, HasSameBranches, IsIn, IsOut, LeadThere, kept-all, kept-none, kept_from, order-tree}

-- ---- lists
-- a part of what is made at an index
pub made-at : {X Y : Type 0} (f : X → Y) (make : ℕ → X) (m j : ℕ) (d : Y) → j < m → get_or (map f (map make (range_with_len 0 m))) j d ≡ f (make j)
made-at f make m j d below =
    get_or-map f (map make (range_with_len 0 m)) j (make j) d (omega (arith, below, length-map-range_with_len make 0 m))
    ∙ ap f (get_or-map-range_with_len make 0 m j j (make j) below (omega arith))

-- the index of a number that stands there
pub some-index : (numbers : List ℕ) (k : ℕ) (index : Option ℕ) → IsIndexOf numbers k index → Contains numbers k → (i : ℕ) × (index ≡ Some i) × (i < length numbers) × (get_or numbers i 0 ≡ k)
some-index numbers k None out found = absurd (index-none numbers k out found)
some-index numbers k (Some i) at found = (i, refl, at.0, at.1)

-- a number that does not stand there has none
no-index : (numbers : List ℕ) (k : ℕ) (index : Option ℕ) → IsIndexOf numbers k index → (Contains numbers k → ⊥) → index ≡ None
no-index numbers k None at out = refl
no-index numbers k (Some i) at out = absurd (out (subst (Contains numbers) at.1 (Contains-get_or numbers i 0 at.0)))

-- how many actions stand at an index
counts-at : (sets : List InformationSet) (s : ℕ) → get_or (map (λ set. length set.actions) sets) s 0 ≡ length (get_or (map (λ set. set.actions) sets) s [])
counts-at [] s = refl
counts-at (set ∷ sets) zero = refl
counts-at (set ∷ sets) (suc s) = counts-at sets s

-- ---- the nodes of a cut
module _ (t : GameTree) (w : IsTree (game_of_tree t)) (begins : List Bool) (n : ℕ) (nodes : List ℕ) (indices : List (Option ℕ))
    (marks : AreRootMarks (game_of_tree t) begins) (root_within : n < length t.nodes) (are_nodes : AreCutNodes (game_of_tree t) n nodes indices) where
  -- each of them is a node of the tree, no earlier than the root
  pub node-cut : (j : ℕ) → j < length nodes → IsInCut (game_of_tree t) n (get_or nodes j 0)
  node-cut j below = are_nodes.are_nodes.sound (get_or nodes j 0) (Contains-get_or nodes j 0 below)

  -- the root comes first
  pub root-first : (0 < length nodes) × (get_or nodes 0 0 ≡ n)
  root-first =
      let at = index_of nodes n (are_nodes.are_nodes.complete n (cut-root (game_of_tree t) w n root_within)) in
      let some : 0 < length nodes = omega (arith, at.1) in
      let low = cut-after (game_of_tree t) w n (get_or nodes 0 0) (node-cut 0 some) in
      elim (cases_eq at.0 0) [
        | inl same ↦ (some, ap (λ i. get_or nodes i 0) (sym same) ∙ at.2)
        | inr other ↦ absurd (omega (arith, low, at.2, AllPairs-from_increasing nodes are_nodes.are_nodes.ascending 0 at.0 0 (omega (arith, other)) at.1))
      ]

  -- the others come later
  pub others-later : (j : ℕ) → 0 < j → j < length nodes → n < get_or nodes j 0
  others-later j later below = omega (arith, root-first.1, AllPairs-from_increasing nodes are_nodes.are_nodes.ascending 0 j 0 later below)

  -- whether a node stands in the cut and is no given end
  abbrev pub goes : ℕ → Bool
  goes k = cond (is_some (get_or indices k None)) (not (is_given_end begins n k)) false

  -- the index of a node
  abbrev pub index : ℕ → ℕ
  index k = unwrap_or (get_or indices k None) 0

  -- a later node stands in the cut exactly where its parent goes on
  pub goes-told : (k : ℕ) → k < length t.nodes → n < k → (goes ((game_of_tree t).parent k) ≡ true) ↔ IsInCut (game_of_tree t) n k
  goes-told k below later =
      let p = (game_of_tree t).parent k in
      let inside : p < length t.nodes = omega (arith, w.after_parent k (omega arith) below, below) in
      let tells = index-tells nodes p (get_or indices p None) (are_nodes.indices_are.are p inside) in
      cut-told_at (game_of_tree t) w n k below later p (is_some (get_or indices p None)) (is_given_end begins n p) refl
      (λ e. are_nodes.are_nodes.sound p (tells.0 e), λ cut. tells.1 (are_nodes.are_nodes.complete p cut)) (is_given_end-is (game_of_tree t) begins n p marks inside)

  -- the parent of a later node, by its index
  pub parent-index : (j : ℕ) → 0 < j → j < length nodes → (i : ℕ) × (get_or indices ((game_of_tree t).parent (get_or nodes j 0)) None ≡ Some i) × (i < length nodes) × (get_or nodes i 0 ≡ (game_of_tree t).parent (get_or nodes j 0))
  parent-index j later below =
      let k = get_or nodes j 0 in
      let cut = node-cut j below in
      let p = (game_of_tree t).parent k in
      let inside : p < length t.nodes = omega (arith, w.after_parent k (omega (arith, others-later j later below)) cut.0, cut.0) in
      let up = cut-up (game_of_tree t) w n k cut.0 (others-later j later below) cut in
      some-index nodes p (get_or indices p None) (are_nodes.indices_are.are p inside) (are_nodes.are_nodes.complete p up.0)

  -- a node that stands there, by its index
  pub own-index : (j : ℕ) → j < length nodes → get_or indices (get_or nodes j 0) None ≡ Some j
  own-index j below =
      index-once nodes (get_or nodes j 0) (get_or indices (get_or nodes j 0) None) (Some j) are_nodes.are_nodes.ascending (are_nodes.indices_are.are (get_or nodes j 0) (node-cut j below).0) (below, refl)

  module _ (sets : List ℕ) (names : List (Option ℕ)) (are_sets : AreSetNames (map (cut_set (game_of_tree t) begins n) nodes) names sets) where
    -- the nodes and the sets that are made
    abbrev pub new_node : ℕ → Node
    new_node = cut_node (game_of_tree t) nodes indices sets names

    abbrev pub news : List Node
    news = map new_node (range_with_len 0 (length nodes))

    abbrev pub new_sets : List InformationSet
    new_sets = map (cut_information_set t sets names) (range_with_len 0 (length sets))

    -- the set that a node names
    pub named : (j : ℕ) → j < length nodes → IsSameSet sets (cut_set (game_of_tree t) begins n (get_or nodes j 0)) (get_or names j None)
    named j below =
        let key = cut_set (game_of_tree t) begins n in
        subst (λ key. IsSameSet sets key (get_or names j None)) (get_or-map key nodes j 0 None below) (are_sets.same j (rw length-map below))

    -- a set of the cut has as many actions as that of the tree
    pub same-count : (key name : Option ℕ) → IsSameSet sets key name → action_count t.sets key ≡ action_count new_sets name
    same-count None None h = refl
    same-count None (Some r) h = absurd h
    same-count (Some s) None h = absurd h
    same-count (Some s) (Some r) h =
        let long : length (map without_name (actions_of t (get_or sets r 0))) ≡ length (actions_of t (get_or sets r 0)) = rw length-map in
        counts-at t.sets s ∙ ap (λ s. length (actions_of t s)) (sym h.1) ∙ sym long
        ∙ sym (made-at (λ set. length set.actions) (cut_information_set t sets names) (length sets) r 0 h.0)

    -- the branch of a node stays where its parent goes on
    place : (k : ℕ) → k < length t.nodes → kept_from goes index (get_or t.nodes k (new_node 0)).parent (get_or t.nodes k (new_node 0)).branch ≡ cond (goes ((game_of_tree t).parent k)) ((Some (index ((game_of_tree t).parent k)), (game_of_tree t).branch k) ∷ []) []
    place k below =
        let parent = get_or-map (λ node. node.parent) t.nodes k (new_node 0) None below in
        let branch = get_or-map (λ node. node.branch) t.nodes k (new_node 0) 0 below in
        ap₂ (λ p a. cond (goes (unwrap_or p 0)) ((Some (index (unwrap_or p 0)), a) ∷ []) []) (sym parent) (sym branch)

    -- a node that does not stand there is left out
    out-ends : (k : ℕ) → k < length t.nodes → (Contains nodes k → ⊥) → goes k ≡ false
    out-ends k below out = ap (λ o. cond (is_some o) (not (is_given_end begins n k)) false) (no-index nodes k (get_or indices k None) (are_nodes.indices_are.are k below) out)

    is-out : (k : ℕ) → k < length t.nodes → n < k → (Contains nodes k → ⊥) → IsOut goes index t.sets new_sets k (get_or t.nodes k (new_node 0))
    is-out k below later out =
        let stops : goes ((game_of_tree t).parent k) ≡ false = false_from_ne_true (goes ((game_of_tree t).parent k)) (λ e. out (are_nodes.are_nodes.complete k ((goes-told k below later).0 e))) in
        record {
          hangs_nowhere = place k below ∙ ap (λ b. cond b ((Some (index ((game_of_tree t).parent k)), (game_of_tree t).branch k) ∷ []) []) stops;
          ends = out-ends k below out;
        }

    -- the branches of a node of the cut
    same-branches : (j k : ℕ) → j < length nodes → get_or nodes j 0 ≡ k → HasSameBranches goes index t.sets new_sets j k (get_or t.nodes k (new_node 0)) (new_node j)
    same-branches j k below at = go (is_given_end begins n k) refl
      where
        inside : k < length t.nodes
        inside = subst (λ k. k < length t.nodes) at (node-cut j below).0

        own : get_or indices k None ≡ Some j
        own = subst (λ k. get_or indices k None ≡ Some j) at (own-index j below)

        set_is : (game_of_tree t).set k ≡ (get_or t.nodes k (new_node 0)).set
        set_is = get_or-map (λ node. node.set) t.nodes k (new_node 0) None inside

        count : action_count t.sets (cut_set (game_of_tree t) begins n k) ≡ action_count new_sets (get_or names j None)
        count = subst (λ k. action_count t.sets (cut_set (game_of_tree t) begins n k) ≡ action_count new_sets (get_or names j None)) at (same-count _ _ (named j below))

        go : (b : Bool) → is_given_end begins n k ≡ b → HasSameBranches goes index t.sets new_sets j k (get_or t.nodes k (new_node 0)) (new_node j)
        go true given =
            let off : goes k ≡ false = ap₂ (λ o b. cond (is_some o) (not b) false) own given in
            let none : 0 ≡ action_count new_sets (get_or names j None) = ap (λ b. action_count t.sets (cond b None ((game_of_tree t).set k))) (sym given) ∙ count in
            kept-none goes index k 0 _ off ∙ ap (branches_from (Some j) 0) none
        go false other =
            let on : goes k ≡ true = ap₂ (λ o b. cond (is_some o) (not b) false) own other in
            let all : action_count t.sets (get_or t.nodes k (new_node 0)).set ≡ action_count new_sets (get_or names j None) = ap (action_count t.sets) (sym set_is) ∙ ap (λ b. action_count t.sets (cond b None ((game_of_tree t).set k))) (sym other) ∙ count in
            kept-all goes index k 0 _ on ∙ ap₂ (λ i m. branches_from (Some i) 0 m) (ap (λ o. unwrap_or o 0) own) all

    -- a later node of the cut hangs at its parent's index
    is-in : (j k : ℕ) → 0 < j → j < length nodes → get_or nodes j 0 ≡ k → IsIn goes index t.sets new_sets j k (get_or t.nodes k (new_node 0)) (new_node j)
    is-in j k later below at =
        let here = get_or nodes j 0 in
        let cut = node-cut j below in
        let p = (game_of_tree t).parent here in
        let up = parent-index j later below in
        let other : (j == 0) ≡ false = unequal j 0 (λ e. absurd (omega (arith, e))) in
        let hangs : kept_from goes index (get_or t.nodes here (new_node 0)).parent (get_or t.nodes here (new_node 0)).branch ≡ ((new_node j).parent, (new_node j).branch) ∷ [] =
        place here cut.0 ∙ ap (λ b. cond b ((Some (index p), (game_of_tree t).branch here) ∷ []) []) ((goes-told here cut.0 (others-later j later below)).1 cut)
        ∙ ap₂ (λ q a. (q, a) ∷ []) (ap (λ o. Some (unwrap_or o 0)) up.1 ∙ sym up.1 ∙ sym (ap (λ b. cond b None (get_or indices p None)) other)) (sym (ap (λ b. cond b 0 ((game_of_tree t).branch here)) other)) in
        subst (λ k. IsIn goes index t.sets new_sets j k (get_or t.nodes k (new_node 0)) (new_node j)) at (record { hangs = hangs; same_branches = same-branches j here below refl })

    -- so many nodes of the cut come before node k
    pub record ComeBefore (j k : ℕ) : Type 0 where
      pub within : j ≤ length nodes
      pub before : (i : ℕ) → i < j → get_or nodes i 0 < k
      pub after : (i : ℕ) → j ≤ i → i < length nodes → k ≤ get_or nodes i 0

    -- node k is the next of the cut ..
    come-in : (j k : ℕ) → ComeBefore j k → j < length nodes → get_or nodes j 0 ≡ k → ComeBefore (suc j) (suc k)
    come-in j k h below at = record {
      within = omega (arith, below);
      before = λ i less. elim (cases_eq i j) [
        | inl same ↦ let here : get_or nodes i 0 ≡ k = ap (λ x. get_or nodes x 0) same ∙ at in omega (arith, here)
        | inr other ↦ omega (arith, h.before i (omega (arith, less, other)))
      ];
      after = λ i more inside. omega (arith, at, AllPairs-from_increasing nodes are_nodes.are_nodes.ascending j i 0 (omega (arith, more)) inside);
    }

    -- .. or it does not stand there
    come-out : (j k : ℕ) → ComeBefore j k → (j < length nodes → get_or nodes j 0 ≡ k → ⊥) → (Contains nodes k → ⊥) × ComeBefore j (suc k)
    come-out j k h other = (
      λ found. missing (index_of nodes k found),
      record {
        within = h.within;
        before = λ i less. omega (arith, h.before i less);
        after = λ i more inside. elim (cases_eq (get_or nodes i 0) k) [
          | inl same ↦ absurd (missing (i, inside, same))
          | inr apart ↦ omega (arith, h.after i more inside, apart)
        ];
      },
    )
      where
        missing : (i : ℕ) × (i < length nodes) × (get_or nodes i 0 ≡ k) → ⊥
        missing at = elim (cases_lt at.0 j) [
          | inl early ↦ absurd (omega (arith, at.2, h.before at.0 early))
          | inr late ↦ elim (cases_eq at.0 j) [
            | inl same ↦ other (omega (arith, same, at.1)) (ap (λ i. get_or nodes i 0) (sym same) ∙ at.2)
            | inr apart ↦ absurd (omega (arith, at.2, h.after j (omega arith) (omega (arith, late, at.1)), AllPairs-from_increasing nodes are_nodes.are_nodes.ascending j at.0 0 (omega (arith, late, apart)) at.1))
          ]
        ]

    -- the next node that is made
    next-new : (j : ℕ) → j < length nodes → drop j news ≡ new_node j ∷ drop (suc j) news
    next-new j below =
        drop-cons news j (new_node j) (omega (arith, below, length-map-range_with_len new_node 0 (length nodes)))
        ∙ ap (λ x. x ∷ drop (suc j) news) (get_or-map-range_with_len new_node 0 (length nodes) j j (new_node j) below (omega arith))

    -- the nodes from number k on, and those of the cut
    those : (m k j : ℕ) → k + m ≡ length t.nodes → n < k → 0 < j → ComeBefore j k → AreThose goes index t.sets new_sets k (drop k t.nodes) j (drop j news)
    those zero k j all later some h =
        let none : j ≡ length nodes = elim (cases_lt j (length nodes)) [
          | inl more ↦ absurd (omega (arith, h.after j (omega arith) more, (node-cut j more).0))
          | inr end ↦ omega (arith, end, h.within)
        ] in
        subst (λ nodes. AreThose goes index t.sets new_sets k nodes j (drop j news)) (sym (drop_of_length-le t.nodes (omega (arith, all)))) (drop_of_length-le news (omega (arith, none, length-map-range_with_len new_node 0 (length nodes))))
    those (suc m) k j all later some h =
        let below : k < length t.nodes = omega (arith, all) in
        subst (λ nodes. AreThose goes index t.sets new_sets k nodes j (drop j news)) (sym (drop-cons t.nodes k (new_node 0) below)) (elim (cases_lt j (length nodes)) [
          | inl more ↦ elim (cases_eq (get_or nodes j 0) k) [
            | inl at ↦ inr (new_node j, drop (suc j) news, next-new j more, is-in j k some more at, those m (suc k) (suc j) (omega (arith, all)) (omega (arith, later)) (omega arith) (come-in j k h more at))
            | inr apart ↦ let out = come-out j k h (λ inside at. apart at) in inl (is-out k below later out.0, those m (suc k) j (omega (arith, all)) (omega (arith, later)) some out.1)
          ]
          | inr end ↦ let out = come-out j k h (λ inside at. absurd (omega (arith, end, inside))) in inl (is-out k below later out.0, those m (suc k) j (omega (arith, all)) (omega (arith, later)) some out.1)
        ])

    -- the nodes from number k on, up to the root
    lead : (m k : ℕ) → k + m ≡ length t.nodes → k ≤ n → LeadThere goes index t.sets new_sets k (drop k t.nodes) news
    lead zero k all early = absurd (omega (arith, all, root_within))
    lead (suc m) k all early =
        let below : k < length t.nodes = omega (arith, all) in
        subst (λ nodes. LeadThere goes index t.sets new_sets k nodes news) (sym (drop-cons t.nodes k (new_node 0) below)) (elim (cases_eq k n) [
          | inl same ↦
              let at : get_or nodes 0 0 ≡ k = root-first.1 ∙ sym same in
              inr (new_node 0, drop 1 news, next-new 0 root-first.0, refl, refl, same-branches 0 k root-first.0 at, those m (suc k) 1 (omega (arith, all)) (omega (arith, same)) (omega arith) (come-in 0 k (record { within = omega arith; before = λ i less. absurd (omega (arith, less)); after = λ i more inside. omega (arith, same, cut-after (game_of_tree t) w n (get_or nodes i 0) (node-cut i inside)) }) root-first.0 at))
          | inr apart ↦ inl (out-ends k below (λ found. absurd (omega (arith, early, apart, cut-after (game_of_tree t) w n k (are_nodes.are_nodes.sound k found)))), lead m (suc k) (omega (arith, all)) (omega (arith, early, apart)))
        ])

    -- the cut's nodes stand in prefix order
    pub cut-in_order : IsGameTree t → AreInPrefixOrder new_sets 0 news ((None, 0) ∷ []) []
    cut-in_order valid = order-tree goes index t.sets new_sets 0 t.nodes news ((None, 0) ∷ []) (lead (length t.nodes) 0 (omega arith) (omega arith)) valid.in_prefix_order refl
