-- Prefix order where nodes and branches are left out.
use Rattle.std.proofs.Common.{ℕ, zero, suc, ◌+◌, ◌≡◌, ◌⊎◌, inl, inr, Bool, true, false, cond, Option, Some, None, List, [], ◌∷◌, ◌++◌, drop, refl, sym, ap, ap₂, ◌∙◌, subst, subst₂}
use Rattle.std.specs.Prelude.{unwrap_or}
use Rattle.std.specs.List.{flat_map}
use Rattle.std.proofs.lemmas.Grind.{flat_map-append}
use Rattle.game_core.specs.declared.tree.Node.{Node}
use Rattle.game_core.specs.Tree.{InformationSet, OpenBranch, action_count, branches_from, AreInPrefixOrder}

-- ---- the branches that stay
-- a branch stays where its node goes on, and hangs at that node's new number
abbrev pub kept_from : (ℕ → Bool) → (ℕ → ℕ) → Option ℕ → ℕ → List OpenBranch
kept_from goes index p a = cond (goes (unwrap_or p 0)) ((Some (index (unwrap_or p 0)), a) ∷ []) []

-- those of a list of branches that stay
abbrev pub kept : (ℕ → Bool) → (ℕ → ℕ) → List OpenBranch → List OpenBranch
kept goes index = flat_map (λ b. kept_from goes index b.0 b.1)

-- what comes after something in an empty list
nothing-later : (bs cs : List OpenBranch) → bs ++ cs ≡ [] → cs ≡ []
nothing-later [] cs is = is
nothing-later (b ∷ bs) cs is = cc

module _ (goes : ℕ → Bool) (index : ℕ → ℕ) where
  -- all branches of a node that goes on
  pub kept-all : (k a m : ℕ) → goes k ≡ true → kept goes index (branches_from (Some k) a m) ≡ branches_from (Some (index k)) a m
  kept-all k a zero on = refl
  kept-all k a (suc m) on =
      ap (λ b. cond b ((Some (index k), a) ∷ []) [] ++ kept goes index (branches_from (Some k) (a + 1) m)) on
      ∙ ap (λ bs. (Some (index k), a) ∷ bs) (kept-all k (a + 1) m on)

  -- none of another
  pub kept-none : (k a m : ℕ) → goes k ≡ false → kept goes index (branches_from (Some k) a m) ≡ []
  kept-none k a zero off = refl
  kept-none k a (suc m) off =
      ap (λ b. cond b ((Some (index k), a) ∷ []) [] ++ kept goes index (branches_from (Some k) (a + 1) m)) off
      ∙ kept-none k (a + 1) m off

  -- none of the branches after the first of those that do not stay
  nothing-after : (free : List OpenBranch) → kept goes index free ≡ [] → kept goes index (drop 1 free) ≡ []
  nothing-after [] none = refl
  nothing-after (b ∷ free) none = nothing-later (kept_from goes index b.0 b.1) (kept goes index free) none

  -- ---- nodes that stay, beside all nodes
  module _ (sets new_sets : List InformationSet) where
    -- node k is left out
    pub record IsOut (k : ℕ) (node : Node) : Type 0 where
      pub hangs_nowhere : kept_from goes index node.parent node.branch ≡ []
      pub ends : goes k ≡ false

    -- the branches of node k are those of node j among the nodes that stay
    abbrev pub HasSameBranches : ℕ → ℕ → Node → Node → Type 0
    HasSameBranches j k node new =
        kept goes index (branches_from (Some k) 0 (action_count sets node.set)) ≡ branches_from (Some j) 0 (action_count new_sets new.set)

    -- node k is node j of those that stay
    pub record IsIn (j k : ℕ) (node new : Node) : Type 0 where
      pub hangs : kept_from goes index node.parent node.branch ≡ (new.parent, new.branch) ∷ []
      pub same_branches : HasSameBranches j k node new

    -- nodes from number k on, and those of them that stay, from number j on
    abbrev pub AreThose : ℕ → List Node → ℕ → List Node → Type 0
    AreThose k [] j news = news ≡ []
    AreThose k (node ∷ nodes) j news =
        (IsOut k node × AreThose (suc k) nodes j news)
        ⊎ ((new : Node) × (later : List Node) × (news ≡ new ∷ later) × IsIn j k node new × AreThose (suc k) nodes (suc j) later)

    -- what stays free after a node
    kept-after : (k m : ℕ) (free : List OpenBranch) (own : List OpenBranch) → kept goes index (branches_from (Some k) 0 m) ≡ own → kept goes index (branches_from (Some k) 0 m ++ free) ≡ own ++ kept goes index free
    kept-after k m free own is = flat_map-append (λ b. kept_from goes index b.0 b.1) (branches_from (Some k) 0 m) free ∙ ap (λ bs. bs ++ kept goes index free) is

    -- they keep prefix order
    pub order-kept : (k : ℕ) (nodes : List Node) (j : ℕ) (news : List Node) (free : List OpenBranch) → AreThose k nodes j news → AreInPrefixOrder sets k nodes free [] → AreInPrefixOrder new_sets j news (kept goes index free) []
    order-kept k [] j news free those h = subst₂ (λ ms bs. AreInPrefixOrder new_sets j ms bs []) (sym those) (sym (ap (kept goes index) h)) refl
    order-kept k (node ∷ nodes) j news [] those h = absurd h
    order-kept k (node ∷ nodes) j news (b ∷ free) (inl out) h =
        let rest = order-kept (suc k) nodes j news _ out.1 h.1 in
        let place : kept_from goes index b.0 b.1 ≡ [] = subst (λ b. kept_from goes index b.0 b.1 ≡ []) h.0 out.0.hangs_nowhere in
        let same = kept-after k (action_count sets node.set) free [] (kept-none k 0 (action_count sets node.set) out.0.ends) ∙ ap (λ bs. bs ++ kept goes index free) (sym place) in
        subst (λ bs. AreInPrefixOrder new_sets j news bs []) same rest
    order-kept k (node ∷ nodes) j news (b ∷ free) (inr h) order =
        let new = h.0 in
        let rest = order-kept (suc k) nodes (suc j) h.1 _ h.4 order.1 in
        let place : kept_from goes index b.0 b.1 ≡ (new.parent, new.branch) ∷ [] = subst (λ b. kept_from goes index b.0 b.1 ≡ (new.parent, new.branch) ∷ []) order.0 h.3.hangs in
        let next = subst (λ bs. AreInPrefixOrder new_sets (suc j) h.1 bs []) (kept-after k (action_count sets node.set) free _ h.3.same_branches) rest in
        subst₂ (λ ms bs. AreInPrefixOrder new_sets j ms bs []) (sym h.2) (ap (λ bs. bs ++ kept goes index free) (sym place)) (refl, next)

    -- nodes from number k on, where the first that stays hangs nowhere
    abbrev pub LeadThere : ℕ → List Node → List Node → Type 0
    LeadThere k [] news = ⊥
    LeadThere k (node ∷ nodes) news =
        ((goes k ≡ false) × LeadThere (suc k) nodes news)
        ⊎ ((new : Node) × (later : List Node) × (news ≡ new ∷ later) × (new.parent ≡ None) × (new.branch ≡ 0) × HasSameBranches 0 k node new × AreThose (suc k) nodes 1 later)

    -- those that stay are a tree
    pub order-tree : (k : ℕ) (nodes news : List Node) (free : List OpenBranch) → LeadThere k nodes news → AreInPrefixOrder sets k nodes free [] → kept goes index (drop 1 free) ≡ [] → AreInPrefixOrder new_sets 0 news ((None, 0) ∷ []) []
    order-tree k [] news free leads h none = absurd leads
    order-tree k (node ∷ nodes) news [] leads h none = absurd h
    order-tree k (node ∷ nodes) news (b ∷ free) (inl out) h none =
        order-tree (suc k) nodes news _ out.1 h.1 (nothing-after _ (kept-after k (action_count sets node.set) free [] (kept-none k 0 (action_count sets node.set) out.0) ∙ none))
    order-tree k (node ∷ nodes) news (b ∷ free) (inr h) order none =
        let rest = order-kept (suc k) nodes 1 h.1 _ h.6 order.1 in
        let same = kept-after k (action_count sets node.set) free _ h.5 ∙ ap (λ bs. branches_from (Some 0) 0 (action_count new_sets h.0.set) ++ bs) none in
        subst (λ ms. AreInPrefixOrder new_sets 0 ms ((None, 0) ∷ []) []) (sym h.2) (ap₂ (λ p a. (p, a)) h.3 h.4, subst (λ bs. AreInPrefixOrder new_sets 1 h.1 bs []) same rest)
