-- Values in a cut and in the tree.
use Rattle.std.proofs.Common.{ℕ, zero, suc, ◌+◌, ◌<◌, ◌≤◌, ◌≡◌, Option, Some, None, List, get_or, refl, sym, ap, ap₂, ◌∙◌, subst, subst₂, arith}
use Rattle.rational.specs.Rational.{ℚ, ◌+ℚ◌, ◌*ℚ◌}
use Rattle.rational.specs.Sum.{sum_to}
use Rattle.rational.proofs.SumLemmas.{sum_to-same}
use Rattle.rational.proofs.SumRelationLemmas.{IsKeptBySums, equality-kept}
use Rattle.game_theory.specs.Behaviour.{Behaviour, action_probability, of_owner, value}
use Rattle.game_theory.specs.Children.{child}
use Rattle.game_theory.specs.Trees.{Tree, IsTree}
use Rattle.game_theory.proofs.NamedChildLemmas.{child-is_child, child-later}
use Rattle.game_theory.proofs.ValueLemmas.{value-by_actions, value-end}
use Rattle.subgames.specs.CutGames.{IsCutGame, IsGivenEnd, IsInCut, IsSameSet, cut_behaviour}
use Rattle.subgames.specs.CutLaws.{CutsKeepValues}
use Rattle.subgames.proofs.CutNodeLemmas.{cut-child, cut-node}

-- ---- sets
-- what a set of the cut is in the tree
same_set-some : (sets : List ℕ) (o : Option ℕ) (r : ℕ) → IsSameSet sets o (Some r) → o ≡ Some (get_or sets r 0)
same_set-some sets None r h = absurd h
same_set-some sets (Some s) r h = ap Some (sym h.1)

-- an end of the cut that is not given is one of the tree
same_set-none : (sets : List ℕ) (o : Option ℕ) → IsSameSet sets o None → o ≡ None
same_set-none sets None h = refl
same_set-none sets (Some s) h = absurd h

-- ---- values
module _ (t : Tree) (n : ℕ) (worth : ℕ → ℕ → ℚ) (nodes sets : List ℕ) (c : Tree) (w : IsTree t) (v : IsTree c) (g : IsCutGame t n worth nodes sets c) where
  -- a node at which a choice is made in the cut is at that set of the tree
  pub cut-at_set : (j r : ℕ) → j < c.size → c.set j ≡ Some r → (t.set (get_or nodes j 0) ≡ Some (get_or sets r 0)) × ((i : ℕ) → i < t.players → c.pays j i ≡ t.pays (get_or nodes j 0) i)
  cut-at_set j r below e =
      let node = g.same_nodes j below in
      let own = node.own (λ given. let none : c.set j ≡ None = (node.given given).0 in cc) in
      (same_set-some sets (t.set (get_or nodes j 0)) r (subst (IsSameSet sets (t.set (get_or nodes j 0))) e own.0), own.1)

  module _ (b d : Behaviour) (i : ℕ) (player : i < t.players)
      (alike : (r a : ℕ) → r < c.sets → a < c.actions r → action_probability t b (get_or sets r 0) a ≡ action_probability c d r a) where
    -- the value in the tree of such a node, by its actions in the cut
    value-in_tree : (j r : ℕ) → j < c.size → c.set j ≡ Some r
        → value t b i (get_or nodes j 0) ≡ c.pays j i +ℚ sum_to (c.actions r) (λ a. action_probability c d r a *ℚ value t b i (get_or nodes (child c j a) 0))
    value-in_tree j r below e =
        let k = get_or nodes j 0 in
        let s = get_or sets r 0 in
        let here = cut-at_set j r below e in
        let inside = v.sets_within j r below e in
        let many = g.actions r inside in
        let child_of : ℕ → ℕ = λ a. get_or nodes (child c j a) 0 in
        value-by_actions t b i k s child_of w (cut-node t n worth nodes sets c w v g j below).0 here.0
        (λ a l. cut-child t n worth nodes sets c w v g j a (child c j a) (child-is_child c j r a v below e (subst (λ m. a < m) (sym many) l)))
        ∙ ap₂ (λ x m. x +ℚ sum_to m (λ a. action_probability t b s a *ℚ value t b i (child_of a))) (sym (here.1 i player)) (sym many)
        ∙ ap (λ x. c.pays j i +ℚ x) (sum_to-same (c.actions r) _ _ (λ a l. ap (λ p. p *ℚ value t b i (child_of a)) (alike r a inside l)))

    module _ (R : ℚ → ℚ → Type 0) (kept : IsKeptBySums R)
        (weighs : (r a : ℕ) (x y : ℚ) → r < c.sets → a < c.actions r → R x y → R (action_probability c d r a *ℚ x) (action_probability c d r a *ℚ y))
        (at_ends : (k : ℕ) → IsInCut t n k → IsGivenEnd t n k → R (value t b i k) (worth k i)) where
      -- at an end of the cut
      related-at_end : (j : ℕ) → j < c.size → c.set j ≡ None → R (value t b i (get_or nodes j 0)) (value c d i j)
      related-at_end j below e = subst (R (value t b i k)) (sym (value-end c d i j v below e)) (kept.stable _ _ refuted)
        where
          k : ℕ
          k = get_or nodes j 0

          refuted : (R (value t b i (get_or nodes j 0)) (c.pays j i) → ⊥) → ⊥
          refuted fails =
              let node = g.same_nodes j below in
              let inside = cut-node t n worth nodes sets c w v g j below in
              let own = node.own (λ given. fails (subst (R (value t b i (get_or nodes j 0))) (sym ((node.given given).1 i player)) (at_ends (get_or nodes j 0) inside given))) in
              let end = same_set-none sets (t.set (get_or nodes j 0)) (subst (IsSameSet sets (t.set (get_or nodes j 0))) e own.0) in
              fails (kept.same _ _ (value-end t b i (get_or nodes j 0) w inside.0 end ∙ sym (own.1 i player)))

      -- at another node, where the values of later nodes are related
      related-at_set : (j r : ℕ) → j < c.size → c.set j ≡ Some r → ((k : ℕ) → j < k → k < c.size → R (value t b i (get_or nodes k 0)) (value c d i k)) → R (value t b i (get_or nodes j 0)) (value c d i j)
      related-at_set j r below e later =
          subst₂ R (sym (value-in_tree j r below e)) (sym (value-by_actions c d i j r (child c j) v below e (λ a l. child-is_child c j r a v below e l)))
          (kept.plus (c.pays j i) _ _ (kept.sums (c.actions r) _ _ (λ a l.
          let next = child-later c j r a v below e l in
          weighs r a _ _ (v.sets_within j r below e) l (later (child c j a) next.0 next.1))))

      related-at : (j : ℕ) → j < c.size → ((k : ℕ) → j < k → k < c.size → R (value t b i (get_or nodes k 0)) (value c d i k)) → (o : Option ℕ) → c.set j ≡ o → R (value t b i (get_or nodes j 0)) (value c d i j)
      related-at j below later None e = related-at_end j below e
      related-at j below later (Some r) e = related-at_set j r below e later

      -- values in the tree and in the cut are related where they are so at the given ends
      pub values-related : (j : ℕ) → j < c.size → R (value t b i (get_or nodes j 0)) (value c d i j)
      values-related j below = go c.size j (omega arith) below
        where
          go : (m j : ℕ) → c.size ≤ m + j → j < c.size → R (value t b i (get_or nodes j 0)) (value c d i j)
          go zero j enough below = absurd (omega (arith, enough, below))
          go (suc m) j enough below = related-at j below (λ k after inside. go m k (omega (arith, enough, after)) inside) (c.set j) refl

-- each node of a cut has its value in the tree
pub cuts_keep_values : CutsKeepValues
cuts_keep_values t n worth nodes sets c b i j w v g player ends below =
    sym (values-related t n worth nodes sets c w v g b (cut_behaviour sets b) i player
    (λ r a l m. ap₂ (λ o p. of_owner o p (b (get_or sets r 0) a)) (sym (g.owners r l)) (sym (g.chances r a l m)))
    (λ x y. x ≡ y) equality-kept (λ r a x y l m e. ap (λ z. action_probability c (cut_behaviour sets b) r a *ℚ z) e) (λ k inside given. sym (ends k inside given)) j below)
