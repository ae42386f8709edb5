-- Two cuts at a node have the same nodes, and their sets the same numbers.
use Rattle.std.proofs.Common.{ℕ, zero, suc, ◌<◌, ◌≡◌, inl, inr, Option, Some, None, List, length, get_or, refl, sym, ap, ◌∙◌, subst, arith}
use Rattle.std.proofs.lemmas.Bool.{cases_order}
use Rattle.std.proofs.lemmas.Grind.{same_number_lists}
use Rattle.std.proofs.lemmas.Option.{none-some, same_Some}
use Rattle.lists.proofs.ListedLemmas.{listed-once}
use Rattle.rational.specs.Rational.{ℚ}
use Rattle.game_theory.specs.FirstNodes.{AreNumberedByFirstNodes}
use Rattle.game_theory.specs.Trees.{Tree}
use Rattle.subgames.specs.CutGames.{IsCutGame, IsGivenEnd, IsInCut, IsSameSet}

-- the nodes of a cut are all that stand in it
pub cut_nodes-same : (t : Tree) (n : ℕ) (worth other : ℕ → ℕ → ℚ) (nodes nodes_too sets sets_too : List ℕ) (c d : Tree) → IsCutGame t n worth nodes sets c → IsCutGame t n other nodes_too sets_too d → nodes ≡ nodes_too
cut_nodes-same t n worth other nodes nodes_too sets sets_too c d g h =
    listed-once (IsInCut t n) nodes nodes_too g.are_nodes h.are_nodes

-- what a number of a cut names in the tree
named : (sets : List ℕ) (own name : Option ℕ) (r : ℕ) → IsSameSet sets own name → name ≡ Some r → (r < length sets) × (own ≡ Some (get_or sets r 0))
named sets None None r h is = absurd (none-some r is)
named sets None (Some q) r h is = absurd h
named sets (Some s) None r h is = absurd h
named sets (Some s) (Some q) r h is = subst (λ x. (x < length sets) × (Some s ≡ Some (get_or sets x 0))) (same_Some q r is) (h.0, ap Some (sym h.1))

-- the number by which a cut names a set of the tree
number_of : (sets : List ℕ) (own name : Option ℕ) (s : ℕ) → IsSameSet sets own name → own ≡ Some s → (r : ℕ) × (name ≡ Some r) × (r < length sets) × (s ≡ get_or sets r 0)
number_of sets None name s h is = absurd (none-some s is)
number_of sets (Some q) None s h is = absurd h
number_of sets (Some q) (Some r) s h is = (r, refl, h.0, sym (same_Some q s is) ∙ sym h.1)

module _ (t : Tree) (n : ℕ) (worth other : ℕ → ℕ → ℚ) (nodes sets sets_too : List ℕ) (c d : Tree) (g : IsCutGame t n worth nodes sets c) (h : IsCutGame t n other nodes sets_too d) where
  -- where one cut has a set the other has the same set of the tree
  counterpart : (j r : ℕ) → j < length nodes → c.set j ≡ Some r → (q : ℕ) × (d.set j ≡ Some q) × (r < length sets) × (q < length sets_too) × (get_or sets r 0 ≡ get_or sets_too q 0)
  counterpart j r below is =
      let here = g.same_nodes j (omega (arith, below, g.size)) in
      let there = h.same_nodes j (omega (arith, below, h.size)) in
      let inner : IsGivenEnd t n (get_or nodes j 0) → ⊥ = λ given. none-some r (sym (here.given given).0 ∙ is) in
      let one = named sets _ _ r (here.own inner).0 is in
      let two = number_of sets_too _ _ (get_or sets r 0) (there.own inner).0 one.1 in
      (two.0, two.1, one.0, two.2, two.3)

  -- a set's number at a node is not less than the other's, where those at earlier nodes are equal
  not_less : AreNumberedByFirstNodes d → (j r q : ℕ) → j < length nodes → ((l : ℕ) → l < j → c.set l ≡ d.set l) → c.set j ≡ Some r → d.set j ≡ Some q → r < q → ⊥
  not_less numbered j r q below before is is_too less =
      let earlier = numbered j q r (omega (arith, below, h.size)) is_too less in
      let here = counterpart j r below is in
      let there = counterpart earlier.0 r (omega (arith, earlier.1, below)) (before earlier.0 earlier.1 ∙ earlier.2) in
      let at_here : here.0 ≡ q = same_Some here.0 q (sym here.1 ∙ is_too) in
      let at_there : there.0 ≡ r = same_Some there.0 r (sym there.1 ∙ earlier.2) in
      let both : get_or sets_too there.0 0 ≡ get_or sets_too here.0 0 = sym there.4 ∙ here.4 in
      let same : there.0 ≡ here.0 = h.sets_differ there.0 here.0 (omega (arith, there.3, h.as_many_sets)) (omega (arith, here.3, h.as_many_sets)) both in
      absurd (omega (arith, same, at_here, at_there, less))

module _ (t : Tree) (n : ℕ) (worth other : ℕ → ℕ → ℚ) (nodes sets sets_too : List ℕ) (c d : Tree) (g : IsCutGame t n worth nodes sets c) (h : IsCutGame t n other nodes sets_too d) (numbered : AreNumberedByFirstNodes c) (numbered_too : AreNumberedByFirstNodes d) where
  -- the same at a node where they are the same at those before
  set_at-next : (j : ℕ) → j < length nodes → ((l : ℕ) → l < j → c.set l ≡ d.set l) → (o p : Option ℕ) → c.set j ≡ o → d.set j ≡ p → o ≡ p
  set_at-next j below before None None is is_too = refl
  set_at-next j below before None (Some q) is is_too = let there = counterpart t n other worth nodes sets_too sets d c h g j q below is_too in absurd (none-some there.0 (sym is ∙ there.1))
  set_at-next j below before (Some r) None is is_too = let there = counterpart t n worth other nodes sets sets_too c d g h j r below is in absurd (none-some there.0 (sym is_too ∙ there.1))
  set_at-next j below before (Some r) (Some q) is is_too = elim (cases_order r q) [
    | inl same ↦ ap Some same
    | inr apart ↦ elim apart [
      | inl less ↦ absurd (not_less t n worth other nodes sets sets_too c d g h numbered_too j r q below before is is_too less)
      | inr more ↦ absurd (not_less t n other worth nodes sets_too sets d c h g numbered j q r below (λ l early. sym (before l early)) is_too is more)
    ]
  ]

  set_at-below : (bound j : ℕ) → j < bound → j < length nodes → c.set j ≡ d.set j
  set_at-below zero j early below = absurd (omega (arith, early))
  set_at-below (suc bound) j early below = set_at-next j below (λ l before. set_at-below bound l (omega (arith, before, early)) (omega (arith, before, below))) (c.set j) (d.set j) refl refl

  -- both cuts give a node's set the same number
  pub set_at-same : (j : ℕ) → j < length nodes → c.set j ≡ d.set j
  set_at-same j below = set_at-below (suc j) j (omega arith) below

  -- a set with a node is a set of the other cut with its number
  set-kept : (r j : ℕ) → j < length nodes → c.set j ≡ Some r → (r < length sets_too) × (get_or sets r 0 ≡ get_or sets_too r 0)
  set-kept r j below is =
      let there = counterpart t n worth other nodes sets sets_too c d g h j r below is in
      subst (λ q. (q < length sets_too) × (get_or sets r 0 ≡ get_or sets_too q 0)) (same_Some there.0 r (sym there.1 ∙ sym (set_at-same j below) ∙ is)) (there.3, there.4)

-- the sets of both cuts are the same, where each has a node
pub cut_sets-same : (t : Tree) (n : ℕ) (worth other : ℕ → ℕ → ℚ) (nodes sets sets_too : List ℕ) (c d : Tree) → IsCutGame t n worth nodes sets c → IsCutGame t n other nodes sets_too d → AreNumberedByFirstNodes c → AreNumberedByFirstNodes d
    → ((r : ℕ) → r < length sets → (j : ℕ) × (j < length nodes) × (c.set j ≡ Some r)) → ((r : ℕ) → r < length sets_too → (j : ℕ) × (j < length nodes) × (d.set j ≡ Some r)) → sets ≡ sets_too
cut_sets-same t n worth other nodes sets sets_too c d g h numbered numbered_too used used_too = same_number_lists sets sets_too lengths (λ r below. (kept r below).1)
  where
    kept : (r : ℕ) → r < length sets → (r < length sets_too) × (get_or sets r 0 ≡ get_or sets_too r 0)
    kept r below = let at = used r below in set-kept t n worth other nodes sets sets_too c d g h numbered numbered_too r at.0 at.1 at.2

    kept_too : (r : ℕ) → r < length sets_too → (r < length sets) × (get_or sets_too r 0 ≡ get_or sets r 0)
    kept_too r below = let at = used_too r below in set-kept t n other worth nodes sets_too sets d c h g numbered_too numbered r at.0 at.1 at.2

    lengths : length sets ≡ length sets_too
    lengths = elim (cases_order (length sets) (length sets_too)) [
      | inl same ↦ same
      | inr apart ↦ elim apart [
        | inl less ↦ absurd (omega (arith, (kept_too (length sets) less).0))
        | inr more ↦ absurd (omega (arith, (kept (length sets_too) more).0))
      ]
    ]
