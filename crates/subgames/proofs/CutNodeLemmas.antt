-- The nodes of a cut by their numbers there.
use Rattle.std.proofs.Common.{ℕ, ◌<◌, ◌≡◌, inl, inr, List, get_or, refl, sym, ap, ◌∙◌, subst, arith}
use Rattle.std.proofs.lemmas.Bool.{cases_eq}
use Rattle.std.proofs.lemmas.List.{get_or_default}
use Rattle.std.proofs.lemmas.List.Elements.{Contains-get_or}
use Rattle.std.proofs.lemmas.List.Kept.{AllPairs-from_increasing}
use Rattle.rational.specs.Rational.{ℚ}
use Rattle.game_theory.specs.Trees.{Tree, IsTree, IsChild, IsWithin}
use Rattle.subgames.specs.CutGames.{IsCutGame, IsInCut}
use Rattle.game_theory.proofs.SubtreeOrderLemmas.{within-after}

module _ (t : Tree) (n : ℕ) (worth : ℕ → ℕ → ℚ) (nodes sets : List ℕ) (c : Tree) (w : IsTree t) (v : IsTree c) (g : IsCutGame t n worth nodes sets c) where
  -- a number's node is in the cut
  pub cut-node : (j : ℕ) → j < c.size → IsInCut t n (get_or nodes j 0)
  cut-node j below = g.are_nodes.sound (get_or nodes j 0) (Contains-get_or nodes j 0 (omega (arith, below, g.size)))

  -- a later number has a later node
  cut-rises : (j k : ℕ) → j < k → k < c.size → get_or nodes j 0 < get_or nodes k 0
  cut-rises j k l below = AllPairs-from_increasing nodes g.are_nodes.ascending j k 0 l (omega (arith, below, g.size))

  -- the first node of a cut is the one that it is made at
  pub cut-first : n < t.size → get_or nodes 0 0 ≡ n
  cut-first below =
      let only : (m : ℕ) → IsWithin t n m → IsWithin t m n → m ≡ n = λ m from to.
      (let before = within-after t w m n below to in omega (arith, before, within-after t w n m (omega (arith, before, below)) from)) in
      let there = g.are_nodes.complete n (below, (0, refl), λ m root from to. inl (only m from to)) in
      let is : get_or nodes there.0 0 ≡ n = get_or_default nodes there.0 0 n there.1 ∙ there.2 in
      let after = within-after t w n (get_or nodes 0 0) (cut-node 0 v.some_node).0 (cut-node 0 v.some_node).1 in
      elim (cases_eq there.0 0) [
        | inl same ↦ subst (λ j. get_or nodes j 0 ≡ n) same is
        | inr other ↦ absurd (omega (arith, after, is, cut-rises 0 there.0 (omega (arith, other)) (omega (arith, there.1, g.size))))
      ]

  -- a child in the cut is the same child in the tree
  pub cut-child : (j a e : ℕ) → IsChild c j a e → IsChild t (get_or nodes j 0) a (get_or nodes e 0)
  cut-child j a e h =
      let rises = cut-rises 0 e h.0 h.1 in
      (omega (arith, rises), (cut-node e h.1).0, sym (g.parents e h.0 h.1) ∙ ap (λ k. get_or nodes k 0) h.2, sym (g.branches e h.0 h.1) ∙ h.3)
