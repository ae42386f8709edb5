-- Equilibria of cuts are equilibria at the nodes where subgames begin.
use Rattle.std.proofs.Common.{ℕ, zero, suc, ◌+◌, ◌<◌, ◌≤◌, get_or, sym, ap, ap₂, ◌∙◌, subst, arith}
use Rattle.std.specs.Prelude.{if◌then◌else◌}
use Rattle.rational.specs.Rational.{◌≤ℚ◌}
use Rattle.rational.proofs.Field.{le-mul_left, le_of_eq, le_trans}
use Rattle.rational.proofs.SumRelationLemmas.{order-kept}
use Rattle.game_theory.specs.Behaviour.{Behaviour, IsChoice, is_index, of_owner, reply, value}
use Rattle.game_theory.specs.Mixed.{sure}
use Rattle.game_theory.specs.Trees.{Tree, IsTree}
use Rattle.game_theory.proofs.TreeReplyLemmas.{reply-not_negative}
use Rattle.subgames.specs.CutGames.{cut_behaviour}
use Rattle.subgames.specs.CutLaws.{CutEquilibriaArePerfect, IsCutEquilibrium}
use Rattle.subgames.specs.Roots.{IsSubgameRoot}
use Rattle.game_theory.proofs.SubtreeOrderLemmas.{within-after}
use Rattle.subgames.proofs.CutNodeLemmas.{cut-first}
use Rattle.subgames.proofs.CutValueLemmas.{cuts_keep_values, values-related}

module _ (t : Tree) (b : Behaviour) (i : ℕ) (choice : ℕ → ℕ) (w : IsTree t) (player : i < t.players) (allowed : IsChoice t i choice) where
  -- where a player's reply does not raise what the ends of a cut are worth, it does not raise the value of its first node
  reply-in_cut : (n : ℕ) → n < t.size → IsCutEquilibrium t b n
      → ((k : ℕ) → n < k → k < t.size → IsSubgameRoot t k → value t (reply t b i choice) i k ≤ℚ value t b i k)
      → value t (reply t b i choice) i n ≤ℚ value t b i n
  reply-in_cut n below h later =
      let c = h.cut in
      let v = h.is_tree in
      let g = h.is_cut in
      let sets = h.sets in
      let answer = reply c (cut_behaviour sets b) i (λ r. choice (get_or sets r 0)) in
      let first = cut-first t n h.worth h.nodes sets c w v g below in
      let lower = values-related t n h.worth h.nodes sets c w v g (reply t b i choice) answer i player
      (λ r a l m. ap₂ (λ o p. of_owner o p (if is_index o i then sure (choice (get_or sets r 0)) a else b (get_or sets r 0) a)) (sym (g.owners r l)) (sym (g.chances r a l m)))
      (λ x y. x ≤ℚ y) order-kept
      (λ r a x y l m. le-mul_left _ x y (reply-not_negative c (cut_behaviour sets b) i (λ q. choice (get_or sets q 0)) v h.equilibrium.valid r a l m))
      (λ k inside given. le_trans _ _ _
      (let after = within-after t w n k inside.0 inside.1 in later k (omega (arith, after, given.1)) inside.0 given.0)
      (le_of_eq _ _ (sym (h.values i player k inside given)))) 0 v.some_node in
      let upper = h.equilibrium.no_better_reply i (λ r. choice (get_or sets r 0)) (omega (arith, player, g.players))
      (λ r l o. subst (λ m. choice (get_or sets r 0) < m) (sym (g.actions r l)) (allowed (get_or sets r 0) (g.sets_within r l) (sym (g.owners r l) ∙ o))) in
      let keeps = cuts_keep_values t n h.worth h.nodes sets c b i 0 w v g player (h.values i player) v.some_node in
      le_trans _ (value c answer i 0) _
      (subst (λ k. value t (reply t b i choice) i k ≤ℚ value c answer i 0) first lower)
      (subst (λ x. value c answer i 0 ≤ℚ x) (keeps ∙ ap (value t b i) first) upper)

  -- from the last node to the first
  no_reply_raises : ((n : ℕ) → n < t.size → IsSubgameRoot t n → IsCutEquilibrium t b n)
      → (m n : ℕ) → t.size ≤ m + n → n < t.size → IsSubgameRoot t n → value t (reply t b i choice) i n ≤ℚ value t b i n
  no_reply_raises h zero n enough below root = absurd (omega (arith, enough, below))
  no_reply_raises h (suc m) n enough below root =
      reply-in_cut n below (h n below root) (λ k after inside begins. no_reply_raises h m k (omega (arith, enough, after)) inside begins)

-- so what is an equilibrium of each cut is one wherever a subgame begins
pub cut_equilibria_are_perfect : CutEquilibriaArePerfect
cut_equilibria_are_perfect t b w h n below root i choice player allowed =
    no_reply_raises t b i choice w player allowed h t.size n (omega arith) below root
