-- Payoffs as sums over the nodes, and the difference of two payoffs.
use Rattle.std.proofs.Common.{ℕ, ◌<◌, ◌≡◌, [], ◌∷◌, refl, sym, ap, ◌∙◌}
use Rattle.rational.specs.Rational.{ℚ, ◌+ℚ◌, ◌*ℚ◌, ◌-ℚ◌}
use Rattle.rational.specs.Sum.{sum_to}
use Rattle.rational.proofs.RationalRing.{rational_ring, *ℚ_assoc, *ℚ-add}
use Rattle.rational.proofs.Rules.{one-*ℚ, +ℚ_cancel}
use Rattle.rational.proofs.SumLemmas.{sum_to-same, sum_to-add}
use Rattle.rational.proofs.Ring.{ring, combine, ◌times◌is◌, num, ◌:+◌, ◌:*◌, ◌:-◌, A, B, C, D, E, F, G}
use Rattle.game_theory.specs.Trees.{Tree, IsTree}
use Rattle.game_theory.specs.Behaviour.{Behaviour, branch_probability, is_parent, value, payoff}
use Rattle.game_theory.proofs.ChildLemmas.{over_children, over_children-same}
use Rattle.game_theory.proofs.ValueLemmas.{value-recurs}
use Rattle.best_replies.specs.Reaching.{reach}
use Rattle.best_replies.specs.Laws.{PayoffsOverNodes}
use Rattle.best_replies.proofs.ReachLemmas.{reach-step}
use Rattle.best_replies.proofs.NodeSumLemmas.{below_root, below_root-same, tested_sum-scale, over_children-add, each_child_once, root_apart}

module _ (t : Tree) (b : Behaviour) (w : IsTree t) where
  -- a sum over all nodes of numbers at their children
  sum-below_root : (f : ℕ → ℚ) → sum_to t.size (λ k. reach t b k *ℚ over_children t k (λ c. branch_probability t b c *ℚ f c)) ≡ sum_to t.size (λ c. below_root c (reach t b c *ℚ f c))
  sum-below_root f =
      sum_to-same t.size _ _ (λ k l. tested_sum-scale t.size (is_parent t k) (reach t b k) (λ c. branch_probability t b c *ℚ f c))
      ∙ each_child_once t (λ k c. reach t b k *ℚ (branch_probability t b c *ℚ f c)) w
      ∙ sum_to-same t.size _ _ (λ c l. below_root-same c _ _ (λ p. sym (*ℚ_assoc (reach t b (t.parent c)) (branch_probability t b c) (f c)) ∙ ap (λ x. x *ℚ f c) (sym (reach-step t b c w p l))))

  -- numbers that recur by the probabilities of actions: the root's is the sum over the nodes of what each adds, by how it is reached
  pub flow : (f g : ℕ → ℚ) → ((k : ℕ) → k < t.size → f k ≡ g k +ℚ over_children t k (λ c. branch_probability t b c *ℚ f c)) → f 0 ≡ sum_to t.size (λ k. reach t b k *ℚ g k)
  flow f g recurs =
      let rest = sum_to t.size (λ c. below_root c (reach t b c *ℚ f c)) in
      +ℚ_cancel (f 0) (sum_to t.size (λ k. reach t b k *ℚ g k)) rest (
      ap (λ x. x +ℚ rest) (sym (one-*ℚ (f 0)))
      ∙ sym (root_apart t.size (λ k. reach t b k *ℚ f k) w.some_node)
      ∙ sum_to-same t.size _ _ (λ k l. ap (λ x. reach t b k *ℚ x) (recurs k l) ∙ *ℚ-add (reach t b k) (g k) _)
      ∙ sum_to-add t.size (λ k. reach t b k *ℚ g k) (λ k. reach t b k *ℚ over_children t k (λ c. branch_probability t b c *ℚ f c))
      ∙ ap (λ x. sum_to t.size (λ k. reach t b k *ℚ g k) +ℚ x) (sum-below_root f)
      )

-- a payoff is the sum of what the outcomes pay, each with the probability of its node
pub payoffs-over_nodes : PayoffsOverNodes
payoffs-over_nodes t b i w = flow t b w (value t b i) (λ k. t.pays k i) (value-recurs t b i w)

-- The difference of two payoffs: at each node below the root the difference of the probabilities of the action that leads there, with
-- the probability of the parent under the one behaviour and the value under the other.
module _ (t : Tree) (b other : Behaviour) (i : ℕ) (w : IsTree t) where
  -- what the change of probabilities at a node adds
  abbrev pub change : ℕ → ℚ
  change c = (branch_probability t other c -ℚ branch_probability t b c) *ℚ value t b i c

  -- the differences of values recur
  difference-recurs : (k : ℕ) → k < t.size → value t other i k -ℚ value t b i k ≡ over_children t k change +ℚ over_children t k (λ c. branch_probability t other c *ℚ (value t other i c -ℚ value t b i c))
  difference-recurs k l =
      let next = over_children t k (λ c. branch_probability t other c *ℚ (value t other i c -ℚ value t b i c)) in
      let before = over_children t k (λ c. branch_probability t b c *ℚ value t b i c) in
      let parts : (over_children t k change +ℚ next) +ℚ before ≡ over_children t k (λ c. branch_probability t other c *ℚ value t other i c) =
      ap (λ x. x +ℚ before) (over_children-add t k change _)
      ∙ over_children-add t k _ _
      ∙ over_children-same t k _ _ (λ c p m e. ring rational_ring (branch_probability t other c ∷ branch_probability t b c ∷ value t other i c ∷ value t b i c ∷ []) ((A :- B) :* D :+ A :* (C :- D) :+ B :* D) (A :* C) refl) in
      combine rational_ring
      (value t other i k ∷ value t b i k ∷ t.pays k i ∷ over_children t k change ∷ next ∷ before ∷ over_children t k (λ c. branch_probability t other c *ℚ value t other i c) ∷ [])
      ((num 1 times A is C :+ G) ∷ (num 1 times C :+ F is B) ∷ (num 1 times G is D :+ E :+ F) ∷ []) (A :- B) (D :+ E) refl
      (value-recurs t other i w k l, (sym (value-recurs t b i w k l), (sym parts, tt)))

  pub payoff-difference : payoff t other i -ℚ payoff t b i ≡ sum_to t.size (λ c. below_root c (reach t other (t.parent c) *ℚ change c))
  payoff-difference =
      flow t other w (λ k. value t other i k -ℚ value t b i k) (λ k. over_children t k change) difference-recurs
      ∙ sum_to-same t.size _ _ (λ k l. tested_sum-scale t.size (is_parent t k) (reach t other k) change)
      ∙ each_child_once t (λ k c. reach t other k *ℚ change c) w
