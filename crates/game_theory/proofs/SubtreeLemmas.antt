-- The value of a node depends only on the behaviour in its subtree.
use Rattle.std.proofs.Common.{ℕ, zero, suc, ◌<◌, ◌≡◌, Option, Some, None, refl, sym, ap, ap₂, ◌∙◌, subst}
use Rattle.rational.specs.Rational.{◌+ℚ◌, ◌*ℚ◌}
use Rattle.game_theory.specs.Trees.{Tree, IsTree, IsAbove}
use Rattle.game_theory.specs.Behaviour.{Behaviour, of_owner, at_set, action_probability, branch_probability, value_to}
use Rattle.game_theory.specs.TreeLaws.{AgreeWithin, ValuesDependOnSubtrees}
use Rattle.game_theory.proofs.ChildLemmas.{over_children-same}

-- a parent lies one edge further above
pub above_parent : (t : Tree) (n k c x : ℕ) → 0 < c → t.parent c ≡ k → IsAbove t n c x → IsAbove t (suc n) k x
above_parent t zero k c x p e h = (subst (λ y. 0 < y) h p, sym e ∙ ap t.parent h)
above_parent t (suc n) k c x p e h = (h.0, above_parent t n k c (t.parent x) p e h.1)

-- behaviours that agree in the subtree of a node agree in the subtree of its child
agree_at_child : (t : Tree) (b other : Behaviour) (k c : ℕ) → 0 < c → t.parent c ≡ k → AgreeWithin t b other k → AgreeWithin t b other c
agree_at_child t b other k c p e h x s i a n = h x s i a (suc n.0, above_parent t n.0 k c x p e n.1)

-- the probability of an action, where a player's behaviour is the same
action_probability-same : (t : Tree) (b other : Behaviour) (s a : ℕ) → ((i : ℕ) → t.owner s ≡ Some i → b s a ≡ other s a) → action_probability t b s a ≡ action_probability t other s a
action_probability-same t b other s a h = go (t.owner s) h
  where
    go : (o : Option ℕ) → ((i : ℕ) → o ≡ Some i → b s a ≡ other s a) → of_owner o (t.chance s a) (b s a) ≡ of_owner o (t.chance s a) (other s a)
    go None g = refl
    go (Some i) g = g i refl

-- the probability of the action that leads to a child
branch_probability-same : (t : Tree) (b other : Behaviour) (k c : ℕ) → IsTree t → k < t.size → AgreeWithin t b other k → 0 < c → c < t.size → t.parent c ≡ k → branch_probability t b c ≡ branch_probability t other c
branch_probability-same t b other k c w h g p l e =
    let o = w.led_to c p l in
    ap (λ x. at_set t b x (t.branch c)) o.1
    ∙ action_probability-same t b other o.0 (t.branch c) (λ i r. g k o.0 i (t.branch c) (0, refl) h (ap t.set (sym e) ∙ o.1) r o.2)
    ∙ sym (ap (λ x. at_set t other x (t.branch c)) o.1)

-- the values at every depth
value_to-agree : (t : Tree) (b other : Behaviour) (i : ℕ) → IsTree t → (d k : ℕ) → k < t.size → AgreeWithin t b other k → value_to t b i d k ≡ value_to t other i d k
value_to-agree t b other i w zero k h g = refl
value_to-agree t b other i w (suc d) k h g =
    ap (λ x. t.pays k i +ℚ x) (over_children-same t k _ _ (λ c p l e. ap₂ (λ x y. x *ℚ y) (branch_probability-same t b other k c w h g p l e) (value_to-agree t b other i w d c l (agree_at_child t b other k c p e g))))

-- the value of a node depends only on the behaviour in its subtree
pub value-agree : ValuesDependOnSubtrees
value-agree t b other i k w h g = value_to-agree t b other i w t.size k h g
