-- The recursion of the values.
use Rattle.std.proofs.Common.{ℕ, zero, suc, ◌+◌, ◌<◌, ◌≤◌, ◌≡◌, sym, ap, ap₂, ◌∙◌, arith}
use Rattle.rational.specs.Rational.{ℚ, ◌+ℚ◌, ◌*ℚ◌}
use Rattle.rational.proofs.RationalRing.{+ℚ-zero}
use Rattle.rational.proofs.SumLemmas.{sum_to-same}
use Rattle.game_theory.specs.Trees.{Tree, IsTree}
use Rattle.game_theory.specs.Behaviour.{Behaviour, at_set, branch_probability, value_to, value}
use Rattle.game_theory.specs.TreeLaws.{Recurs, ValuesRecur, ValuesAreUnique, EndsPayTheirOutcome, ValuesByActions}
use Rattle.game_theory.proofs.ChildLemmas.{over_children-same, over_children-none, over_children-by_actions}

-- where no node lies deeper, one more edge changes no value
value_to-enough : (t : Tree) (b : Behaviour) (i : ℕ) → IsTree t → (d k : ℕ) → k < t.size → t.size ≤ d + k → value_to t b i d k ≡ value_to t b i (suc d) k
value_to-enough t b i w zero k h g = absurd (omega arith)
value_to-enough t b i w (suc d) k h g =
    ap (λ x. t.pays k i +ℚ x) (over_children-same t k _ _ (λ c p l e. let after : t.parent c < c = w.after_parent c p l in ap (λ x. branch_probability t b c *ℚ x) (value_to-enough t b i w d c l (omega arith))))

-- the values obey the recursion
pub value-recurs : ValuesRecur
value-recurs t b i w k h = value_to-enough t b i w t.size k h (omega arith)

-- two that obey the recursion are the same
recursion_unique : (t : Tree) (b : Behaviour) (i : ℕ) (u v : ℕ → ℚ) → IsTree t → Recurs t b i u → Recurs t b i v → (d k : ℕ) → k < t.size → t.size ≤ d + k → u k ≡ v k
recursion_unique t b i u v w r s zero k h g = absurd (omega arith)
recursion_unique t b i u v w r s (suc d) k h g =
    r k h
    ∙ ap (λ x. t.pays k i +ℚ x) (over_children-same t k _ _ (λ c p l e. let after : t.parent c < c = w.after_parent c p l in ap (λ x. branch_probability t b c *ℚ x) (recursion_unique t b i u v w r s d c l (omega arith))))
    ∙ sym (s k h)

-- whatever obeys the recursion is the values
pub value-unique : ValuesAreUnique
value-unique t b i v w r k h = recursion_unique t b i v (value t b i) w r (value-recurs t b i w) t.size k h (omega arith)

-- an end has the value that its outcome pays, since it has no child
pub value-end : EndsPayTheirOutcome
value-end t b i k w h e =
    value-recurs t b i w k h ∙ ap (λ x. t.pays k i +ℚ x) (over_children-none t k _ (λ c p l q. let o = w.led_to c p l in cc (o.1, e, ap t.set q))) ∙ +ℚ-zero (t.pays k i)

-- the value of any other node, by its actions
pub value-by_actions : ValuesByActions
value-by_actions t b i k s child w h e g =
    value-recurs t b i w k h
    ∙ ap (λ x. t.pays k i +ℚ x) (over_children-by_actions t k s child _ w e g ∙ sum_to-same (t.actions s) _ _ (λ a m. ap (λ x. x *ℚ value t b i (child a)) (ap₂ (at_set t b) (ap t.set (g a m).2 ∙ e) (g a m).3)))
