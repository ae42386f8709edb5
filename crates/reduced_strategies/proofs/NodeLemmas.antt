-- The nodes that can be reached under a reduced strategy determine it.
use Rattle.std.proofs.Common.{ℕ, suc, ◌-◌, ◌<◌, ◌≤◌, ◌≡◌, inl, inr, Some, List, sym, ap, ◌∙◌, subst, arith}
use Rattle.std.proofs.lemmas.Bool.{cases_lt}
use Rattle.game_theory.specs.OwnSets.{own_sets}
use Rattle.game_theory.proofs.OwnSetLemmas.{own_sets-tell, own_sets-ascend}
use Rattle.game_theory.specs.Trees.{Tree, IsTree}
use Rattle.game_theory.specs.Recall.{own_history}
use Rattle.reduced_strategies.specs.Choices.{Agrees, choice_at, IsReduced}
use Rattle.reduced_strategies.specs.Laws.{NodesDetermineStrategies}
use Rattle.reduced_strategies.proofs.SetLemmas.{choice_at-among, choice_at-determines}
use Rattle.reduced_strategies.proofs.AgreementLemmas.{agrees_at_child}

-- the action at a set leads from one of its nodes to this node, whose own history agrees with the choices
record Leads (t : Tree) (i : ℕ) (choice : ℕ → ℕ) (s : ℕ) : Type 0 where
  child : ℕ
  after_root : 0 < child
  is_node : child < t.size
  from_set : t.set (t.parent child) ≡ Some s
  by_action : choice s ≡ suc (t.branch child)
  agrees : Agrees choice (own_history t i child)

-- each action of a reduced strategy leads to such a node
given-leads : (t : Tree) (i : ℕ) (choices : List ℕ) (s : ℕ) → IsTree t → IsReduced t i choices → 0 < choice_at (own_sets t i) choices s → Leads t i (choice_at (own_sets t i) choices) s
given-leads t i choices s w r h =
    let own = own_sets-tell t i s (choice_at-among (own_sets t i) choices s h) in
    let reached = (r.fixed_where_reached s own.0 own.1).0 h in
    let below : choice_at (own_sets t i) choices s ≤ t.actions s = r.are_actions s in
    let child = w.some_child reached.0 s (choice_at (own_sets t i) choices s - 1) reached.1 reached.2 (omega arith) in
    let edge = child.1 in
    let from : t.set (t.parent child.0) ≡ Some s = ap t.set edge.2 ∙ reached.2 in
    let action : choice_at (own_sets t i) choices s ≡ suc (t.branch child.0) = omega (arith, edge.3) in
    let front : Agrees (choice_at (own_sets t i) choices) (own_history t i (t.parent child.0)) = subst (λ x. Agrees (choice_at (own_sets t i) choices) (own_history t i x)) (sym edge.2) reached.3 in
    record {
      child = child.0;
      after_root = edge.0;
      is_node = edge.1;
      from_set = from;
      by_action = action;
      agrees = (agrees_at_child t i child.0 s (choice_at (own_sets t i) choices) w edge.0 edge.1 from).1 (front, λ o. action);
    }

-- choices that agree with that node's history have the same action at the set, if it is the player's own
leads-same : (t : Tree) (i : ℕ) (choice other : ℕ → ℕ) (s : ℕ) → IsTree t → t.owner s ≡ Some i → (l : Leads t i choice s) → Agrees other (own_history t i l.child) → other s ≡ choice s
leads-same t i choice other s w o l h =
    ((agrees_at_child t i l.child s other w l.after_root l.is_node l.from_set).0 h).1 o ∙ sym l.by_action

-- choices agree with each history with which the first do
abbrev AgreeWithin : Tree → ℕ → (ℕ → ℕ) → (ℕ → ℕ) → Type 0
AgreeWithin t i choice other = (k : ℕ) → k < t.size → Agrees choice (own_history t i k) → Agrees other (own_history t i k)

-- then they have each action of the first, where those are a reduced strategy
same-where_given : (t : Tree) (i : ℕ) (choices : List ℕ) (other : ℕ → ℕ) (s : ℕ) → IsTree t → IsReduced t i choices → AgreeWithin t i (choice_at (own_sets t i) choices) other → 0 < choice_at (own_sets t i) choices s → other s ≡ choice_at (own_sets t i) choices s
same-where_given t i choices other s w r h p =
    let own = own_sets-tell t i s (choice_at-among (own_sets t i) choices s p) in
    let l = given-leads t i choices s w r p in
    leads-same t i (choice_at (own_sets t i) choices) other s w own.1 l (h l.child l.is_node l.agrees)

-- numbers that are equal where either is positive are equal
equal_where_positive : (x y : ℕ) → (0 < x → y ≡ x) → (0 < y → x ≡ y) → x ≡ y
equal_where_positive x y f g = elim (cases_lt 0 x) [ inl p ↦ sym (f p) | inr p ↦ elim (cases_lt 0 y) [ inl q ↦ g q | inr q ↦ omega arith ] ]

-- two reduced strategies under which the same nodes can be reached are one
pub nodes-tell : NodesDetermineStrategies
nodes-tell t i one other w p q h =
    choice_at-determines 0 (own_sets t i) one other (own_sets-ascend t i) p.one_for_each q.one_for_each (λ s. equal_where_positive _ _ (same-where_given t i one (choice_at (own_sets t i) other) s w p (λ k l. (h k l).0)) (same-where_given t i other (choice_at (own_sets t i) one) s w q (λ k l. (h k l).1)))
