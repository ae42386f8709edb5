-- Sums over the nodes of a tree, and over its leaves.
use Rattle.std.proofs.Common.{ℕ, zero, suc, ◌<◌, ◌≡◌, Bool, true, false, Decides, Option, Some, None, inl, inr, eqb, cond, [], ◌∷◌, refl, sym, ap, ap₂, ◌∙◌, arith, tests}
use Rattle.std.specs.Prelude.{◌==◌, ◌&&◌, nat_lt}
use Rattle.std.proofs.lemmas.Bool.{cases_lt}
use Rattle.std.proofs.lemmas.Bool.Decides.{Decides-ltb}
use Rattle.rational.specs.Rational.{ℚ, ◌+ℚ◌, ◌*ℚ◌, zero_ℚ, one_ℚ}
use Rattle.rational.specs.Sum.{sum_to}
use Rattle.rational.proofs.RationalRing.{rational_ring, +ℚ-zero, *ℚ-one, *ℚ-add}
use Rattle.rational.proofs.Rules.{zero-+ℚ, one-*ℚ, zero-*ℚ, *ℚ-zero, +ℚ_cancel}
use Rattle.rational.proofs.SumLemmas.{sum_to-same, sum_to-add, sum_to-scale, sum_to-exchange, sum_to-zeros, sum_to-single, sum_to-scale_right}
use Rattle.rational.proofs.Ring.{ring, combine, ◌times◌is◌, num, ◌:+◌, ◌:*◌, :neg, A, B, C, D, E, F, G, H}
use Rattle.game_theory.specs.Mixed.{sure}
use Rattle.game_theory.specs.Trees.{Tree, IsTree, IsChild}
use Rattle.game_theory.specs.Behaviour.{Behaviour, action_probability, at_set, branch_probability, is_parent, value, payoff}
use Rattle.game_theory.proofs.ChildLemmas.{where_true, over_children, over_children-same, over_children-none, over_children-by_actions}
use Rattle.game_theory.proofs.ValueLemmas.{value-recurs}
use Rattle.sequence_forms.specs.Forms.{at_leaf, over_leaves}

-- ---- sums of children
-- a number counts as often as its test holds
where_sure : (p k : ℕ) (b : Bool) (v : ℚ) → where_true (b && (p == k)) v ≡ sure p k *ℚ where_true b v
where_sure p k true v = go (p == k) (eqb k p) (grind (arith, tests))
  where
    go : (b c : Bool) → b ≡ c → where_true b v ≡ cond c one_ℚ zero_ℚ *ℚ v
    go true true e = sym (one-*ℚ v)
    go false false e = sym (zero-*ℚ v)
    go true false e = cc
    go false true e = cc
where_sure p k false v = sym (*ℚ-zero (sure p k))

-- a node but the root is the child of one node
parents_of : (t : Tree) (c : ℕ) (v : ℚ) → IsTree t → c < t.size → sum_to t.size (λ k. where_true (is_parent t k c) v) ≡ where_true (nat_lt 0 c) v
parents_of t c v w l = sum_to-same t.size _ _ (λ k m. where_sure (t.parent c) k (nat_lt 0 c) v) ∙ go (nat_lt 0 c) (Decides-ltb 0 c)
  where
    go : (b : Bool) → Decides b (0 < c) → sum_to t.size (λ k. sure (t.parent c) k *ℚ where_true b v) ≡ where_true b v
    go true d =
        let after : t.parent c < c = w.after_parent c (d.0 refl) l in
        sum_to-single t.size (t.parent c) (λ k. v) (omega arith)
    go false d = sum_to-zeros t.size _ (λ k m. *ℚ-zero (sure (t.parent c) k))

-- the sum over the children of all nodes leaves out the root
children_of_all : (t : Tree) (f : ℕ → ℚ) → IsTree t → sum_to t.size (λ k. over_children t k f) ≡ sum_to t.size (λ c. where_true (nat_lt 0 c) (f c))
children_of_all t f w =
    sum_to-exchange t.size t.size (λ k c. where_true (is_parent t k c) (f c)) ∙ sum_to-same t.size _ _ (λ c l. parents_of t c (f c) w l)

-- a number after 0 counts
later_counts : (n : ℕ) (v : ℚ) → where_true (nat_lt 0 (suc n)) v ≡ v
later_counts n v = ap (λ b. where_true b v) ((Decides-ltb 0 (suc n)).1 (omega arith))

-- a sum over all nodes is the root's number and the sum of the others'
root_and_others : (n : ℕ) (f : ℕ → ℚ) → sum_to (suc n) f ≡ f 0 +ℚ sum_to (suc n) (λ c. where_true (nat_lt 0 c) (f c))
root_and_others zero f = ring rational_ring (f 0 ∷ []) (num 0 :+ A) (A :+ (num 0 :+ num 0)) refl
root_and_others (suc n) f =
    ap (λ x. x +ℚ f (suc n)) (root_and_others n f) ∙ ring rational_ring (f 0 ∷ sum_to (suc n) (λ c. where_true (nat_lt 0 c) (f c)) ∷ f (suc n) ∷ []) (A :+ B :+ C) (A :+ (B :+ C)) refl
    ∙ ap (λ x. f 0 +ℚ (sum_to (suc n) (λ c. where_true (nat_lt 0 c) (f c)) +ℚ x)) (sym (later_counts n (f (suc n))))

-- the same with the children of all nodes
pub root_and_children : (t : Tree) (f : ℕ → ℚ) → IsTree t → sum_to t.size f ≡ f 0 +ℚ sum_to t.size (λ k. over_children t k f)
root_and_children t f w = go t.size w.some_node ∙ ap (λ x. f 0 +ℚ x) (sym (children_of_all t f w))
  where
    go : (n : ℕ) → 0 < n → sum_to n f ≡ f 0 +ℚ sum_to n (λ c. where_true (nat_lt 0 c) (f c))
    go zero h = absurd (omega arith)
    go (suc n) h = root_and_others n f

-- a factor comes into a sum over children
scale_children : (t : Tree) (k : ℕ) (v : ℚ) (f : ℕ → ℚ) → v *ℚ over_children t k f ≡ over_children t k (λ c. v *ℚ f c)
scale_children t k v f = sym (sum_to-scale t.size v (λ c. where_true (is_parent t k c) (f c))) ∙ sum_to-same t.size _ _ (λ c l. go (is_parent t k c) (f c))
  where
    go : (b : Bool) (x : ℚ) → v *ℚ where_true b x ≡ where_true b (v *ℚ x)
    go true x = refl
    go false x = *ℚ-zero v

-- ---- weights of nodes
-- Weights of the nodes under behaviour: 1 at the root, and at each other node the parent's times the probability of the action
-- that leads to it.
pub record IsReaching (t : Tree) (b : Behaviour) (weight : ℕ → ℚ) : Type 0 where
  pub root : weight 0 ≡ one_ℚ
  pub child : (c : ℕ) → 0 < c → c < t.size → weight c ≡ branch_probability t b c *ℚ weight (t.parent c)

-- a weighted value is the weighted outcome and the children's weighted values
value_weighted : (t : Tree) (b : Behaviour) (i : ℕ) (weight : ℕ → ℚ) → IsTree t → IsReaching t b weight → (k : ℕ) → k < t.size
    → weight k *ℚ value t b i k ≡ weight k *ℚ t.pays k i +ℚ over_children t k (λ c. weight c *ℚ value t b i c)
value_weighted t b i weight w r k l =
    ap (λ x. weight k *ℚ x) (value-recurs t b i w k l)
    ∙ *ℚ-add (weight k) (t.pays k i) (over_children t k (λ c. branch_probability t b c *ℚ value t b i c))
    ∙ ap (λ x. weight k *ℚ t.pays k i +ℚ x) (scale_children t k (weight k) (λ c. branch_probability t b c *ℚ value t b i c) ∙ over_children-same t k _ _ (λ c p m e. step c p m e))
  where
    step : (c : ℕ) → 0 < c → c < t.size → t.parent c ≡ k → weight k *ℚ (branch_probability t b c *ℚ value t b i c) ≡ weight c *ℚ value t b i c
    step c p m e =
        ap (λ x. weight x *ℚ (branch_probability t b c *ℚ value t b i c)) (sym e)
        ∙ ring rational_ring (weight (t.parent c) ∷ branch_probability t b c ∷ value t b i c ∷ []) (A :* (B :* C)) (B :* A :* C) refl
        ∙ ap (λ x. x *ℚ value t b i c) (sym (r.child c p m))

-- a payoff is the sum of the weighted outcomes of all nodes
pub payoff_of_nodes : (t : Tree) (b : Behaviour) (i : ℕ) (weight : ℕ → ℚ) → IsTree t → IsReaching t b weight → payoff t b i ≡ sum_to t.size (λ k. weight k *ℚ t.pays k i)
payoff_of_nodes t b i weight w r =
    let v : ℕ → ℚ = λ k. weight k *ℚ value t b i k in
    let p : ℕ → ℚ = λ k. weight k *ℚ t.pays k i in
    sym (ap (λ x. x *ℚ value t b i 0) r.root ∙ one-*ℚ (value t b i 0))
    ∙ +ℚ_cancel (v 0) (sum_to t.size p) (sum_to t.size (λ k. over_children t k v)) (sym (root_and_children t v w) ∙ sum_to-same t.size _ _ (value_weighted t b i weight w r) ∙ sum_to-add t.size p (λ k. over_children t k v))

-- ---- leaves
-- weights that split among the children of each inner node
pub record Flows (t : Tree) (weight : ℕ → ℚ) : Type 0 where
  pub inner : (k s : ℕ) → k < t.size → t.set k ≡ Some s → over_children t k weight ≡ weight k

-- the node after each action of a node
abbrev Child : Tree → ℕ → ℕ → ℕ → Type 0
Child t k s a = (c : ℕ) × (a < t.actions s → IsChild t k a c)

child_after : (t : Tree) (k s : ℕ) → IsTree t → k < t.size → t.set k ≡ Some s → (a : ℕ) → Child t k s a
child_after t k s w l e a = elim (cases_lt a (t.actions s)) [
  | inl m ↦ let o = w.some_child k s a l e m in (o.0, λ n. o.1)
  | inr m ↦ (0, λ n. absurd (omega arith))
]

-- where the probabilities at each set sum to 1, the weights of nodes split
pub reaching_flows : (t : Tree) (b : Behaviour) (weight : ℕ → ℚ) → IsTree t → IsReaching t b weight → ((s : ℕ) → s < t.sets → sum_to (t.actions s) (action_probability t b s) ≡ one_ℚ) → Flows t weight
reaching_flows t b weight w r one = record { inner = inner }
  where
    inner : (k s : ℕ) → k < t.size → t.set k ≡ Some s → over_children t k weight ≡ weight k
    inner k s l e =
        let child : ℕ → ℕ = λ a. (child_after t k s w l e a).0 in
        let are = λ (a : ℕ) (m : a < t.actions s). (child_after t k s w l e a).1 m in
        over_children-by_actions t k s child weight w e are
        ∙ sum_to-same (t.actions s) _ (λ a. action_probability t b s a *ℚ weight k) (λ a m. let c = are a m in r.child (child a) c.0 c.1 ∙ ap₂ (λ x y. x *ℚ weight y) (ap₂ (at_set t b) (ap t.set c.2 ∙ e) c.3) c.2)
        ∙ sum_to-scale_right (t.actions s) (weight k) (action_probability t b s) ∙ ap (λ x. x *ℚ weight k) (one s (w.sets_within k s l e)) ∙ one-*ℚ (weight k)

-- totals along the paths: the root's own number, and at each other node the parent's total and its own number
pub record AddsUp (t : Tree) (own total : ℕ → ℚ) : Type 0 where
  pub root : total 0 ≡ own 0
  pub child : (c : ℕ) → 0 < c → c < t.size → total c ≡ total (t.parent c) +ℚ own c

-- a weighted total, at a leaf or passed on to the children
total_passed : (t : Tree) (weight total : ℕ → ℚ) → IsTree t → Flows t weight → (k : ℕ) → k < t.size
    → weight k *ℚ total k ≡ at_leaf (t.set k) (weight k *ℚ total k) +ℚ over_children t k (λ c. weight c *ℚ total (t.parent c))
total_passed t weight total w f k l = go (t.set k) refl
  where
    go : (o : Option ℕ) → t.set k ≡ o → weight k *ℚ total k ≡ at_leaf o (weight k *ℚ total k) +ℚ over_children t k (λ c. weight c *ℚ total (t.parent c))
    go None e =
        sym (ap (λ x. weight k *ℚ total k +ℚ x) (over_children-none t k _ (λ c p m q. let o = w.led_to c p m in cc (o.1, e, ap t.set q))) ∙ +ℚ-zero (weight k *ℚ total k))
    go (Some s) e =
        sym (zero-+ℚ (over_children t k (λ c. weight c *ℚ total (t.parent c)))
        ∙ over_children-same t k _ (λ c. total k *ℚ weight c) (λ c p m q. ap (λ x. weight c *ℚ total x) q ∙ ring rational_ring (weight c ∷ total k ∷ []) (A :* B) (B :* A) refl)
        ∙ sym (scale_children t k (total k) weight) ∙ ap (λ x. total k *ℚ x) (f.inner k s l e) ∙ ring rational_ring (total k ∷ weight k ∷ []) (A :* B) (B :* A) refl)

-- the weighted totals of the leaves are the weighted numbers of all nodes
pub leaves_of_nodes : (t : Tree) (weight own total : ℕ → ℚ) → IsTree t → Flows t weight → AddsUp t own total → over_leaves t (λ k. weight k *ℚ total k) ≡ sum_to t.size (λ k. weight k *ℚ own k)
leaves_of_nodes t weight own total w f s =
    let whole : ℕ → ℚ = λ k. weight k *ℚ total k in
    let mine : ℕ → ℚ = λ k. weight k *ℚ own k in
    let passed : ℕ → ℚ = λ c. weight c *ℚ total (t.parent c) in
    let all : sum_to t.size whole ≡ over_leaves t whole +ℚ sum_to t.size (λ k. over_children t k passed) =
    sum_to-same t.size _ _ (total_passed t weight total w f) ∙ sum_to-add t.size (λ k. at_leaf (t.set k) (whole k)) (λ k. over_children t k passed) in
    let split : sum_to t.size (λ k. over_children t k whole) ≡ sum_to t.size (λ k. over_children t k passed) +ℚ sum_to t.size (λ k. over_children t k mine) =
    sum_to-same t.size _ _ (λ k l. over_children-same t k whole (λ c. passed c +ℚ mine c) (λ c p m e. ap (λ x. weight c *ℚ x) (s.child c p m) ∙ *ℚ-add (weight c) (total (t.parent c)) (own c)) ∙ over_children-add t k passed mine) ∙ sum_to-add t.size (λ k. over_children t k passed) (λ k. over_children t k mine) in
    let first : whole 0 ≡ mine 0 = ap (λ x. weight 0 *ℚ x) s.root in
    combine rational_ring (over_leaves t whole ∷ sum_to t.size mine ∷ sum_to t.size whole ∷ sum_to t.size (λ k. over_children t k passed) ∷ sum_to t.size (λ k. over_children t k whole) ∷ sum_to t.size (λ k. over_children t k mine) ∷ whole 0 ∷ mine 0 ∷ [])
    ((:neg (num 1) times C is A :+ D) ∷ (num 1 times E is D :+ F) ∷ (num 1 times C is G :+ E) ∷ (:neg (num 1) times B is H :+ F) ∷ (num 1 times G is H) ∷ []) A B refl (all, (split, (root_and_children t whole w, (root_and_children t mine w, (first, tt)))))
  where
    over_children-add : (t : Tree) (k : ℕ) (f g : ℕ → ℚ) → over_children t k (λ c. f c +ℚ g c) ≡ over_children t k f +ℚ over_children t k g
    over_children-add t k f g = sum_to-same t.size _ _ (λ c l. go (is_parent t k c) (f c) (g c)) ∙ sum_to-add t.size (λ c. where_true (is_parent t k c) (f c)) (λ c. where_true (is_parent t k c) (g c))
      where
        go : (b : Bool) (x y : ℚ) → where_true b (x +ℚ y) ≡ where_true b x +ℚ where_true b y
        go true x y = refl
        go false x y = sym (+ℚ-zero zero_ℚ)

-- the weights of the leaves sum to that of the root
pub leaves_weigh : (t : Tree) (weight : ℕ → ℚ) → IsTree t → Flows t weight → over_leaves t weight ≡ weight 0
leaves_weigh t weight w f =
    sum_to-same t.size _ _ (λ k l. ap (at_leaf (t.set k)) (sym (*ℚ-one (weight k))))
    ∙ leaves_of_nodes t weight (sure 0) (λ k. one_ℚ) w f (record { root = refl; child = λ c p l. child c p })
    ∙ sum_to-same t.size _ (λ k. sure 0 k *ℚ weight k) (λ k l. ring rational_ring (weight k ∷ sure 0 k ∷ []) (A :* B) (B :* A) refl)
    ∙ sum_to-single t.size 0 weight w.some_node
  where
    child : (c : ℕ) → 0 < c → one_ℚ ≡ one_ℚ +ℚ sure 0 c
    child c p = let e : sure 0 c ≡ zero_ℚ = grind (arith, tests) in sym (ap (λ x. one_ℚ +ℚ x) e ∙ +ℚ-zero one_ℚ)
