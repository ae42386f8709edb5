-- The recursion of the reply values, and what they depend on.
use Rattle.std.proofs.Common.{ℕ, ◌<◌, ◌≤◌, ◌≡◌, ◌≢◌, ◌⊎◌, inl, inr, Bool, true, false, Decides, Some, None, [], ◌∷◌, refl, sym, ap, ap₂, ◌∙◌, arith}
use Rattle.std.proofs.lemmas.Bool.{cases_lt}
use Rattle.std.proofs.lemmas.Bool.Decides.{not_from_Decides}
use Rattle.rational.specs.Rational.{ℚ, ◌+ℚ◌, ◌*ℚ◌, zero_ℚ}
use Rattle.rational.specs.Sum.{sum_to}
use Rattle.rational.proofs.RationalRing.{rational_ring, *ℚ-add}
use Rattle.rational.proofs.Rules.{one-*ℚ, zero-*ℚ}
use Rattle.rational.proofs.SumLemmas.{sum_to-same, sum_to-zero, sum_to-zeros, sum_to-exchange, sum_to-scale, sum_to-single, sum_to-only}
use Rattle.rational.proofs.Ring.{ring, ◌:*◌, A, B, C}
use Rattle.game_theory.specs.Mixed.{sure}
use Rattle.game_theory.proofs.SureStrategyLemmas.{sure-at, sure-other}
use Rattle.game_theory.specs.Trees.{Tree, IsTree, IsChild}
use Rattle.game_theory.specs.Behaviour.{Behaviour, branch_probability, value, reply}
use Rattle.game_theory.proofs.ChildLemmas.{where_true, over_children-by_actions}
use Rattle.game_theory.proofs.ValueLemmas.{value-recurs, value-end}
use Rattle.game_theory.proofs.SubtreeLemmas.{value-agree}
use Rattle.game_theory.proofs.OwnSetLemmas.{is_index-decides}
use Rattle.best_replies.specs.Reaching.{weight}
use Rattle.best_replies.specs.Replies.{reply_value, is_member, follows}
use Rattle.best_replies.specs.Laws.{ReplyValuesRecur, RootReplyValueIsPayoff, ActionValuesByMembers, ReplyValuesDependOnSubtrees}
use Rattle.best_replies.proofs.NodeSumLemmas.{where_true-yes, where_true-zero, where_true-same, follows-decides}
use Rattle.best_replies.proofs.WeightLemmas.{own_or_not, if_own, if_other, branch-own, branch-other, reply-alike, step-to, weight-own, weight-other}

-- what a reply pays is the root's reply value
pub root-reply_value : RootReplyValueIsPayoff
root-reply_value t b i choice = one-*ℚ _

-- at an end
reply_value-end : (t : Tree) (b : Behaviour) (i : ℕ) (choice : ℕ → ℕ) (k : ℕ) → IsTree t → k < t.size → t.set k ≡ None → reply_value t b i choice k ≡ weight t b i k *ℚ t.pays k i
reply_value-end t b i choice k w l e = ap (λ x. weight t b i k *ℚ x) (value-end t (reply t b i choice) i k w l e)

-- the children of a node, by the actions of its set
some_children : (t : Tree) (k s : ℕ) → IsTree t → k < t.size → t.set k ≡ Some s → (child : ℕ → ℕ) × ((a : ℕ) → a < t.actions s → IsChild t k a (child a))
some_children t k s w l e = (λ a. pick a (cases_lt a (t.actions s)), λ a m. picked a (cases_lt a (t.actions s)) m)
  where
    pick : (a : ℕ) → (a < t.actions s) ⊎ (t.actions s ≤ a) → ℕ
    pick a (inl m) = (w.some_child k s a l e m).0
    pick a (inr m) = 0

    picked : (a : ℕ) (c : (a < t.actions s) ⊎ (t.actions s ≤ a)) → a < t.actions s → IsChild t k a (pick a c)
    picked a (inl m) n = (w.some_child k s a l e m).1
    picked a (inr m) n = absurd (omega arith)

module _ (t : Tree) (b : Behaviour) (i : ℕ) (choice : ℕ → ℕ) (w : IsTree t) where
  -- a node's weight times a child's part in its value
  child_part : ℕ → ℕ → ℚ
  child_part k c = weight t b i k *ℚ (branch_probability t (reply t b i choice) c *ℚ value t (reply t b i choice) i c)

  -- at a node with a set, by its actions
  by_children : (k s : ℕ) (child : ℕ → ℕ) → k < t.size → t.set k ≡ Some s → ((a : ℕ) → a < t.actions s → IsChild t k a (child a)) → reply_value t b i choice k ≡ (weight t b i k *ℚ t.pays k i) +ℚ sum_to (t.actions s) (λ a. child_part k (child a))
  unfolding child_part
  by_children k s child l e h =
      ap (λ x. weight t b i k *ℚ x) (value-recurs t (reply t b i choice) i w k l ∙ ap (λ x. t.pays k i +ℚ x) (over_children-by_actions t k s child _ w e h))
      ∙ *ℚ-add _ _ _ ∙ ap (λ x. (weight t b i k *ℚ t.pays k i) +ℚ x) (sym (sum_to-scale (t.actions s) (weight t b i k) _))

  -- a child's part at an own node: its reply value, where the action is chosen
  child_part-own : (k s a c : ℕ) → k < t.size → t.set k ≡ Some s → t.owner s ≡ Some i → IsChild t k a c → child_part k c ≡ sure (choice s) a *ℚ reply_value t b i choice c
  unfolding child_part
  child_part-own k s a c l e o h =
      let at = ap t.set h.2 ∙ e in
      ap₂ (λ x y. x *ℚ (y *ℚ value t (reply t b i choice) i c)) (ap (weight t b i) (sym h.2) ∙ sym (weight-own t b i c s w h.0 h.1 at o)) (branch-own t (reply t b i choice) i c s at o ∙ if_own t i s (sure (choice s) (t.branch c)) (b s (t.branch c)) o ∙ ap (sure (choice s)) h.3)
      ∙ ring rational_ring (weight t b i c ∷ sure (choice s) a ∷ value t (reply t b i choice) i c ∷ []) (A :* (B :* C)) (B :* (A :* C)) refl

  -- at any other node it is its reply value
  child_part-other : (k s a c : ℕ) → k < t.size → t.set k ≡ Some s → t.owner s ≢ Some i → IsChild t k a c → child_part k c ≡ reply_value t b i choice c
  unfolding child_part
  child_part-other k s a c l e apart h =
      let at = ap t.set h.2 ∙ e in
      let step = step-to t c s w h.0 h.1 at in
      ring rational_ring (weight t b i k ∷ branch_probability t (reply t b i choice) c ∷ value t (reply t b i choice) i c ∷ []) (A :* (B :* C)) (A :* B :* C) refl
      ∙ ap (λ x. x *ℚ value t (reply t b i choice) i c) (ap₂ (λ x y. x *ℚ y) (ap (weight t b i) (sym h.2)) (branch-other t i b (reply t b i choice) c s step.within step.branch_below (reply-alike t i b choice) at apart) ∙ sym (weight-other t b i c s w h.0 h.1 at apart))

  -- at any other node all children count
  pub reply_value-other : (k s : ℕ) (child : ℕ → ℕ) → k < t.size → t.set k ≡ Some s → t.owner s ≢ Some i → ((a : ℕ) → a < t.actions s → IsChild t k a (child a)) → reply_value t b i choice k ≡ (weight t b i k *ℚ t.pays k i) +ℚ sum_to (t.actions s) (λ a. reply_value t b i choice (child a))
  reply_value-other k s child l e apart h =
      by_children k s child l e h ∙ ap (λ x. (weight t b i k *ℚ t.pays k i) +ℚ x) (sum_to-same (t.actions s) _ _ (λ a m. child_part-other k s a (child a) l e apart (h a m)))

  -- at an own node the chosen child counts
  pub reply_value-own : (k s c : ℕ) → k < t.size → t.set k ≡ Some s → t.owner s ≡ Some i → choice s < t.actions s → IsChild t k (choice s) c → reply_value t b i choice k ≡ (weight t b i k *ℚ t.pays k i) +ℚ reply_value t b i choice c
  reply_value-own k s c l e o below h =
      let children = some_children t k s w l e in
      let child = children.0 in
      by_children k s child l e children.1
      ∙ ap (λ x. (weight t b i k *ℚ t.pays k i) +ℚ x) (sum_to-same (t.actions s) _ _ (λ a m. child_part-own k s a (child a) l e o (children.1 a m)) ∙ sum_to-single (t.actions s) (choice s) (λ a. reply_value t b i choice (child a)) below ∙ ap (reply_value t b i choice) (w.one_child k (choice s) (child (choice s)) c (children.1 (choice s) below) h))

-- the law of the recursion
pub reply_values-recur : ReplyValuesRecur
reply_values-recur =
    record {
      end = reply_value-end;
      own = λ t b i choice k s c w l e o below h. reply_value-own t b i choice w k s c l e o below h;
      other = λ t b i choice k s child w l e apart h. reply_value-other t b i choice w k s child l e apart h;
    }

-- ---- by members
-- what an action is worth, by the nodes of its set
pub action_value-by_members : ActionValuesByMembers
action_value-by_members t b i choice s a child w h =
    sum_to-same t.size _ _ (λ c l. sym (one_member c l)) ∙ sym (sum_to-exchange t.size t.size (λ k c. where_true (is_member t s k) (sure (child k) c *ℚ v c))) ∙ sum_to-same t.size _ _ by_member
  where
    v : ℕ → ℚ
    v = reply_value t b i choice

    -- a member's child
    by_member : (k : ℕ) → k < t.size → sum_to t.size (λ c. where_true (is_member t s k) (sure (child k) c *ℚ v c)) ≡ where_true (is_member t s k) (v (child k))
    by_member k l = go (is_member t s k) (is_index-decides (t.set k) s)
      where
        go : (m : Bool) → Decides m (t.set k ≡ Some s) → sum_to t.size (λ c. where_true m (sure (child k) c *ℚ v c)) ≡ where_true m (v (child k))
        go true d = sum_to-single t.size (child k) v (h k l (d.0 refl)).1
        go false d = sum_to-zero t.size

    -- a node after the action is the child of one member
    one_member : (c : ℕ) → c < t.size → sum_to t.size (λ k. where_true (is_member t s k) (sure (child k) c *ℚ v c)) ≡ where_true (follows t s a c) (v c)
    one_member c l = go (follows t s a c) (follows-decides t s a c)
      where
        -- a member whose child it is
        follows-child : (k : ℕ) → k < t.size → t.set k ≡ Some s → c ≡ child k → (0 < c) × ((t.set (t.parent c) ≡ Some s) × (t.branch c ≡ a))
        follows-child k n e q = let m = h k n e in rw q (m.0, (ap t.set m.2 ∙ e, m.3))

        go : (f : Bool) → Decides f ((0 < c) × ((t.set (t.parent c) ≡ Some s) × (t.branch c ≡ a))) → sum_to t.size (λ k. where_true (is_member t s k) (sure (child k) c *ℚ v c)) ≡ where_true f (v c)
        go true d =
            let at = d.0 refl in
            let after : t.parent c < c = w.after_parent c at.0 l in
            let inside : t.parent c < t.size = omega arith in
            let m = h (t.parent c) inside at.1.0 in
            let is_child : c ≡ child (t.parent c) = w.one_child (t.parent c) a c (child (t.parent c)) (at.0, l, refl, at.1.1) m in
            sum_to-only t.size (t.parent c) _ inside (λ k n apart. where_true-same (is_member t s k) _ zero_ℚ (is_index-decides (t.set k) s) (λ e. let mk = h k n e in ap (λ x. x *ℚ v c) (sure-other (child k) c (λ q. apart (sym mk.2 ∙ ap t.parent (sym q)))) ∙ zero-*ℚ (v c)) ∙ where_true-zero (is_member t s k))
            ∙ where_true-yes (is_member t s (t.parent c)) _ ((is_index-decides (t.set (t.parent c)) s).1 at.1.0)
            ∙ ap (λ x. sure x c *ℚ v c) (sym is_child) ∙ ap (λ x. x *ℚ v c) (sure-at c) ∙ one-*ℚ (v c)
        go false d =
            sum_to-zeros t.size _ (λ k n. where_true-same (is_member t s k) _ zero_ℚ (is_index-decides (t.set k) s) (λ e. ap (λ x. x *ℚ v c) (sure-other (child k) c (λ q. not_from_Decides false d refl (follows-child k n e q))) ∙ zero-*ℚ (v c)) ∙ where_true-zero (is_member t s k))

-- ---- what reply values depend on
-- the reply value of a node depends only on the choices in its subtree
pub reply_value-agree : ReplyValuesDependOnSubtrees
reply_value-agree t b i choice other k w l agree =
    ap (λ x. weight t b i k *ℚ x) (value-agree t (reply t b i choice) (reply t b i other) i k w l (λ c s j a within below e o m. elim (own_or_not t i s) [
      | inl own ↦ if_own t i s _ _ own ∙ ap (λ x. sure x a) (agree c s within below e own) ∙ sym (if_own t i s _ _ own)
      | inr apart ↦ if_other t i s _ _ apart ∙ sym (if_other t i s _ _ apart)
    ]))
