-- Sums over the nodes of a tree.
use Rattle.std.proofs.Common.{ℕ, zero, suc, ◌<◌, ◌≡◌, Bool, true, false, Decides, Some, [], ◌∷◌, refl, sym, ap, ◌∙◌, arith}
use Rattle.std.specs.Prelude.{◌==◌, ◌&&◌, nat_lt}
use Rattle.std.proofs.lemmas.Bool.Decides.{Decides-and, Decides-eqb, Decides-ltb}
use Rattle.rational.specs.Rational.{ℚ, ◌+ℚ◌, ◌*ℚ◌, zero_ℚ}
use Rattle.rational.specs.Sum.{sum_to}
use Rattle.rational.proofs.RationalRing.{rational_ring, +ℚ-zero}
use Rattle.rational.proofs.Rules.{*ℚ-zero}
use Rattle.rational.proofs.SumLemmas.{sum_to-same, sum_to-zeros, sum_to-exchange, sum_to-scale, sum_to-add, sum_to-only}
use Rattle.rational.proofs.Ring.{ring, num, ◌:+◌, A, B, C}
use Rattle.game_theory.specs.Trees.{Tree, IsTree}
use Rattle.game_theory.specs.Behaviour.{is_parent}
use Rattle.game_theory.proofs.ChildLemmas.{where_true, over_children}
use Rattle.game_theory.proofs.OwnSetLemmas.{is_index-decides}
use Rattle.best_replies.specs.Replies.{is_member, follows}

-- ---- numbers where a test holds
-- the test holds
pub where_true-yes : (b : Bool) (x : ℚ) → b ≡ true → where_true b x ≡ x
where_true-yes true x e = refl
where_true-yes false x e = cc

-- what the test decides does not hold
pub where_true-no : {P : Type 0} (b : Bool) (x : ℚ) → Decides b P → (P → ⊥) → where_true b x ≡ zero_ℚ
where_true-no true x d h = absurd (h (d.0 refl))
where_true-no false x d h = refl

-- equal numbers where what the test decides holds
pub where_true-same : {P : Type 0} (b : Bool) (x y : ℚ) → Decides b P → (P → x ≡ y) → where_true b x ≡ where_true b y
where_true-same true x y d h = h (d.0 refl)
where_true-same false x y d h = refl

-- 0 either way
pub where_true-zero : (b : Bool) → where_true b zero_ℚ ≡ zero_ℚ
where_true-zero true = refl
where_true-zero false = refl

-- a factor
pub where_true-scale : (b : Bool) (c x : ℚ) → where_true b (c *ℚ x) ≡ c *ℚ where_true b x
where_true-scale true c x = refl
where_true-scale false c x = sym (*ℚ-zero c)

-- a sum
where_true-add : (b : Bool) (x y : ℚ) → where_true b (x +ℚ y) ≡ where_true b x +ℚ where_true b y
where_true-add true x y = refl
where_true-add false x y = sym (+ℚ-zero zero_ℚ)

-- a factor of a sum over the numbers that pass a test
pub tested_sum-scale : (n : ℕ) (test : ℕ → Bool) (c : ℚ) (f : ℕ → ℚ) → c *ℚ sum_to n (λ x. where_true (test x) (f x)) ≡ sum_to n (λ x. where_true (test x) (c *ℚ f x))
tested_sum-scale n test c f = sym (sum_to-scale n c _) ∙ sum_to-same n _ _ (λ x l. sym (where_true-scale (test x) c (f x)))

-- ---- children
-- a sum over children of sums
pub over_children-add : (t : Tree) (k : ℕ) (f g : ℕ → ℚ) → over_children t k f +ℚ over_children t k g ≡ over_children t k (λ x. f x +ℚ g x)
over_children-add t k f g = sym (sum_to-add t.size _ _) ∙ sum_to-same t.size _ _ (λ x l. sym (where_true-add (is_parent t k x) (f x) (g x)))

-- what the test of a parent tells, whatever the parents are
pub child-decides : (parent : ℕ → ℕ) (k c : ℕ) → Decides (nat_lt 0 c && (parent c == k)) ((0 < c) × (parent c ≡ k))
child-decides parent k c = Decides-and (nat_lt 0 c) (parent c == k) (Decides-ltb 0 c) (Decides-eqb (parent c) k)

-- a number at a node below the root, and 0 at the root
abbrev pub below_root : ℕ → ℚ → ℚ
below_root zero x = zero_ℚ
below_root (suc c) x = x

-- equal numbers below the root
pub below_root-same : (c : ℕ) (x y : ℚ) → (0 < c → x ≡ y) → below_root c x ≡ below_root c y
below_root-same zero x y h = refl
below_root-same (suc c) x y h = h (omega arith)

-- a node below the root is the child of its parent alone
only_parent : (t : Tree) (F : ℕ → ℕ → ℚ) → IsTree t → (c : ℕ) → c < t.size → sum_to t.size (λ k. where_true (is_parent t k c) (F k c)) ≡ below_root c (F (t.parent c) c)
only_parent t F w zero l =
    sum_to-zeros t.size _ (λ k m. where_true-no (is_parent t k 0) (F k 0) (child-decides t.parent k 0) (λ h. absurd (omega (arith, h.0))))
only_parent t F w (suc j) l =
    let after : t.parent (suc j) < suc j = w.after_parent (suc j) (omega arith) l in
    sum_to-only t.size (t.parent (suc j)) _ (omega arith) (λ k m apart. where_true-no (is_parent t k (suc j)) (F k (suc j)) (child-decides t.parent k (suc j)) (λ h. apart (sym h.1)))
    ∙ where_true-yes (is_parent t (t.parent (suc j)) (suc j)) (F (t.parent (suc j)) (suc j)) ((child-decides t.parent (t.parent (suc j)) (suc j)).1 (omega arith, refl))

-- the sums over the children of all nodes make the sum over the nodes below the root
pub each_child_once : (t : Tree) (F : ℕ → ℕ → ℚ) → IsTree t → sum_to t.size (λ k. over_children t k (F k)) ≡ sum_to t.size (λ c. below_root c (F (t.parent c) c))
each_child_once t F w = sum_to-exchange t.size t.size (λ k c. where_true (is_parent t k c) (F k c)) ∙ sum_to-same t.size _ _ (λ c l. only_parent t F w c l)

-- a sum is the root's term and the others
pub root_apart : (n : ℕ) (f : ℕ → ℚ) → 0 < n → sum_to n f ≡ f 0 +ℚ sum_to n (λ c. below_root c (f c))
root_apart zero f h = absurd (omega arith)
root_apart (suc zero) f h = ring rational_ring (f 0 ∷ []) (num 0 :+ A) (A :+ (num 0 :+ num 0)) refl
root_apart (suc (suc m)) f h =
    ap (λ x. x +ℚ f (suc m)) (root_apart (suc m) f (omega arith)) ∙ ring rational_ring (f 0 ∷ sum_to (suc m) (λ c. below_root c (f c)) ∷ f (suc m) ∷ []) (A :+ B :+ C) (A :+ (B :+ C)) refl

-- ---- actions
-- what the test of an action tells
pub follows-decides : (t : Tree) (s a c : ℕ) → Decides (follows t s a c) ((0 < c) × ((t.set (t.parent c) ≡ Some s) × (t.branch c ≡ a)))
follows-decides t s a c =
    Decides-and (nat_lt 0 c) _ (Decides-ltb 0 c) (Decides-and (is_member t s (t.parent c)) (t.branch c == a) (is_index-decides (t.set (t.parent c)) s) (Decides-eqb (t.branch c) a))

-- a node below the root follows one action of one set
one_action : (t : Tree) (F : ℕ → ℚ) → IsTree t → (c : ℕ) → c < t.size → below_root c (F c) ≡ sum_to t.sets (λ s. sum_to (t.actions s) (λ a. where_true (follows t s a c) (F c)))
one_action t F w zero l =
    sym (sum_to-zeros t.sets _ (λ s m. sum_to-zeros (t.actions s) _ (λ a n. where_true-no (follows t s a 0) (F 0) (follows-decides t s a 0) (λ h. absurd (omega (arith, h.0))))))
one_action t F w (suc j) l =
    let led = w.led_to (suc j) (omega arith) l in
    let after : t.parent (suc j) < suc j = w.after_parent (suc j) (omega arith) l in
    let within : led.0 < t.sets = w.sets_within (t.parent (suc j)) led.0 (omega arith) led.1 in
    sym (
    sum_to-only t.sets led.0 _ within (λ s m apart. sum_to-zeros (t.actions s) _ (λ a n. where_true-no (follows t s a (suc j)) _ (follows-decides t s a (suc j)) (λ h. let same : Some s ≡ Some led.0 = sym h.1.0 ∙ led.1 in apart (cc))))
    ∙ sum_to-only (t.actions led.0) (t.branch (suc j)) _ led.2 (λ a n apart. where_true-no (follows t led.0 a (suc j)) _ (follows-decides t led.0 a (suc j)) (λ h. apart (sym h.1.1)))
    ∙ where_true-yes (follows t led.0 (t.branch (suc j)) (suc j)) (F (suc j)) ((follows-decides t led.0 (t.branch (suc j)) (suc j)).1 (omega arith, (led.1, refl)))
    )

-- a sum over the nodes below the root, set by set and action by action
pub by_actions : (t : Tree) (F : ℕ → ℚ) → IsTree t → sum_to t.size (λ c. below_root c (F c)) ≡ sum_to t.sets (λ s. sum_to (t.actions s) (λ a. sum_to t.size (λ c. where_true (follows t s a c) (F c))))
by_actions t F w =
    sum_to-same t.size _ _ (one_action t F w)
    ∙ sum_to-exchange t.size t.sets (λ c s. sum_to (t.actions s) (λ a. where_true (follows t s a c) (F c)))
    ∙ sum_to-same t.sets _ _ (λ s l. sum_to-exchange t.size (t.actions s) (λ c a. where_true (follows t s a c) (F c)))
