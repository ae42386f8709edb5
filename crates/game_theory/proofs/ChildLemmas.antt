-- Sums over the children of a node.
use Rattle.std.proofs.Common.{ℕ, ◌<◌, ◌≡◌, ◌≢◌, Bool, true, false, Some, refl, sym, ap, ◌∙◌, subst, arith, tests}
use Rattle.std.specs.Prelude.{◌==◌, nat_lt}
use Rattle.std.specs.Bool.{Decides}
use Rattle.std.proofs.lemmas.Bool.Decides.{Decides-and, Decides-eqb, Decides-ltb}
use Rattle.rational.specs.Rational.{ℚ, ◌*ℚ◌, zero_ℚ, one_ℚ}
use Rattle.rational.specs.Sum.{sum_to}
use Rattle.rational.proofs.Rules.{one-*ℚ, zero-*ℚ}
use Rattle.rational.proofs.SumLemmas.{sum_to-same, sum_to-zeros, sum_to-single, sum_to-exchange, sum_to-scale_right}
use Rattle.game_theory.specs.Mixed.{sure}
use Rattle.game_theory.proofs.SureStrategyLemmas.{sure-other, sum_to-sure}
use Rattle.game_theory.specs.Trees.{Tree, IsTree, IsChild}
use Rattle.game_theory.specs.Behaviour.{is_parent}

-- a number where a test holds, and 0 elsewhere
abbrev pub where_true : Bool → ℚ → ℚ
where_true b x = elim b [ true ↦ x | false ↦ zero_ℚ ]

-- two numbers that are the same where the test holds
where_true-same : (b : Bool) (x y : ℚ) → (b ≡ true → x ≡ y) → where_true b x ≡ where_true b y
where_true-same true x y h = h refl
where_true-same false x y h = refl

-- a number whose test does not hold
where_true-never : (b : Bool) (x : ℚ) → b ≢ true → where_true b x ≡ zero_ℚ
where_true-never true x h = absurd (h refl)
where_true-never false x h = refl

-- a factor that is 1 or 0
where_true-one : (b : Bool) (x : ℚ) → where_true b one_ℚ *ℚ x ≡ where_true b x
where_true-one true x = one-*ℚ x
where_true-one false x = zero-*ℚ x

-- ---- sums over the children of a node
-- the sum of a number over the children of node k
abbrev pub over_children : Tree → ℕ → (ℕ → ℚ) → ℚ
over_children t k f = sum_to t.size (λ c. where_true (is_parent t k c) (f c))

-- what the test of a parent tells
is_parent-decides : (t : Tree) (k c : ℕ) → Decides (is_parent t k c) ((0 < c) × (t.parent c ≡ k))
is_parent-decides t k c = Decides-and (nat_lt 0 c) (t.parent c == k) (Decides-ltb 0 c) (Decides-eqb (t.parent c) k)

-- numbers that are the same at the children have the same sum
pub over_children-same : (t : Tree) (k : ℕ) (f g : ℕ → ℚ) → ((c : ℕ) → 0 < c → c < t.size → t.parent c ≡ k → f c ≡ g c) → over_children t k f ≡ over_children t k g
over_children-same t k f g h =
    sum_to-same t.size _ _ (λ c l. where_true-same (is_parent t k c) (f c) (g c) (λ e. let p = (is_parent-decides t k c).0 e in h c p.0 l p.1))

-- the sum where there is no child
pub over_children-none : (t : Tree) (k : ℕ) (f : ℕ → ℚ) → ((c : ℕ) → 0 < c → c < t.size → t.parent c ≢ k) → over_children t k f ≡ zero_ℚ
over_children-none t k f h =
    sum_to-zeros t.size _ (λ c l. where_true-never (is_parent t k c) (f c) (λ e. let p = (is_parent-decides t k c).0 e in h c p.0 l p.1))

-- ---- children by their actions
-- a sum over places counts each number as often as it is a place
sum_to-places : (n m : ℕ) (place : ℕ → ℕ) (f : ℕ → ℚ) → ((a : ℕ) → a < m → place a < n) → sum_to m (λ a. f (place a)) ≡ sum_to n (λ c. sum_to m (λ a. sure (place a) c) *ℚ f c)
sum_to-places n m place f h =
    sum_to-same m _ _ (λ a l. sym (sum_to-single n (place a) f (h a l))) ∙ sum_to-exchange m n (λ a c. sure (place a) c *ℚ f c) ∙ sum_to-same n _ _ (λ c l. sum_to-scale_right m (f c) (λ a. sure (place a) c))

-- two tests with one meaning
sure-same : (s t u v : ℕ) → (t ≡ s → v ≡ u) → (v ≡ u → t ≡ s) → sure s t ≡ sure u v
sure-same s t u v h g = grind (arith, tests)

-- the action that leads to a child of node k is one of its set
branch-below : (t : Tree) (k s c : ℕ) → IsTree t → t.set k ≡ Some s → 0 < c → c < t.size → t.parent c ≡ k → t.branch c < t.actions s
branch-below t k s c w e p l q =
    let o = w.led_to c p l in
    let same : o.0 ≡ s = cc (o.1, ap t.set q) in
    subst (λ x. t.branch c < t.actions x) same o.2

-- the actions of set s lead from node k to these nodes
abbrev pub AreChildren : Tree → ℕ → ℕ → (ℕ → ℕ) → Type 0
AreChildren t k s child = (a : ℕ) → a < t.actions s → IsChild t k a (child a)

-- a child of node k is the child of one action
times_led_to : (t : Tree) (k s c : ℕ) (child : ℕ → ℕ) → IsTree t → t.set k ≡ Some s → AreChildren t k s child → 0 < c → c < t.size → t.parent c ≡ k → sum_to (t.actions s) (λ a. sure (child a) c) ≡ one_ℚ
times_led_to t k s c child w e h p l q =
    sum_to-same (t.actions s) _ _ (λ a m. sure-same (child a) c (t.branch c) a (λ r. sym (h a m).3 ∙ ap t.branch (sym r)) (λ r. w.one_child k a c (child a) (p, l, q, sym r) (h a m)))
    ∙ sum_to-sure (t.actions s) (t.branch c) (branch-below t k s c w e p l q)

-- how often a node is the child of an action of node k
times_child : (t : Tree) (k s c : ℕ) (child : ℕ → ℕ) → IsTree t → t.set k ≡ Some s → AreChildren t k s child → c < t.size → sum_to (t.actions s) (λ a. sure (child a) c) ≡ where_true (is_parent t k c) one_ℚ
times_child t k s c child w e h l = go (is_parent t k c) (is_parent-decides t k c)
  where
    go : (b : Bool) → Decides b ((0 < c) × (t.parent c ≡ k)) → sum_to (t.actions s) (λ a. sure (child a) c) ≡ where_true b one_ℚ
    go true d = times_led_to t k s c child w e h (d.0 refl).0 l (d.0 refl).1
    go false d = sum_to-zeros (t.actions s) _ (λ a m. sure-other (child a) c (λ r. let q : false ≡ true = d.1 (subst (λ x. (0 < x) × (t.parent x ≡ k)) (sym r) ((h a m).0, (h a m).2)) in cc))

-- a sum over the children of a node, by the actions of its set
pub over_children-by_actions : (t : Tree) (k s : ℕ) (child : ℕ → ℕ) (f : ℕ → ℚ) → IsTree t → t.set k ≡ Some s → AreChildren t k s child → over_children t k f ≡ sum_to (t.actions s) (λ a. f (child a))
over_children-by_actions t k s child f w e h =
    sym (sum_to-places t.size (t.actions s) child f (λ a m. (h a m).1) ∙ sum_to-same t.size _ _ (λ c l. ap (λ x. x *ℚ f c) (times_child t k s c child w e h l) ∙ where_true-one (is_parent t k c) (f c)))
