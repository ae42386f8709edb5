-- Tests of trees that are written out: they compute, and what they tell.
use Rattle.std.proofs.Common.{ℕ, zero, suc, ◌<◌, ◌≡◌, Bool, true, false, Option, Some, None, refl, sym, ◌∙◌, pos}
use Rattle.std.specs.Prelude.{◌==◌, ◌&&◌, ◌||◌, nat_lt}
use Rattle.std.proofs.lemmas.Bool.Decides.{Decides-and, Decides-eqb, Decides-ltb, Decides-below_and, Decides-below_or}
use Rattle.std.proofs.lemmas.Bool.{and_parts}
use Rattle.rational.specs.Gcd.{gcd}
use Rattle.rational.specs.Rational.{is_lowest, frac, ◌+ℚ◌, ◌≤ℚ◌, zero_ℚ, one_ℚ}
use Rattle.rational.specs.Sum.{sum_to, IsDistribution}
use Rattle.game_theory.specs.Trees.{Tree, IsTree, IsChild}

-- ---- tests of many numbers
-- whether a test holds at each number below n
abbrev pub each_below : (ℕ → Bool) → ℕ → Bool
each_below p zero = true
each_below p (suc n) = p n && each_below p n

-- whether a test holds at some number below n
abbrev some_below : (ℕ → Bool) → ℕ → Bool
some_below p zero = false
some_below p (suc n) = p n || some_below p n

-- whether a test holds at a number, where there is one
abbrev pub if_any : Option ℕ → (ℕ → Bool) → Bool
if_any None p = true
if_any (Some x) p = p x

-- whether there is a number, and a test holds there
abbrev is_one : Option ℕ → (ℕ → Bool) → Bool
is_one None p = false
is_one (Some x) p = p x

-- whether a test holds where another one does
abbrev pub implies : Bool → Bool → Bool
implies true y = y
implies false y = true

-- the test holds at each of the numbers
pub each_below-tells : (p : ℕ → Bool) (n : ℕ) → each_below p n ≡ true → (k : ℕ) → k < n → p k ≡ true
each_below-tells p n = (Decides-below_and p (λ k. p k ≡ true) (each_below p) (λ k. (λ e. e, λ e. e)) refl (λ m. refl) n).0

-- there is such a number
some_below-tells : (p : ℕ → Bool) (n : ℕ) → some_below p n ≡ true → (k : ℕ) × (k < n) × (p k ≡ true)
some_below-tells p n = (Decides-below_or p (λ k. p k ≡ true) (some_below p) (λ k. (λ e. e, λ e. e)) refl (λ m. refl) n).0

-- the test holds at the number
pub if_any-tells : (o : Option ℕ) (p : ℕ → Bool) (x : ℕ) → if_any o p ≡ true → o ≡ Some x → p x ≡ true
if_any-tells None p x h e = cc
if_any-tells (Some y) p x h e = cc

-- there is a number, at which the test holds
is_one-tells : (o : Option ℕ) (p : ℕ → Bool) → is_one o p ≡ true → (x : ℕ) × (o ≡ Some x) × (p x ≡ true)
is_one-tells None p h = cc
is_one-tells (Some x) p h = (x, refl, h)

-- the second test holds
pub implies-tells : (x y : Bool) → implies x y ≡ true → x ≡ true → y ≡ true
implies-tells true y h e = h
implies-tells false y h e = cc

-- ---- the tests of a tree
-- whether action a of node k leads to node c
abbrev is_child : Tree → ℕ → ℕ → ℕ → Bool
is_child t k a c = nat_lt 0 c && (t.parent c == k && t.branch c == a)

-- whether each action of set s leads from node k to some node
abbrev actions_lead : Tree → ℕ → ℕ → Bool
actions_lead t k s = each_below (λ a. some_below (is_child t k a) t.size) (t.actions s)

-- whether the set of node k is one of the sets, with actions that lead on
abbrev node_fits : Tree → ℕ → Bool
node_fits t k = if_any (t.set k) (λ s. nat_lt s t.sets && actions_lead t k s)

-- whether node c is led to by an action
abbrev is_led_to : Tree → ℕ → Bool
is_led_to t c = is_one (t.set (t.parent c)) (λ s. nat_lt (t.branch c) (t.actions s))

-- whether the action that leads to node c leads to no other node
abbrev is_alone : Tree → ℕ → Bool
is_alone t c = each_below (λ d. implies (is_child t (t.parent c) (t.branch c) d) (c == d)) t.size

-- whether node c is the root, or stands after its parent, from which an action leads to it alone
abbrev edge_fits : Tree → ℕ → Bool
edge_fits t c = implies (nat_lt 0 c) (nat_lt (t.parent c) c && (is_led_to t c && is_alone t c))

-- whether the owner of set s is one of the players, and there is an action
abbrev set_fits : Tree → ℕ → Bool
set_fits t s = if_any (t.owner s) (λ i. nat_lt i t.players) && nat_lt 0 (t.actions s)

-- the tests of a tree hold
pub record PassesTests (t : Tree) : Type 0 where
  pub some_node : nat_lt 0 t.size ≡ true
  pub nodes : each_below (node_fits t) t.size ≡ true
  pub edges : each_below (edge_fits t) t.size ≡ true
  pub sets : each_below (set_fits t) t.sets ≡ true

-- ---- what they tell
-- a child, from its test
is_child-tells : (t : Tree) (k a c : ℕ) → is_child t k a c ≡ true → c < t.size → IsChild t k a c
is_child-tells t k a c h l =
    let p = and_parts (nat_lt 0 c) (t.parent c == k && t.branch c == a) h in
    let q = and_parts (t.parent c == k) (t.branch c == a) p.1 in
    ((Decides-ltb 0 c).0 p.0, l, (Decides-eqb (t.parent c) k).0 q.0, (Decides-eqb (t.branch c) a).0 q.1)

-- the test of a child
child-passes : (t : Tree) (k a c : ℕ) → IsChild t k a c → is_child t k a c ≡ true
child-passes t k a c h =
    (Decides-and (nat_lt 0 c) (t.parent c == k && t.branch c == a) (Decides-ltb 0 c) (Decides-and (t.parent c == k) (t.branch c == a) (Decides-eqb (t.parent c) k) (Decides-eqb (t.branch c) a))).1 (h.0, (h.2, h.3))

-- the set of a node
node-tells : (t : Tree) → PassesTests t → (k s : ℕ) → k < t.size → t.set k ≡ Some s → (nat_lt s t.sets ≡ true) × (actions_lead t k s ≡ true)
node-tells t w k s l e =
    and_parts (nat_lt s t.sets) (actions_lead t k s) (if_any-tells (t.set k) (λ s. nat_lt s t.sets && actions_lead t k s) s (each_below-tells (node_fits t) t.size w.nodes k l) e)

-- the child after an action
child-tells : (t : Tree) → PassesTests t → (k s a : ℕ) → k < t.size → t.set k ≡ Some s → a < t.actions s → (c : ℕ) × IsChild t k a c
child-tells t w k s a l e m =
    let o = some_below-tells (is_child t k a) t.size (each_below-tells (λ a. some_below (is_child t k a) t.size) (t.actions s) (node-tells t w k s l e).1 a m) in
    (o.0, is_child-tells t k a o.0 o.2 o.1)

-- the edge to a node
edge-tells : (t : Tree) → PassesTests t → (c : ℕ) → 0 < c → c < t.size → (nat_lt (t.parent c) c ≡ true) × ((is_led_to t c && is_alone t c) ≡ true)
edge-tells t w c p l =
    and_parts (nat_lt (t.parent c) c) (is_led_to t c && is_alone t c) (implies-tells (nat_lt 0 c) _ (each_below-tells (edge_fits t) t.size w.edges c l) ((Decides-ltb 0 c).1 p))

-- the action that leads to a node
action-tells : (t : Tree) → PassesTests t → (c : ℕ) → 0 < c → c < t.size → (s : ℕ) × (t.set (t.parent c) ≡ Some s) × (t.branch c < t.actions s)
action-tells t w c p l =
    let o = is_one-tells (t.set (t.parent c)) (λ s. nat_lt (t.branch c) (t.actions s)) (and_parts (is_led_to t c) (is_alone t c) (edge-tells t w c p l).1).0 in
    (o.0, o.1, (Decides-ltb (t.branch c) (t.actions o.0)).0 o.2)

-- no other node is after that action
alone-tells : (t : Tree) → PassesTests t → (c d : ℕ) → 0 < c → c < t.size → IsChild t (t.parent c) (t.branch c) d → c ≡ d
alone-tells t w c d p l h =
    let alone = each_below-tells (λ d. implies (is_child t (t.parent c) (t.branch c) d) (c == d)) t.size (and_parts (is_led_to t c) (is_alone t c) (edge-tells t w c p l).1).1 d h.1 in
    (Decides-eqb c d).0 (implies-tells (is_child t (t.parent c) (t.branch c) d) (c == d) alone (child-passes t (t.parent c) (t.branch c) d h))

-- the owner and the actions of a set
set-tells : (t : Tree) → PassesTests t → (s : ℕ) → s < t.sets → (if_any (t.owner s) (λ i. nat_lt i t.players) ≡ true) × (nat_lt 0 (t.actions s) ≡ true)
set-tells t w s l = and_parts (if_any (t.owner s) (λ i. nat_lt i t.players)) (nat_lt 0 (t.actions s)) (each_below-tells (set_fits t) t.sets w.sets s l)

-- what passes the tests, with chance_distributions for chance, is a tree
pub tree-tested : (t : Tree) → PassesTests t → ((s : ℕ) → s < t.sets → t.owner s ≡ None → IsDistribution (t.actions s) (t.chance s)) → IsTree t
tree-tested t w chance_distributions =
    record {
      some_node = (Decides-ltb 0 t.size).0 w.some_node;
      sets_within = λ k s l e. (Decides-ltb s t.sets).0 (node-tells t w k s l e).0;
      owners_within = λ s i l e. (Decides-ltb i t.players).0 (if_any-tells (t.owner s) (λ i. nat_lt i t.players) i (set-tells t w s l).0 e);
      some_action = λ s l. (Decides-ltb 0 (t.actions s)).0 (set-tells t w s l).1;
      after_parent = λ c p l. (Decides-ltb (t.parent c) c).0 (edge-tells t w c p l).0;
      led_to = action-tells t w;
      some_child = child-tells t w;
      one_child = λ k a c d p q. alone-tells t w c d p.0 p.1 (q.0, q.1, q.2 ∙ sym p.2, q.3 ∙ sym p.3);
      chance_distributions = chance_distributions;
    }

-- ---- chance_distributions
-- one half is not negative
half_not_negative : zero_ℚ ≤ℚ frac (pos 1) 2
unfolding frac gcd is_lowest
half_not_negative = record { cross = record { le = tt } }

-- two halves are 1
halves_sum : sum_to 2 (λ a. frac (pos 1) 2) ≡ one_ℚ
unfolding frac ◌+ℚ◌ gcd is_lowest
halves_sum = refl

-- two even chances are a lottery
pub coin_toss : (t : Tree) (s : ℕ) → t.actions s ≡ 2 → ((a : ℕ) → t.chance s a ≡ frac (pos 1) 2) → IsDistribution (t.actions s) (t.chance s)
coin_toss t s e h = record { not_negative = λ a l. rw (h a) half_not_negative; sum_is_one = rw (e, h 0, h 1) halves_sum }
