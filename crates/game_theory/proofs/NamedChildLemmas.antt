-- The child that an action of a node names.
use Rattle.std.proofs.Common.{ℕ, zero, suc, ◌<◌, ◌≡◌, ◌⊎◌, inl, inr, Bool, true, false, true≢false, Some, refl, sym, ◌∙◌, subst, arith}
use Rattle.std.specs.Prelude.{◌==◌, ◌&&◌, nat_lt, if◌then◌else◌}
use Rattle.std.specs.Bool.{Decides}
use Rattle.std.proofs.lemmas.Bool.{cases_lt}
use Rattle.std.proofs.lemmas.Bool.Decides.{Decides-and, Decides-eqb, Decides-ltb}
use Rattle.game_theory.specs.Trees.{Tree, IsTree, IsChild}
use Rattle.game_theory.specs.Behaviour.{is_parent}
use Rattle.game_theory.specs.Children.{last_below, child}

-- the last number below n that passes a test is one of them, or none passes
pub last_below-cases : (n : ℕ) (passes : ℕ → Bool) → ((last_below n passes < n) × (passes (last_below n passes) ≡ true)) ⊎ ((last_below n passes ≡ 0) × ((k : ℕ) → k < n → passes k ≡ false))
last_below-cases zero passes = inr (refl, λ k h. absurd (omega arith))
last_below-cases (suc n) passes = go (passes n) refl (last_below-cases n passes)
  where
    go : (b : Bool) → passes n ≡ b → ((last_below n passes < n) × (passes (last_below n passes) ≡ true)) ⊎ ((last_below n passes ≡ 0) × ((k : ℕ) → k < n → passes k ≡ false))
        → (((if b then n else last_below n passes) < suc n) × (passes (if b then n else last_below n passes) ≡ true)) ⊎ (((if b then n else last_below n passes) ≡ 0) × ((k : ℕ) → k < suc n → passes k ≡ false))
    go true e h = inl (omega arith, e)
    go false e (inl o) = inl (omega (arith, o.0), o.1)
    go false e (inr o) = inr (o.0, λ k l. elim (cases_lt k n) [ inl m ↦ o.1 k m | inr m ↦ (let same : k ≡ n = omega arith in subst (λ x. passes x ≡ false) (sym same) e) ])

-- the only number below n that passes a test
last_below-only : (n c : ℕ) (passes : ℕ → Bool) → c < n → passes c ≡ true → ((d : ℕ) → d < n → passes d ≡ true → d ≡ c) → last_below n passes ≡ c
last_below-only n c passes l h only = elim (last_below-cases n passes) [ inl o ↦ only _ o.0 o.1 | inr o ↦ absurd (true≢false (sym h ∙ o.1 c l)) ]

-- what the test of a child tells
is_child-decides : (t : Tree) (k a c : ℕ) → Decides (is_parent t k c && (t.branch c == a)) (((0 < c) × (t.parent c ≡ k)) × (t.branch c ≡ a))
is_child-decides t k a c = Decides-and (is_parent t k c) (t.branch c == a) (Decides-and (nat_lt 0 c) (t.parent c == k) (Decides-ltb 0 c) (Decides-eqb (t.parent c) k)) (Decides-eqb (t.branch c) a)

-- a node that is a child is the one that the action names
pub child-is : (t : Tree) (k a c : ℕ) → IsTree t → IsChild t k a c → child t k a ≡ c
child-is t k a c w h =
    last_below-only t.size c (λ d. is_parent t k d && (t.branch d == a)) h.1 ((is_child-decides t k a c).1 ((h.0, h.2), h.3))
    (λ d l p. let q = (is_child-decides t k a d).0 p in w.one_child k a d c (q.0.0, l, q.0.1, q.1) h)

-- each action of a node's set leads to the node that the action names
pub child-is_child : (t : Tree) (k s a : ℕ) → IsTree t → k < t.size → t.set k ≡ Some s → a < t.actions s → IsChild t k a (child t k a)
child-is_child t k s a w l e m = let c = w.some_child k s a l e m in subst (IsChild t k a) (sym (child-is t k a c.0 w c.1)) c.1

-- that node stands after
pub child-later : (t : Tree) (k s a : ℕ) → IsTree t → k < t.size → t.set k ≡ Some s → a < t.actions s → (k < child t k a) × (child t k a < t.size)
child-later t k s a w l e m =
    let c = child-is_child t k s a w l e m in
    let after = w.after_parent (child t k a) c.0 c.1 in
    (omega (arith, after, c.2), c.1)
