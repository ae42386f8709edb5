-- The entry game: its equilibria in which no choice is random.
use Rattle.std.proofs.Common.{ℕ, zero, suc, ◌<◌, ◌≤◌, ◌≡◌, ◌⊎◌, inl, inr, refl, sym, ◌∙◌, subst, arith}
use Rattle.std.proofs.lemmas.Bool.{cases_lt}
use Rattle.lists.proofs.NumberLemmas.{below_two}
use Rattle.rational.specs.Gcd.{gcd}
use Rattle.rational.specs.Rational.{ℚ, is_lowest, frac, ◌+ℚ◌, ◌*ℚ◌, ◌≤ℚ◌, ◌<ℚ◌, zero_ℚ, one_ℚ}
use Rattle.rational.specs.Sum.{sum_to}
use Rattle.rational.proofs.Field.{lt_irrefl}
use Rattle.rational.proofs.SumLemmas.{sum_to-zeros}
use Rattle.rational.proofs.InverseLemmas.{zero_lt_one}
use Rattle.game_theory.specs.Mixed.{sure}
use Rattle.game_theory.proofs.SureStrategyLemmas.{sure-other, sure-not_negative, sum_to-sure}
use Rattle.game_theory.specs.Trees.{IsTree}
use Rattle.game_theory.specs.Behaviour.{IsChoice, payoff, pure, reply}
use Rattle.game_theory.specs.TreeEquilibrium.{IsEquilibrium}
use Rattle.game_theory.specs.TreeExamples.{entry_game, both, EntryHasTwoPureEquilibria}
use Rattle.game_theory.proofs.TreeTestLemmas.{tree-tested, coin_toss}

-- the entry game is a tree
entry-tree : IsTree entry_game
entry-tree =
    tree-tested entry_game (record { some_node = refl; nodes = refl; edges = refl; sets = refl }) (λ s l e. coin_toss entry_game s refl (λ a. refl))

-- what player i gets where the firms choose these actions
abbrev gets : ℕ → ℕ → ℕ → ℚ
gets first second i = payoff entry_game (pure (both first second)) i

-- neither firm has a better action
abbrev IsStable : ℕ → ℕ → Type 0
IsStable x y = ((a : ℕ) → a < 2 → gets a y 0 ≤ℚ gets x y 0) × ((a : ℕ) → a < 2 → gets x a 1 ≤ℚ gets x y 1)

-- ---- choices as two actions
-- a choice is played with probability 1 only where there is such an action
choice-below : (n s : ℕ) → sum_to n (sure s) ≡ one_ℚ → s < n
choice-below n s e = elim (cases_lt s n) [ inl h ↦ h | inr h ↦ absurd (never h) ]
  where
    never : n ≤ s → ⊥
    never h =
        let none : zero_ℚ ≡ one_ℚ = sym (sum_to-zeros n (sure s) (λ t l. sure-other s t (λ r. absurd (omega arith)))) ∙ e in
        lt_irrefl zero_ℚ (subst (λ x. zero_ℚ <ℚ x) (sym none) zero_lt_one)

-- two actions that are below a bound
both-below : (x y n s : ℕ) → x < n → y < n → both x y s < n
both-below x y n zero h l = h
both-below x y n (suc s) h l = l

-- at an equilibrium neither firm has a better action
stable_at_equilibrium : (choice : ℕ → ℕ) → IsEquilibrium entry_game (pure choice) → IsStable (choice 0) (choice 1)
stable_at_equilibrium choice e =
    (λ a h. e.no_better_reply 0 (both a a) (omega arith) (λ s p o. both-below a a 2 s h h), λ a h. e.no_better_reply 1 (both a a) (omega arith) (λ s p o. both-below a a 2 s h h))

-- where neither firm has a better action there is an equilibrium
equilibrium_where_stable : (x y : ℕ) → x < 2 → y < 2 → IsStable x y → IsEquilibrium entry_game (pure (both x y))
equilibrium_where_stable x y h l best =
    record {
      valid = λ s i p o. record { not_negative = λ a q. sure-not_negative (both x y s) a; sum_is_one = sum_to-sure 2 (both x y s) (both-below x y 2 s h l) };
      no_better_reply = λ i choice p c. below_two (λ j. IsChoice entry_game j choice → payoff entry_game (reply entry_game (pure (both x y)) j choice) j ≤ℚ gets x y j) (λ d. best.0 (choice 0) (d 0 (omega arith) refl)) (λ d. best.1 (choice 1) (d 1 (omega arith) refl)) i p c;
    }

-- ---- the four pairs of actions
-- to stay out against a fight
stable-00 : IsStable 0 0
unfolding frac ◌+ℚ◌ ◌*ℚ◌ gcd is_lowest
stable-00 =
    (below_two (λ a. gets a 0 0 ≤ℚ gets 0 0 0) (record { cross = record { le = tt } }) (record { cross = record { le = tt } }), below_two (λ a. gets 0 a 1 ≤ℚ gets 0 0 1) (record { cross = record { le = tt } }) (record { cross = record { le = tt } }))

-- to enter a market that is shared
stable-11 : IsStable 1 1
unfolding frac ◌+ℚ◌ ◌*ℚ◌ gcd is_lowest
stable-11 =
    (below_two (λ a. gets a 1 0 ≤ℚ gets 1 1 0) (record { cross = record { le = tt } }) (record { cross = record { le = tt } }), below_two (λ a. gets 1 a 1 ≤ℚ gets 1 1 1) (record { cross = record { le = tt } }) (record { cross = record { le = tt } }))

-- who stays out of a market that would be shared does better to enter
unstable-01 : IsStable 0 1 → ⊥
unfolding frac ◌+ℚ◌ ◌*ℚ◌ gcd is_lowest
unstable-01 s = (s.0 1 (omega arith)).cross.le

-- who fights an entry does better to share
unstable-10 : IsStable 1 0 → ⊥
unfolding frac ◌+ℚ◌ ◌*ℚ◌ gcd is_lowest
unstable-10 s = (s.1 1 (omega arith)).cross.le

-- the two pairs that are left
abbrev BothOutOrIn : ℕ → ℕ → Type 0
BothOutOrIn x y = ((x ≡ 0) × (y ≡ 0)) ⊎ ((x ≡ 1) × (y ≡ 1))

-- neither firm has a better action at these two alone
stable_pairs : (x y : ℕ) → x < 2 → y < 2 → IsStable x y → BothOutOrIn x y
stable_pairs x y h l =
    below_two (λ v. (w : ℕ) → w < 2 → IsStable v w → BothOutOrIn v w) (below_two (λ w. IsStable 0 w → BothOutOrIn 0 w) (λ s. inl (refl, refl)) (λ s. absurd (unstable-01 s))) (below_two (λ w. IsStable 1 w → BothOutOrIn 1 w) (λ s. absurd (unstable-10 s)) (λ s. inr (refl, refl))) x h y l

-- the law of the game
pub entry-equilibria : EntryHasTwoPureEquilibria
entry-equilibria =
    record {
      tree = entry-tree;
      stays_out = equilibrium_where_stable 0 0 (omega arith) (omega arith) stable-00;
      enters = equilibrium_where_stable 1 1 (omega arith) (omega arith) stable-11;
      no_other = λ choice e. stable_pairs (choice 0) (choice 1) (choice-below 2 (choice 0) ((e.valid 0 0 (omega arith) refl).sum_is_one)) (choice-below 2 (choice 1) ((e.valid 1 1 (omega arith) refl).sum_is_one)) (stable_at_equilibrium choice e);
    }
