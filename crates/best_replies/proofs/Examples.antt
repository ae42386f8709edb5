-- Best replies in the entry game.
use Rattle.std.proofs.Common.{ℕ, zero, suc, ◌<◌, ◌≡◌, true, Some, refl, ap, arith}
use Rattle.lists.proofs.NumberLemmas.{below_two}
use Rattle.rational.specs.Gcd.{gcd}
use Rattle.rational.specs.Rational.{ℚ, is_lowest, frac, ◌+ℚ◌, ◌*ℚ◌, ◌≤ℚ◌, ◌<ℚ◌}
use Rattle.rational.specs.Tests.{le_test, lt_test}
use Rattle.rational.proofs.Decide.{le_test-true, lt_test-true}
use Rattle.game_theory.specs.Behaviour.{pure}
use Rattle.game_theory.specs.TreeExamples.{entry_game, both}
use Rattle.best_replies.specs.Greatest.{IsFirstGreatest}
use Rattle.game_theory.specs.FirstNodes.{AreNumberedByFirstNodes}
use Rattle.best_replies.specs.Replies.{action_value, AreBestChoices}
use Rattle.best_replies.specs.Examples.{BestRepliesInTheEntryGame}

-- the first of two is the first of the greatest
first_of_two : (v : ℕ → ℚ) → le_test (v 1) (v 0) ≡ true → le_test (v 0) (v 0) ≡ true → IsFirstGreatest 2 v 0
first_of_two v h g =
    record { within = omega arith; greatest = below_two (λ c. v c ≤ℚ v 0) ((le_test-true (v 0) (v 0)).0 g) ((le_test-true (v 1) (v 0)).0 h); first = λ c l. absurd (omega (arith, l)) }

-- the second of two is
second_of_two : (v : ℕ → ℚ) → lt_test (v 0) (v 1) ≡ true → le_test (v 0) (v 1) ≡ true → le_test (v 1) (v 1) ≡ true → IsFirstGreatest 2 v 1
second_of_two v h g f =
    record { within = omega arith; greatest = below_two (λ c. v c ≤ℚ v 1) ((le_test-true (v 0) (v 1)).0 g) ((le_test-true (v 1) (v 1)).0 f); first = first }
  where
    first : (c : ℕ) → c < 1 → v c <ℚ v 1
    first zero l = (lt_test-true (v 0) (v 1)).0 h
    first (suc c) l = absurd (omega arith)

-- ---- the entry game
-- a firm's only set
one_set : (P : ℕ → Type 0) (i : ℕ) → i < 2 → P i → (s : ℕ) → s < 2 → entry_game.owner s ≡ Some i → P s
one_set P =
    below_two (λ i. P i → (s : ℕ) → s < 2 → entry_game.owner s ≡ Some i → P s) (λ p. below_two (λ s. entry_game.owner s ≡ Some 0 → P s) (λ e. p) (λ e. cc)) (λ p. below_two (λ s. entry_game.owner s ≡ Some 1 → P s) (λ e. cc) (λ e. p))

against-fight : AreBestChoices entry_game (pure (both 0 0)) 0 (both 0 0)
unfolding frac ◌+ℚ◌ ◌*ℚ◌ gcd is_lowest le_test
against-fight = one_set (λ s. IsFirstGreatest 2 (action_value entry_game (pure (both 0 0)) 0 (both 0 0) s) (both 0 0 s)) 0 (omega arith) (first_of_two (action_value entry_game (pure (both 0 0)) 0 (both 0 0) 0) refl refl)

against-sharing : AreBestChoices entry_game (pure (both 0 1)) 0 (both 1 0)
unfolding frac ◌+ℚ◌ ◌*ℚ◌ gcd is_lowest le_test lt_test
against-sharing = one_set (λ s. IsFirstGreatest 2 (action_value entry_game (pure (both 0 1)) 0 (both 1 0) s) (both 1 0 s)) 0 (omega arith) (second_of_two (action_value entry_game (pure (both 0 1)) 0 (both 1 0) 0) refl refl refl)

not-reached : AreBestChoices entry_game (pure (both 0 1)) 1 (both 0 0)
unfolding frac ◌+ℚ◌ ◌*ℚ◌ gcd is_lowest le_test
not-reached = one_set (λ s. IsFirstGreatest 2 (action_value entry_game (pure (both 0 1)) 1 (both 0 0) s) (both 0 0 s)) 1 (omega arith) (first_of_two (action_value entry_game (pure (both 0 1)) 1 (both 0 0) 1) refl refl)

reached : AreBestChoices entry_game (pure (both 1 0)) 1 (both 0 1)
unfolding frac ◌+ℚ◌ ◌*ℚ◌ gcd is_lowest le_test lt_test
reached = one_set (λ s. IsFirstGreatest 2 (action_value entry_game (pure (both 1 0)) 1 (both 0 1) s) (both 0 1 s)) 1 (omega arith) (second_of_two (action_value entry_game (pure (both 1 0)) 1 (both 0 1) 1) refl refl refl)

-- the sets are numbered by their first nodes
entry-numbered : AreNumberedByFirstNodes entry_game
entry-numbered zero s r l e h = let same : zero ≡ s = cc in absurd (omega arith)
entry-numbered (suc zero) s r l e h = cc
entry-numbered (suc (suc zero)) s r l e h = let same : 1 ≡ s = cc in let first : 0 ≡ r = omega arith in (0, omega arith, ap Some first)
entry-numbered (suc (suc (suc zero))) s r l e h = cc
entry-numbered (suc (suc (suc (suc zero)))) s r l e h = cc
entry-numbered (suc (suc (suc (suc (suc k))))) s r l e h = absurd (omega (arith, l))

-- the law of the game
pub best_replies-in_entry_game : BestRepliesInTheEntryGame
best_replies-in_entry_game =
    record { numbered = entry-numbered; against_a_fight = against-fight; against_sharing = against-sharing; not_reached = not-reached; reached = reached }
