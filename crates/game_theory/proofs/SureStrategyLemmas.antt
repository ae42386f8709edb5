-- The probabilities of a player who plays one strategy.
use Rattle.std.proofs.Common.{ℕ, ◌<◌, ◌≡◌, ◌≢◌, Bool, true, false, eqb, cond, sym, ◌∙◌, arith, tests}
use Rattle.rational.specs.Rational.{◌≤ℚ◌, zero_ℚ, one_ℚ}
use Rattle.rational.specs.Sum.{sum_to}
use Rattle.rational.proofs.RationalRing.{*ℚ-one}
use Rattle.rational.proofs.Field.{le_refl}
use Rattle.rational.proofs.SumLemmas.{sum_to-same, sum_to-single}
use Rattle.rational.proofs.InverseLemmas.{zero_le_one}
use Rattle.game_theory.specs.Mixed.{sure}

-- the strategy that is played has probability 1
pub sure-at : (s : ℕ) → sure s s ≡ one_ℚ
sure-at s = grind (arith, tests)

-- each other strategy has probability 0
pub sure-other : (s t : ℕ) → t ≢ s → sure s t ≡ zero_ℚ
sure-other s t h = grind (arith, tests)

-- the probabilities are not negative
pub sure-not_negative : (s t : ℕ) → zero_ℚ ≤ℚ sure s t
sure-not_negative s t = go (eqb t s)
  where
    go : (b : Bool) → zero_ℚ ≤ℚ cond b one_ℚ zero_ℚ
    go true = zero_le_one
    go false = le_refl zero_ℚ

-- the probabilities sum to 1
pub sum_to-sure : (n s : ℕ) → s < n → sum_to n (sure s) ≡ one_ℚ
sum_to-sure n s h = sum_to-same n (sure s) _ (λ t p. sym (*ℚ-one (sure s t))) ∙ sum_to-single n s (λ t. one_ℚ) h
