-- One-card poker: its values are computed.
use Rattle.std.proofs.Common.{ℕ, zero, suc, ◌<◌, ◌≡◌, Some, refl, pos, negsuc, [], ◌∷◌}
use Rattle.std.specs.Prelude.{slice_index_or}
use Rattle.rational.specs.Gcd.{gcd}
use Rattle.rational.specs.Rational.{ℚ, is_lowest, frac, ◌+ℚ◌, ◌*ℚ◌, ◌≤ℚ◌, zero_ℚ, one_ℚ}
use Rattle.rational.specs.Sum.{sum_to}
use Rattle.rational.proofs.Field.{le_refl}
use Rattle.game_theory.specs.Trees.{IsTree}
use Rattle.game_theory.specs.Behaviour.{payoff}
use Rattle.game_theory.specs.TreeExamples.{one_card_poker, bluffs, PokerIsWorthAThird}
use Rattle.game_theory.proofs.TreeTestLemmas.{tree-tested, coin_toss}

-- one-card poker is a tree
poker-tree : IsTree one_card_poker
poker-tree =
    tree-tested one_card_poker (record { some_node = refl; nodes = refl; edges = refl; sets = refl }) (λ s l e. coin_toss one_card_poker s refl (λ a. refl))

-- two numbers that are not negative, and 0 after them
pair-not_negative : (x y : ℚ) → zero_ℚ ≤ℚ x → zero_ℚ ≤ℚ y → (a : ℕ) → zero_ℚ ≤ℚ slice_index_or (x ∷ y ∷ []) a zero_ℚ
pair-not_negative x y p q zero = p
pair-not_negative x y p q (suc zero) = q
pair-not_negative x y p q (suc (suc a)) = le_refl zero_ℚ

-- no probability is negative
bluffs-not_negative : (s a : ℕ) → zero_ℚ ≤ℚ bluffs s a
unfolding frac gcd is_lowest
bluffs-not_negative zero a = le_refl zero_ℚ
bluffs-not_negative (suc zero) a = pair-not_negative _ _ (record { cross = record { le = tt } }) (record { cross = record { le = tt } }) a
bluffs-not_negative (suc (suc zero)) a = pair-not_negative _ _ (record { cross = record { le = tt } }) (record { cross = record { le = tt } }) a
bluffs-not_negative (suc (suc (suc s))) a = pair-not_negative _ _ (record { cross = record { le = tt } }) (record { cross = record { le = tt } }) a

-- the probabilities at each set of a player sum to 1
bluffs-sum : (s i : ℕ) → s < 4 → one_card_poker.owner s ≡ Some i → sum_to 2 (bluffs s) ≡ one_ℚ
unfolding frac ◌+ℚ◌ gcd is_lowest
bluffs-sum zero i h e = cc
bluffs-sum (suc zero) i h e = refl
bluffs-sum (suc (suc zero)) i h e = refl
bluffs-sum (suc (suc (suc s))) i h e = refl

-- what Fred gets
fred_gets : payoff one_card_poker bluffs 0 ≡ frac (pos 1) 3
unfolding frac ◌+ℚ◌ ◌*ℚ◌ gcd is_lowest
fred_gets = refl

-- what Alice gets
alice_gets : payoff one_card_poker bluffs 1 ≡ frac (negsuc 0) 3
unfolding frac ◌+ℚ◌ ◌*ℚ◌ gcd is_lowest
alice_gets = refl

-- the law of the game
pub poker-worth : PokerIsWorthAThird
poker-worth =
    record { tree = poker-tree; valid = λ s i h e. record { not_negative = λ a l. bluffs-not_negative s a; sum_is_one = bluffs-sum s i h e }; fred = fred_gets; alice = alice_gets }
