-- One-card poker: plans and prices that prove its value, computed.
use Rattle.std.proofs.Common.{ℕ, zero, suc, ◌+◌, ◌<◌, ◌≡◌, Some, pos, negsuc, refl, arith}
use Rattle.lists.proofs.NumberLemmas.{below_two}
use borrow.Author.Count.{below_none, below_more}
use Rattle.rational.specs.Gcd.{gcd}
use Rattle.rational.specs.Rational.{is_lowest, frac, whole, ◌+ℚ◌, ◌*ℚ◌, ◌≤ℚ◌, neg_ℚ, inv_ℚ, zero_ℚ}
use Rattle.rational.specs.Sum.{sum_to}
use Rattle.game_theory.specs.TreeExamples.{one_card_poker, bluffs}
use Rattle.game_theory.proofs.PokerExamples.{poker-worth}
use Rattle.game_theory.proofs.RecallExamples.{recall-in_two_games}
use Rattle.sequence_forms.specs.Sides.{first, IsRealisationPlan}
use Rattle.sequence_forms.specs.Sequences.{side_of}
use Rattle.sequence_forms.specs.PlanBehaviour.{of_two, behaviour_of}
use Rattle.sequence_forms.specs.Forms.{row_sum, column_sum, payoff_of_path, form_of, HasTwoWhoRecall}
use Rattle.sequence_forms.specs.Prices.{gains, net_price, IsValueProof}
use Rattle.sequence_forms.specs.Examples.{plan_of_fred, plan_of_alice, prices_of_fred, prices_of_alice, PokersValueIsProved}
use Rattle.sequence_forms.proofs.AlikeFormLemmas.{alike_itself}
use Rattle.sequence_forms.proofs.EndLemmas.{values_on_trees}

below_three : (P : ℕ → Type 0) → P 0 → P 1 → P 2 → (i : ℕ) → i < 3 → P i
below_three P p q r = below_more P 2 (below_two P p q) r

below_five : (P : ℕ → Type 0) → P 0 → P 1 → P 2 → P 3 → P 4 → (i : ℕ) → i < 5 → P i
below_five P p q r s t = below_more P 4 (below_more P 3 (below_three P p q r) s) t

-- two players who recall
poker_recall : HasTwoWhoRecall one_card_poker
poker_recall = record { is_tree = poker-worth.tree; two_players = refl; first_recalls = recall-in_two_games.fred; second_recalls = recall-in_two_games.alice }

-- Fred's plan
fred_plan : IsRealisationPlan (side_of one_card_poker 0) plan_of_fred
unfolding frac ◌+ℚ◌ gcd is_lowest
fred_plan = record {
  not_negative = below_five (λ q. zero_ℚ ≤ℚ plan_of_fred q) (record { cross = record { le = tt } }) (record { cross = record { le = tt } }) (record { cross = record { le = tt } }) (record { cross = record { le = tt } }) (record { cross = record { le = tt } });
  empty_is_one = refl;
  splits = below_two (λ j. sum_to 2 (λ a. plan_of_fred (first (side_of one_card_poker 0) j + a)) ≡ plan_of_fred ((side_of one_card_poker 0).before j)) refl refl;
}

-- Alice's plan
alice_plan : IsRealisationPlan (side_of one_card_poker 1) plan_of_alice
unfolding frac ◌+ℚ◌ gcd is_lowest
alice_plan = record {
  not_negative = below_three (λ q. zero_ℚ ≤ℚ plan_of_alice q) (record { cross = record { le = tt } }) (record { cross = record { le = tt } }) (record { cross = record { le = tt } });
  empty_is_one = refl;
  splits = below_more (λ j. sum_to 2 (λ a. plan_of_alice (first (side_of one_card_poker 1) j + a)) ≡ plan_of_alice ((side_of one_card_poker 1).before j)) 0 (below_none _) refl;
}

-- no sequence of Fred gains more than its net price
fred_gains : (r : ℕ) → r < 5 → row_sum (form_of one_card_poker) (gains (form_of one_card_poker) (whole (negsuc 1))) plan_of_alice r ≤ℚ net_price (side_of one_card_poker 0) prices_of_fred r
unfolding frac ◌+ℚ◌ ◌*ℚ◌ neg_ℚ gcd is_lowest
fred_gains = below_five (λ r. row_sum (form_of one_card_poker) (gains (form_of one_card_poker) (whole (negsuc 1))) plan_of_alice r ≤ℚ net_price (side_of one_card_poker 0) prices_of_fred r) (record { cross = record { le = tt } }) (record { cross = record { le = tt } }) (record { cross = record { le = tt } }) (record { cross = record { le = tt } }) (record { cross = record { le = tt } })

-- and none of Alice leaves him less
alice_gains : (q : ℕ) → q < 3 → net_price (side_of one_card_poker 1) prices_of_alice q ≤ℚ column_sum (form_of one_card_poker) (gains (form_of one_card_poker) (whole (negsuc 1))) plan_of_fred q
unfolding frac ◌+ℚ◌ ◌*ℚ◌ neg_ℚ gcd is_lowest
alice_gains = below_three (λ q. net_price (side_of one_card_poker 1) prices_of_alice q ≤ℚ column_sum (form_of one_card_poker) (gains (form_of one_card_poker) (whole (negsuc 1))) plan_of_fred q) (record { cross = record { le = tt } }) (record { cross = record { le = tt } }) (record { cross = record { le = tt } })

-- the prices of Fred and of Alice
fred_prices : (k : ℕ) → k < 3 → zero_ℚ ≤ℚ prices_of_fred k
unfolding frac gcd is_lowest
fred_prices = below_three (λ k. zero_ℚ ≤ℚ prices_of_fred k) (record { cross = record { le = tt } }) (record { cross = record { le = tt } }) (record { cross = record { le = tt } })

alice_prices : (k : ℕ) → k < 2 → zero_ℚ ≤ℚ prices_of_alice k
unfolding frac gcd is_lowest
alice_prices = below_two (λ k. zero_ℚ ≤ℚ prices_of_alice k) (record { cross = record { le = tt } }) (record { cross = record { le = tt } })

-- the value
value_is : frac (pos 1) 3 ≡ frac (pos 7) 3 +ℚ whole (negsuc 1)
unfolding frac ◌+ℚ◌ gcd is_lowest
value_is = refl

poker_proof : IsValueProof (form_of one_card_poker) (whole (negsuc 1)) plan_of_fred plan_of_alice prices_of_fred prices_of_alice (frac (pos 1) 3)
poker_proof =
    record { row_plan = fred_plan; column_plan = alice_plan; row_prices = fred_prices; column_prices = alice_prices; same_first = refl; value_is = value_is; row_gains = fred_gains; column_gains = alice_gains }

-- the payoffs at each node's path sum to 0
poker_sums : (k : ℕ) → k < 11 → payoff_of_path one_card_poker 0 k +ℚ payoff_of_path one_card_poker 1 k ≡ zero_ℚ
unfolding frac ◌+ℚ◌ gcd is_lowest
poker_sums = below_more P 10 (below_more P 9 (below_more P 8 (below_more P 7 (below_more P 6 (below_more P 5 (below_five P refl refl refl refl refl) refl) refl) refl) refl) refl) refl
  where
    P : ℕ → Type 0
    P k = payoff_of_path one_card_poker 0 k +ℚ payoff_of_path one_card_poker 1 k ≡ zero_ℚ

-- the behaviour of the plans
abbrev plays : ℕ → ℕ → Type 0
plays s a = behaviour_of one_card_poker (of_two plan_of_fred plan_of_alice) s a ≡ bluffs s a

poker_behaviour : (s i a : ℕ) → s < 4 → one_card_poker.owner s ≡ Some i → a < 2 → plays s a
unfolding frac ◌+ℚ◌ ◌*ℚ◌ inv_ℚ gcd is_lowest
poker_behaviour zero i a h e l = cc
poker_behaviour (suc zero) i a h e l = below_two (plays 1) refl refl a l
poker_behaviour (suc (suc zero)) i a h e l = below_two (plays 2) refl refl a l
poker_behaviour (suc (suc (suc zero))) i a h e l = below_two (plays 3) refl refl a l
poker_behaviour (suc (suc (suc (suc s)))) i a h e l = absurd (omega arith)

-- the law of the example
pub pokers_value : PokersValueIsProved
pokers_value =
    record {
      two_recall = poker_recall;
      sums = λ k h e. poker_sums k h;
      proof = poker_proof;
      value = values_on_trees one_card_poker (form_of one_card_poker) (whole (negsuc 1)) zero_ℚ plan_of_fred plan_of_alice prices_of_fred prices_of_alice (frac (pos 1) 3) poker_recall (alike_itself (form_of one_card_poker)) (λ k h e. poker_sums k h) poker_proof;
      behaviour = poker_behaviour;
    }
