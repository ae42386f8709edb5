-- The worked games.
use Rattle.std.proofs.Common.{ℕ, pos, zero, suc, ◌<◌, ◌≡◌, ℤ, ◌<ℤ◌, List, [], ◌∷◌, All, refl, sym, ◌∙◌, ap₂, ◌++◌, arith}
use Rattle.std.proofs.lemmas.Int.{ints}
use Rattle.lists.proofs.NumberLemmas.{below_two}
use Rattle.rational.specs.Rational.{ℚ, ◌+ℚ◌, ◌≤ℚ◌, zero_ℚ, one_ℚ}
use Rattle.rational.specs.Sum.{IsDistribution}
use Rattle.rational.proofs.RationalRing.{rational_ring}
use Rattle.rational.proofs.Ring.{ring, combine, ◌times◌is◌, num, ◌:+◌, ◌:*◌, :neg, A, B, C, D, E}
use Rattle.rational.proofs.Linear.{Claim, holds, holds_ℤ, all_hold_ℤ, linear, at, lit, ◌⟨+⟩◌, ◌⟨≤⟩◌, ◌⟨=⟩◌}
use Rattle.rational.proofs.Field.{half, le_of_eq, le_of_lt, two_halves}
use Rattle.rational.proofs.InverseLemmas.{ne_zero_of_pos, zero_lt_one, zero_le_one}
use Rattle.rational.proofs.MidpointLemmas.{half_pos}
use Rattle.game_theory.specs.Mixed.{Mixed, pure, sure}
use Rattle.game_theory.specs.Lines.{entries}
use Rattle.game_theory.proofs.ProfileLineLemmas.{listed-same}
use Rattle.game_theory.proofs.SureStrategyLemmas.{sure-not_negative, sum_to-sure}
use Rattle.extreme_equilibria.specs.ExtremeEquilibria.{AreSame, IsMidpoint, IsExtremeEquilibrium, IsExtremeEquilibriumLine}
use Rattle.extreme_equilibria.specs.TwoPlayers.{pays_against}
use Rattle.extreme_equilibria.specs.Bimatrix.{gain, mean_gain, IsBestReply, IsBimatrixEquilibrium}
use Rattle.extreme_equilibria.specs.Examples.{indifferent_game, halves, IndifferenceHasExtremeEquilibria, one_profile_game, OneProfileIsExtreme}
use Rattle.extreme_equilibria.proofs.TableLemmas.{to_tables, from_tables, extreme_to_tables, extreme_from_tables}

-- a sure strategy as probabilities
sure_mixed : (n s : ℕ) → s < n → IsDistribution n (sure s)
sure_mixed n s h = record { not_negative = λ i b. sure-not_negative s i; sum_is_one = sum_to-sure n s h }

-- probabilities of one strategy
one_mixed : (p : ℕ → ℚ) → IsDistribution 1 p → (i : ℕ) → i < 1 → p i ≡ one_ℚ
one_mixed p h zero b = linear (p 0 ∷ []) (((lit (pos 0) ⟨+⟩ at 0) ⟨=⟩ lit (pos 1)) ∷ []) (at 0 ⟨=⟩ lit (pos 1)) (λ one z u v. omega (arith, ints)) (h.sum_is_one, tt)
one_mixed p h (suc i) b = absurd (omega arith)

one_same : (p q : ℕ → ℚ) → IsDistribution 1 p → IsDistribution 1 q → AreSame 1 p q
one_same p q h g i b = one_mixed p h i b ∙ sym (one_mixed q g i b)

-- of one strategy the player can do no better
lone_best : (n : ℕ) (a : ℕ → ℕ → ℚ) (x y : ℕ → ℚ) → IsDistribution 1 x → IsBestReply 1 n a x y
lone_best n a x y h zero b =
    le_of_eq _ _ (combine rational_ring (gain n a y 0 ∷ x 0 ∷ []) ((:neg A times num 0 :+ B is num 1) ∷ []) A (num 0 :+ B :* A) refl (h.sum_is_one, tt))
lone_best n a x y h (suc i) b = absurd (omega arith)

-- ---- two strategies that pay the same
-- whatever the first player does is an equilibrium
indifferent : (a c : ℕ → ℕ → ℚ) (x y : ℕ → ℚ) → a 0 0 ≡ a 1 0 → IsDistribution 2 x → IsDistribution 1 y → IsBimatrixEquilibrium 2 1 a c x y
indifferent a c x y e h k =
    record {
      first_mixed = h;
      second_mixed = k;
      first_best = below_two (λ i. gain 1 a y i ≤ℚ mean_gain 2 1 a x y) (le_of_eq _ _ first) (le_of_eq _ _ second);
      second_best = lone_best 2 c y x k;
    }
  where
    first : gain 1 a y 0 ≡ mean_gain 2 1 a x y
    first =
        combine rational_ring (x 0 ∷ x 1 ∷ y 0 ∷ a 0 0 ∷ a 1 0 ∷ []) ((:neg (D :* C) times num 0 :+ A :+ B is num 1) ∷ (B :* C times D is E) ∷ []) (num 0 :+ D :* C) (num 0 :+ A :* (num 0 :+ D :* C) :+ B :* (num 0 :+ E :* C)) refl (h.sum_is_one, (e, tt))

    second : gain 1 a y 1 ≡ mean_gain 2 1 a x y
    second =
        combine rational_ring (x 0 ∷ x 1 ∷ y 0 ∷ a 0 0 ∷ a 1 0 ∷ []) ((:neg (E :* C) times num 0 :+ A :+ B is num 1) ∷ (:neg (A :* C) times D is E) ∷ []) (num 0 :+ E :* C) (num 0 :+ A :* (num 0 :+ D :* C) :+ B :* (num 0 :+ E :* C)) refl (h.sum_is_one, (e, tt))

indifference : (x y : ℕ → ℚ) → IsDistribution 2 x → IsDistribution 1 y → IsBimatrixEquilibrium 2 1 (pays_against indifferent_game 0) (pays_against indifferent_game 1) x y
indifference x y = indifferent (pays_against indifferent_game 0) (pays_against indifferent_game 1) x y refl

-- the first strategy for sure is no midpoint of two others
sure_alone : (p q : ℕ → ℚ) → IsDistribution 2 p → IsDistribution 2 q → p 1 +ℚ q 1 ≡ zero_ℚ +ℚ zero_ℚ → AreSame 2 p q
sure_alone p q h g e = below_two (λ i. p i ≡ q i) (follows (at 2 ⟨=⟩ at 3) (λ one z u v. omega (arith, ints))) (follows (at 0 ⟨=⟩ at 1) (λ one z u v. omega (arith, ints)))
  where
    known : List Claim
    known =
        (lit (pos 0) ⟨≤⟩ at 0) ∷ (lit (pos 0) ⟨≤⟩ at 1) ∷ ((lit (pos 0) ⟨+⟩ at 2 ⟨+⟩ at 0) ⟨=⟩ lit (pos 1)) ∷ ((lit (pos 0) ⟨+⟩ at 3 ⟨+⟩ at 1) ⟨=⟩ lit (pos 1)) ∷ ((at 0 ⟨+⟩ at 1) ⟨=⟩ (lit (pos 0) ⟨+⟩ lit (pos 0))) ∷ []

    follows : (c : Claim) → ((one : ℤ) (z : ℕ → ℤ) → pos 0 <ℤ one → all_hold_ℤ one z known → holds_ℤ one z c) → holds (p 1 ∷ q 1 ∷ p 0 ∷ q 0 ∷ []) c
    follows c f = linear (p 1 ∷ q 1 ∷ p 0 ∷ q 0 ∷ []) known c f (h.not_negative 1 (omega arith), (g.not_negative 1 (omega arith), (h.sum_is_one, (g.sum_is_one, (e, tt)))))

sure_extreme : IsExtremeEquilibrium indifferent_game (pure (0 ∷ 0 ∷ []))
sure_extreme =
    extreme_from_tables indifferent_game 2 1 refl (pure (0 ∷ 0 ∷ [])) (record {
      equilibrium = indifference (sure 0) (sure 0) (sure_mixed 2 0 (omega arith)) (sure_mixed 1 0 (omega arith));
      first_alone = λ p q s t mid. sure_alone p q s.first_mixed t.first_mixed (mid 1 (omega arith));
      second_alone = λ p q s t mid. one_same p q s.second_mixed t.second_mixed;
    })

first_half : IsDistribution 2 (halves 0)
first_half =
    record { not_negative = λ i b. le_of_lt zero_ℚ half half_pos; sum_is_one = ring rational_ring (half ∷ []) (num 0 :+ A :+ A) (A :+ A) refl ∙ two_halves }

second_sure : IsDistribution 1 (halves 1)
second_sure = record { not_negative = λ i b. zero_le_one; sum_is_one = ring rational_ring [] (num 0 :+ num 1) (num 1) refl }

-- even chances are the midpoint of the two sure strategies
halfway : IsMidpoint 2 (sure 0) (sure 1) (halves 0)
halfway = below_two (λ i. sure 0 i +ℚ sure 1 i ≡ halves 0 i +ℚ halves 0 i) (ring rational_ring [] (num 1 :+ num 0) (num 1) refl ∙ sym two_halves) (ring rational_ring [] (num 0 :+ num 1) (num 1) refl ∙ sym two_halves)

inside : IsExtremeEquilibrium indifferent_game halves → ⊥
inside h =
    let s = extreme_to_tables indifferent_game 2 1 refl halves h in
    ne_zero_of_pos one_ℚ zero_lt_one (s.first_alone (sure 0) (sure 1) (indifference (sure 0) (halves 1) (sure_mixed 2 0 (omega arith)) second_sure) (indifference (sure 1) (halves 1) (sure_mixed 2 1 (omega arith)) second_sure) halfway 0 (omega arith))

pub indifference-holds : IndifferenceHasExtremeEquilibria
indifference-holds =
    record {
      sure_strategy = sure_extreme;
      even_chances = from_tables indifferent_game 2 1 refl halves (indifference (halves 0) (halves 1) first_half second_sure);
      even_chances_inside = inside;
    }

-- ---- one profile
lone : (a c : ℕ → ℕ → ℚ) (x y : ℕ → ℚ) → IsDistribution 1 x → IsDistribution 1 y → IsBimatrixEquilibrium 1 1 a c x y
lone a c x y h k = record { first_mixed = h; second_mixed = k; first_best = lone_best 1 a x y h; second_best = lone_best 1 c y x k }

lone_extreme : IsExtremeEquilibrium one_profile_game (pure (0 ∷ 0 ∷ []))
lone_extreme =
    extreme_from_tables one_profile_game 1 1 refl (pure (0 ∷ 0 ∷ [])) (record {
      equilibrium = lone _ _ (sure 0) (sure 0) (sure_mixed 1 0 (omega arith)) (sure_mixed 1 0 (omega arith));
      first_alone = λ p q s t mid. one_same p q s.first_mixed t.first_mixed;
      second_alone = λ p q s t mid. one_same p q s.second_mixed t.second_mixed;
    })

lone_line : All (IsExtremeEquilibriumLine one_profile_game) (entries (1 ∷ 1 ∷ []) (pure (0 ∷ 0 ∷ [])) ∷ [])
lone_line zero d l = record { profile = pure (0 ∷ 0 ∷ []); is_extreme = lone_extreme; is_line = refl }
lone_line (suc k) d l = absurd (omega arith)

-- any equilibrium has its line
lone_entries : (m : Mixed) → IsExtremeEquilibrium one_profile_game m → entries (1 ∷ 1 ∷ []) (pure (0 ∷ 0 ∷ [])) ≡ entries (1 ∷ 1 ∷ []) m
lone_entries m h =
    let s = to_tables one_profile_game 1 1 refl m h.equilibrium in
    ap₂ (λ xs ys. xs ++ ys) (listed-same 1 (sure 0) (m 0) (one_same (sure 0) (m 0) (sure_mixed 1 0 (omega arith)) s.first_mixed)) (ap₂ (λ xs ys. xs ++ ys) (listed-same 1 (sure 0) (m 1) (one_same (sure 0) (m 1) (sure_mixed 1 0 (omega arith)) s.second_mixed)) refl)

pub one_profile-holds : OneProfileIsExtreme
one_profile-holds =
    record {
      extreme = lone_extreme;
      one_line = record { in_order = tt; sound = lone_line; complete = λ m h. (0, omega arith, lone_entries m h) };
    }
