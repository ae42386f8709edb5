-- A table and the entries of a profile have at most one verdict.
use Rattle.std.proofs.Common.{ℕ, suc, ◌+◌, ◌<◌, ◌≤◌, ◌≡◌, inl, inr, List, [], ◌∷◌, ◌++◌, All, length, get_or, refl, sym, ap, ap₂, ◌∙◌, subst, arith}
use Rattle.std.specs.Prelude.{◌==◌, if◌then◌else◌, true, false}
use Rattle.std.proofs.lemmas.Bool.{cases_lt}
use Rattle.lists.proofs.ElementLemmas.{made-same}
use Rattle.rational.specs.Rational.{ℚ, ◌*ℚ◌, ◌≤ℚ◌, ◌<ℚ◌, zero_ℚ, one_ℚ}
use Rattle.rational.proofs.Field.{not_lt_of_le}
use Rattle.rational.proofs.SumLemmas.{sum_to-same}
use Rattle.game_theory.specs.Mixed.{Mixed, later, probability, payoff as payoff_of}
use Rattle.game_theory.specs.Profiles.{Game, profile_at, profile_count}
use Rattle.game_theory.proofs.ProfileLineLemmas.{entries-injective}
use Rattle.game_theory.proofs.ProfileNumberLemmas.{IsProfile-profile_at, length-profile, profile-below}
use Rattle.game_core.specs.Table.{game_of, strategy_counts}
use Rattle.frac128.specs.Steps.{Step, StepFits, IsFirstUnfit}
use Rattle.frac128.proofs.FirstUnfitLemmas.{unfit_among, unfit_once}
use Rattle.best_replies.specs.Strategies.{own_as_one, strategy_value, weight, value_below}
use Rattle.best_replies.proofs.FirstGreatestLemmas.{IsFirstGreatest-same, first_greatest-unique}
use Rattle.verdicts.specs.TableChecks.{PassesTable, IsBetterReply, IsFirstBetter, IsRangeStop, IsTableVerdict, others_probabilities, payoff_below, payoff_steps, table_player_steps, product_steps, steps_at, strategy_steps, value_steps, weighed_steps}
use Rattle.verdicts.specs.TableLaws.{TableVerdictsAreSingle}
use Rattle.verdicts.specs.TableReplies.{others_from}
use Rattle.verdicts.proofs.TableOtherLemmas.{others-from_first}
use Rattle.verdicts.specs.declared.tables.TableVerdict.{TableVerdict}
use Rattle.verdicts.specs.declared.tables.TableVerdict.TheVariants.{Equilibrium, Better, Range}

-- profiles with the same probabilities of the strategies that are played
probability-same : (strategies : List ℕ) (x y : Mixed) → ((k : ℕ) → k < length strategies → x k (get_or strategies k 0) ≡ y k (get_or strategies k 0)) → probability x strategies ≡ probability y strategies
probability-same [] x y same = refl
probability-same (s ∷ strategies) x y same =
    ap₂ (λ a b. a *ℚ b) (same 0 (omega arith)) (probability-same strategies (later x) (later y) (λ k l. same (suc k) (omega (arith, l))))

others-same : (i j : ℕ) (strategies : List ℕ) (x y : Mixed) → ((k : ℕ) → k < length strategies → x (j + k) (get_or strategies k 0) ≡ y (j + k) (get_or strategies k 0)) → others_from x i j strategies ≡ others_from y i j strategies
others-same i j [] x y same = refl
others-same i j (s ∷ strategies) x y same =
    (let first : x j s ≡ y j s = subst (λ n. x n s ≡ y n s) (let e : j + 0 ≡ j = omega arith in e) (same 0 (omega arith)) in
    ap₂ (λ q v. (if j == i then [] else q ∷ []) ++ v) first
    (others-same i (suc j) strategies x y (λ k l. subst (λ n. x n (get_or strategies k 0) ≡ y n (get_or strategies k 0)) (let e : j + suc k ≡ suc j + k = omega arith in e) (same (suc k) (omega (arith, l))))))

-- ---- profiles with the same probabilities of all strategies of a game
module _ (g : Game) (m other : Mixed) (same : (i s : ℕ) → i < length g.strategies → s < get_or g.strategies i 0 → m i s ≡ other i s) where
  at_profile : (k : ℕ) → k < profile_count g.strategies → (j : ℕ) → j < length (profile_at g.strategies k) → m j (get_or (profile_at g.strategies k) j 0) ≡ other j (get_or (profile_at g.strategies k) j 0)
  at_profile k l j b =
      (let is = IsProfile-profile_at g.strategies k l in
      let here : j < length g.strategies = omega (arith, b, length-profile g.strategies (profile_at g.strategies k) is) in
      same j (get_or (profile_at g.strategies k) j 0) here (profile-below g.strategies (profile_at g.strategies k) j is here))

  weight-same : (i k : ℕ) → k < profile_count g.strategies → weight m i (profile_at g.strategies k) ≡ weight other i (profile_at g.strategies k)
  weight-same i k l =
      probability-same (profile_at g.strategies k) (own_as_one m i) (own_as_one other i) (λ j b. ap (λ q. if j == i then one_ℚ else q) (at_profile k l j b))

  others_of-same : (i k : ℕ) → k < profile_count g.strategies → others_probabilities m i (profile_at g.strategies k) ≡ others_probabilities other i (profile_at g.strategies k)
  others_of-same i k l =
      others-from_first m i (profile_at g.strategies k)
      ∙ others-same i 0 (profile_at g.strategies k) m other
      (λ j b. subst (λ n. m n (get_or (profile_at g.strategies k) j 0) ≡ other n (get_or (profile_at g.strategies k) j 0)) (let e : j ≡ 0 + j = omega arith in e) (at_profile k l j b))
      ∙ sym (others-from_first other i (profile_at g.strategies k))

  below-same : (i s n : ℕ) → n ≤ profile_count g.strategies → value_below g m i s n ≡ value_below g other i s n
  below-same i s n l =
      sum_to-same n _ _ (λ k b. ap (λ w. elim (get_or (profile_at g.strategies k) i 0 == s) [ true ↦ w *ℚ g.pays i k | false ↦ zero_ℚ ]) (weight-same i k (omega (arith, l, b))))

  value-same : (i s : ℕ) → strategy_value g m i s ≡ strategy_value g other i s
  value-same i s = below-same i s (profile_count g.strategies) (omega arith)

  steps-same : (i s : ℕ) → strategy_steps g m i s ≡ strategy_steps g other i s
  steps-same i s = made-same (steps_at g m i s) (steps_at g other i s) 0 (profile_count g.strategies) (λ k l b. at k (omega (arith, b)))
    where
      at : (k : ℕ) → k < profile_count g.strategies → steps_at g m i s k ≡ steps_at g other i s k
      at k l =
          λ d. (if get_or (profile_at g.strategies k) i 0 == s
          then product_steps one_ℚ (others_of-same i k l d) ++ weighed_steps (weight-same i k l d) (g.pays i k) (below-same i s k (let few : k ≤ profile_count g.strategies = omega (arith, l) in few) d)
          else [])

  values-same : (i : ℕ) → value_steps g m i ≡ value_steps g other i
  values-same i = made-same (strategy_steps g m i) (strategy_steps g other i) 0 (get_or g.strategies i 0) (λ s l b. steps-same i s)

  module _ (i : ℕ) (is_player : i < length g.strategies) where
    sum-same : (n : ℕ) → n ≤ get_or g.strategies i 0 → payoff_below g m i n ≡ payoff_below g other i n
    sum-same n l = sum_to-same n _ _ (λ s b. ap₂ (λ p v. p *ℚ v) (same i s is_player (omega (arith, l, b))) (value-same i s))

    now-same : payoff_steps g m i ≡ payoff_steps g other i
    now-same = made-same _ _ 0 (get_or g.strategies i 0) (λ s l b. at s (omega (arith, b)))
      where
        at : (s : ℕ) → s < get_or g.strategies i 0 → weighed_steps (m i s) (strategy_value g m i s) (payoff_below g m i s) ≡ weighed_steps (other i s) (strategy_value g other i s) (payoff_below g other i s)
        at s l = λ d. weighed_steps (same i s is_player l d) (value-same i s d) (sum-same s (let few : s ≤ get_or g.strategies i 0 = omega (arith, l) in few) d)

    player-same : table_player_steps g m i ≡ table_player_steps g other i
    player-same = ap₂ (λ v w. v ++ w) (values-same i) now-same

    payoff-same : payoff_of g m i ≡ payoff_of g other i
    payoff-same = sum_to-same (profile_count g.strategies) _ _ (λ k b. ap (λ p. p *ℚ g.pays i k) (probability-same (profile_at g.strategies k) m other (at_profile k b)))

    no_better-same : PassesTable g m i → PassesTable g other i
    no_better-same h =
        record {
          fit = subst (All StepFits) player-same h.fit;
          no_more = λ s b. subst (λ x. x ≤ℚ payoff_of g other i) (value-same i s) (subst (λ x. strategy_value g m i s ≤ℚ x) payoff-same (h.no_more s b));
        }

    better-same : (payoff best : ℚ) (reply : ℕ) → IsBetterReply g m i payoff best reply → IsBetterReply g other i payoff best reply
    better-same payoff best reply h =
        record {
          fit = subst (All StepFits) player-same h.fit;
          is_best = IsFirstGreatest-same (get_or g.strategies i 0) (strategy_value g m i) (strategy_value g other i) reply (λ s l. value-same i s) h.is_best;
          payoff_is = h.payoff_is ∙ payoff-same;
          best_is = h.best_is ∙ value-same i reply;
          pays_more = h.pays_more;
        }

  pub verdict-same : (verdict : TableVerdict) → IsTableVerdict g m verdict → IsTableVerdict g other verdict
  verdict-same Equilibrium h = λ i l. no_better-same i l (h i l)
  verdict-same (Better player payoff best reply) h =
      record { is_player = h.is_player; earlier = λ i l. no_better-same i (omega (arith, l, h.is_player)) (h.earlier i l); better = better-same player h.is_player payoff best reply h.better }
  verdict-same (Range step) h =
      record {
        player = h.player;
        is_player = h.is_player;
        earlier = λ i l. no_better-same i (omega (arith, l, h.is_player)) (h.earlier i l);
        first_unfit = subst (λ ss. IsFirstUnfit ss step) (player-same h.player h.is_player) h.first_unfit;
      }

-- ---- verdicts of one profile
module _ (g : Game) (m : Mixed) where
  clash : (i reply : ℕ) (payoff best : ℚ) → PassesTable g m i → IsBetterReply g m i payoff best reply → ⊥
  clash i reply payoff best h b =
      not_lt_of_le (strategy_value g m i reply) (payoff_of g m i) (h.no_more reply b.is_best.within)
      (subst (λ x. x <ℚ strategy_value g m i reply) b.payoff_is (subst (λ x. payoff <ℚ x) b.best_is b.pays_more))

  same_better : (p q r s : ℕ) (a b c d : ℚ) → IsFirstBetter g m p a b r → IsFirstBetter g m q c d s → (let one : TableVerdict = Better p a b r in one) ≡ Better q c d s
  same_better p q r s a b c d h k = elim (cases_lt p q) [
    | inl l ↦ absurd (clash p r a b (k.earlier p l) h.better)
    | inr n ↦ elim (cases_lt q p) [
      | inl l ↦ absurd (clash q s c d (h.earlier q l) k.better)
      | inr o ↦ (let e : q ≡ p = omega arith in go (subst (λ i. IsBetterReply g m i c d s) e k.better) (sym e))
    ]
  ]
    where
      go : IsBetterReply g m p c d s → p ≡ q → (let one : TableVerdict = Better p a b r in one) ≡ Better q c d s
      go f e =
          (let reply_is = first_greatest-unique (get_or g.strategies p 0) (strategy_value g m p) r s h.better.is_best f.is_best in
          let payoff_is = h.better.payoff_is ∙ sym f.payoff_is in
          let best_is = h.better.best_is ∙ ap (strategy_value g m p) reply_is ∙ sym f.best_is in
          λ j. Better (e j) (payoff_is j) (best_is j) (reply_is j))

  better_or_range : (p r : ℕ) (a b : ℚ) (step : Step) → IsFirstBetter g m p a b r → IsRangeStop g m step → ⊥
  better_or_range p r a b step h k = elim (cases_lt p k.player) [
    | inl l ↦ clash p r a b (k.earlier p l) h.better
    | inr n ↦ elim (cases_lt k.player p) [
      | inl l ↦ unfit_among (table_player_steps g m k.player) step k.first_unfit (h.earlier k.player l).fit
      | inr o ↦ (let e : p ≡ k.player = omega arith in unfit_among (table_player_steps g m k.player) step k.first_unfit (subst (λ i. All StepFits (table_player_steps g m i)) e h.better.fit))
    ]
  ]

  same_range : (one other : Step) → IsRangeStop g m one → IsRangeStop g m other → one ≡ other
  same_range one other h k = elim (cases_lt h.player k.player) [
    | inl l ↦ absurd (unfit_among (table_player_steps g m h.player) one h.first_unfit (k.earlier h.player l).fit)
    | inr n ↦ elim (cases_lt k.player h.player) [
      | inl l ↦ absurd (unfit_among (table_player_steps g m k.player) other k.first_unfit (h.earlier k.player l).fit)
      | inr o ↦ (let e : k.player ≡ h.player = omega arith in unfit_once (table_player_steps g m h.player) one other h.first_unfit (subst (λ i. IsFirstUnfit (table_player_steps g m i) other) e k.first_unfit))
    ]
  ]

  same_verdict : (one other : TableVerdict) → IsTableVerdict g m one → IsTableVerdict g m other → one ≡ other
  same_verdict Equilibrium Equilibrium h k = refl
  same_verdict Equilibrium (Better q c d s) h k = absurd (clash q s c d (h q k.is_player) k.better)
  same_verdict Equilibrium (Range step) h k = absurd (unfit_among (table_player_steps g m k.player) step k.first_unfit (h k.player k.is_player).fit)
  same_verdict (Better p a b r) Equilibrium h k = absurd (clash p r a b (k p h.is_player) h.better)
  same_verdict (Better p a b r) (Better q c d s) h k = same_better p q r s a b c d h k
  same_verdict (Better p a b r) (Range step) h k = absurd (better_or_range p r a b step h k)
  same_verdict (Range step) Equilibrium h k = absurd (unfit_among (table_player_steps g m h.player) step h.first_unfit (k h.player h.is_player).fit)
  same_verdict (Range step) (Better q c d s) h k = absurd (better_or_range q s c d step k h)
  same_verdict (Range one) (Range other) h k = ap Range (same_range one other h k)

pub verdict_once : TableVerdictsAreSingle
verdict_once table list one other h k =
    same_verdict (game_of table) h.0 one other h.2 (verdict-same (game_of table) k.0 h.0 (entries-injective (strategy_counts table) k.0 h.0 (sym k.1 ∙ h.1)) other k.2)
