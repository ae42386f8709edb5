-- What strategies are worth against the others.
use Rattle.std.proofs.Common.{ℕ, zero, suc, ◌<◌, ◌≡◌, Bool, true, false, cond, List, [], ◌∷◌, length, get_or, refl, sym, ap, ap₂, ◌∙◌, subst, arith, tests}
use Rattle.std.specs.Prelude.{◌==◌}
use Rattle.rational.specs.Rational.{ℚ, ◌*ℚ◌, ◌≤ℚ◌, ◌<ℚ◌, zero_ℚ, one_ℚ}
use Rattle.rational.proofs.RationalRing.{rational_ring}
use Rattle.rational.proofs.Rules.{one-*ℚ, zero-*ℚ}
use Rattle.rational.proofs.Field.{lt_of_lt_of_le, le_trans}
use Rattle.rational.proofs.SumLemmas.{sum_to-same}
use Rattle.rational.proofs.Ring.{ring, ◌:*◌, A, B, C}
use Rattle.game_theory.specs.Profiles.{Game, profile_count, profile_at}
use Rattle.game_theory.specs.Mixed.{Mixed, later, probability, sure, payoff, reply}
use Rattle.game_theory.proofs.ProfileNumberLemmas.{length-profile, IsProfile-profile_at}
use Rattle.game_theory.proofs.ReplyLemmas.{payoff-replies, reply-other}
use Rattle.game_theory.proofs.ChildLemmas.{where_true}
use Rattle.best_replies.specs.Strategies.{own_as_one, weight, strategy_value, IsBestStrategy}
use Rattle.best_replies.specs.Laws.{StrategyValuesArePayoffs, PayoffIsMeanOfStrategies, BestStrategiesShowBetterReplies, EquilibriaByBestStrategies}

-- equal probabilities of all strategies
probability-equal : (ss : List ℕ) (m n : Mixed) → ((i t : ℕ) → m i t ≡ n i t) → probability m ss ≡ probability n ss
probability-equal [] m n h = refl
probability-equal (t ∷ ss) m n h = ap₂ (λ x y. x *ℚ y) (h 0 t) (probability-equal ss (later m) (later n) (λ i u. h (suc i) u))

-- the first player's own part, and the others', where that player's strategies count 1 or are replaced
own_as_one-first : (m : Mixed) (t : ℕ) → own_as_one m 0 0 t ≡ one_ℚ
own_as_one-first m t = grind (arith, tests)

own_as_one-next : (m : Mixed) (i t : ℕ) → own_as_one m (suc i) 0 t ≡ m 0 t
own_as_one-next m i t = grind (arith, tests)

later-first : (m : Mixed) (s j t : ℕ) → later (reply m 0 s) j t ≡ later (own_as_one m 0) j t
later-first m s j t = grind (arith, tests)

later-own_as_one : (m : Mixed) (i j t : ℕ) → later (own_as_one m (suc i)) j t ≡ own_as_one (later m) i j t
later-own_as_one m i j t = grind (arith, tests)

reply-first : (m : Mixed) (s t : ℕ) → reply m 0 s 0 t ≡ sure s t
reply-first m s t = grind (arith, tests)

-- a profile's probability after a reply: its weight, where the player's strategy is played
probability-reply : (ss : List ℕ) (m : Mixed) (i s : ℕ) → i < length ss → probability (reply m i s) ss ≡ sure s (get_or ss i 0) *ℚ weight m i ss
probability-reply [] m i s h = absurd (omega arith)
probability-reply (t ∷ ss) m zero s h =
    ap₂ (λ x y. x *ℚ y) (reply-first m s t) (probability-equal ss _ _ (later-first m s) ∙ sym (one-*ℚ _) ∙ ap (λ x. x *ℚ probability (later (own_as_one m 0)) ss) (sym (own_as_one-first m t)))
probability-reply (t ∷ ss) m (suc i) s h =
    let later_reply : (j u : ℕ) → later (reply m (suc i) s) j u ≡ reply (later m) i s j u = λ j u. grind (arith, tests) in
    ap₂ (λ x y. x *ℚ y) (reply-other m (suc i) s 0 t (λ e. omega (arith, e))) (probability-equal ss _ _ later_reply ∙ probability-reply ss (later m) i s (omega arith))
    ∙ ring rational_ring (m 0 t ∷ sure s (get_or ss i 0) ∷ weight (later m) i ss ∷ []) (A :* (B :* C)) (B :* (A :* C)) refl
    ∙ ap (λ x. sure s (get_or ss i 0) *ℚ x) (ap₂ (λ x y. x *ℚ y) (sym (own_as_one-next m i t)) (probability-equal ss _ _ (λ j u. sym (later-own_as_one m i j u))))

-- a factor that is 1 or 0
cond-factor : (b : Bool) (x y : ℚ) → where_true b (x *ℚ y) ≡ (cond b one_ℚ zero_ℚ *ℚ x) *ℚ y
cond-factor true x y = ap (λ z. z *ℚ y) (sym (one-*ℚ x))
cond-factor false x y = sym (ap (λ z. z *ℚ y) (zero-*ℚ x) ∙ zero-*ℚ y)

-- what a strategy is worth is what the reply with it pays
pub strategy_value-payoff : StrategyValuesArePayoffs
strategy_value-payoff g m i s h l =
    sum_to-same (profile_count g.strategies) _ _ (λ k b.
    let profile = profile_at g.strategies k in
    cond-factor (get_or profile i 0 == s) (weight m i profile) (g.pays i k)
    ∙ ap (λ x. x *ℚ g.pays i k) (sym (probability-reply profile m i s (omega (arith, h, length-profile g.strategies profile (IsProfile-profile_at g.strategies k b))))))

-- a payoff is the mean of what the player's strategies are worth
pub payoff-strategies : PayoffIsMeanOfStrategies
payoff-strategies g m i h =
    payoff-replies g m i i h ∙ sum_to-same (get_or g.strategies i 0) _ _ (λ s l. ap (λ x. m i s *ℚ x) (sym (strategy_value-payoff g m i s h l)))

-- no reply pays more than the best strategy is worth
reply-below : (g : Game) (m : Mixed) (i s t : ℕ) → i < length g.strategies → IsBestStrategy g m i s → t < get_or g.strategies i 0 → payoff g (reply m i t) i ≤ℚ strategy_value g m i s
reply-below g m i s t h best l = subst (λ x. x ≤ℚ strategy_value g m i s) (strategy_value-payoff g m i t h l) (best.greatest t l)

-- a better pure reply exists exactly where the best strategy is worth more
pub best_strategies-tell : BestStrategiesShowBetterReplies
best_strategies-tell g m i s h best = (
  λ l. record { strategy = s; within = best.within; pays_more = subst (λ x. payoff g m i <ℚ x) (strategy_value-payoff g m i s h best.within) l },
  λ r. lt_of_lt_of_le _ _ _ r.pays_more (reply-below g m i s r.strategy h best r.within),
)

-- an equilibrium is a valid profile at which no player's best strategy is worth more
pub equilibria-by_best_strategies : EquilibriaByBestStrategies
equilibria-by_best_strategies g m best h valid = (
  λ e i l. subst (λ x. x ≤ℚ payoff g m i) (sym (strategy_value-payoff g m i (best i) l (h i l).within)) (e.no_better_reply i (best i) l (h i l).within),
  λ below. record { valid = valid; no_better_reply = λ i t l b. le_trans _ _ _ (reply-below g m i (best i) t l (h i l) b) (below i l) },
)
