-- Profiles of best replies, player by player.
use Rattle.std.proofs.Common.{ℕ, ◌+◌, ◌*◌, ◌<◌, ◌≤◌, ◌≡◌, ◌≢◌, ◌⊎◌, ◌↔◌, inl, inr, Bool, IsTrue, List, length, get_or, refl, sym, ap, ◌∙◌, subst, arith}
use Rattle.std.proofs.lemmas.Bool.{cases_eq}
use Rattle.rational.specs.Rational.{ℚ, ◌≤ℚ◌}
use Rattle.rational.proofs.Field.{le_trans}
use Rattle.game_theory.specs.Profiles.{Game, profile_count, stride}
use Rattle.enumpure.specs.Replies.{exchanged, PlaysBestReply, plays_best, IsGreatestInLine, KeepsBestInLine, KeepsBestReplies, AreMutualBestReplies}
use Rattle.enumpure.proofs.ExchangeLemmas.{strategy_at, strategy_at-below, exchanged-below, exchanged-again, strategy_at-exchanged, exchanged-own, exchanged-first}

-- The best replies after the profiles with numbers below `first` were looked at: those of the profiles that come
-- from them by an exchange of player i's strategy are done, and the others are as they were.
pub record KeepsBestBelow (g : Game) (i : ℕ) (old new : List Bool) (first : ℕ) : Type 0 where
  pub done : (k : ℕ) → k < profile_count g.strategies → exchanged g.strategies k i 0 < first → IsTrue (plays_best new k) ↔ (IsTrue (plays_best old k) × PlaysBestReply g i k)
  pub ahead : (k : ℕ) → k < profile_count g.strategies → first ≤ exchanged g.strategies k i 0 → plays_best new k ≡ plays_best old k

-- at first all best replies are as they were
pub KeepsBestBelow-none : (g : Game) (i : ℕ) (best_replies : List Bool) → KeepsBestBelow g i best_replies best_replies 0
KeepsBestBelow-none g i best_replies = record { done = λ k l h. absurd (omega arith); ahead = λ k l h. refl }

-- at last each entry is done
pub KeepsBestReplies-all : (g : Game) (i : ℕ) (old new : List Bool) → i < length g.strategies → KeepsBestBelow g i old new (profile_count g.strategies) → KeepsBestReplies g i old new
KeepsBestReplies-all g i old new l h k p =
    let some = strategy_at-below g.strategies k i (record { number = p; player = l }) in
    h.done k p (exchanged-below g.strategies k i 0 (record { number = p; player = l }) (omega (arith, some)))

-- a profile with another strategy than 0 settles nothing
pub KeepsBestBelow-skip : (g : Game) (i : ℕ) (old new : List Bool) (first : ℕ) → i < length g.strategies → 0 < get_or g.strategies i 0 → strategy_at g.strategies first i ≢ 0 → KeepsBestBelow g i old new first → KeepsBestBelow g i old new (first + 1)
KeepsBestBelow-skip g i old new first l b ne h = record { done = λ k p e. h.done k p (omega (arith, other k p)); ahead = λ k p e. h.ahead k p (omega arith) }
  where
    other : (k : ℕ) → k < profile_count g.strategies → exchanged g.strategies k i 0 ≢ first
    other k p e = ne (ap (λ v. strategy_at g.strategies v i) (sym e) ∙ strategy_at-exchanged g.strategies k i 0 (record { number = p; player = l }) b)

-- the best payoff is reached exactly by best replies
best-reached : (g : Game) (i k first : ℕ) (best : ℚ) → ((s : ℕ) → exchanged g.strategies k i s ≡ first + stride g.strategies i * s) → IsGreatestInLine (g.pays i) first (stride g.strategies i) (get_or g.strategies i 0) best → (best ≤ℚ g.pays i k) ↔ PlaysBestReply g i k
best-reached g i k first best e h =
    (λ l s b. le_trans _ best _ (subst (λ v. g.pays i v ≤ℚ best) (sym (e s)) (h.upper s b)) l, λ r. subst (λ v. v ≤ℚ g.pays i k) (ap (g.pays i) (e h.attained.0) ∙ sym h.attained.2) (r h.attained.0 h.attained.1))

-- a profile with strategy 0 settles those that come from it by an exchange
pub KeepsBestBelow-step : (g : Game) (i : ℕ) (old mid new : List Bool) (first : ℕ) (best : ℚ) → first < profile_count g.strategies → i < length g.strategies → 0 < get_or g.strategies i 0 → strategy_at g.strategies first i ≡ 0 → IsGreatestInLine (g.pays i) first (stride g.strategies i) (get_or g.strategies i 0) best → KeepsBestInLine (g.pays i) first (stride g.strategies i) (get_or g.strategies i 0) best mid new → KeepsBestBelow g i old mid first → KeepsBestBelow g i old new (first + 1)
KeepsBestBelow-step g i old mid new first best f l b z best_is in_line h =
    record { done = λ k p e. done k p e (cases_eq (exchanged ns k i 0) first); ahead = λ k p e. kept k p (λ q. absurd (omega arith)) ∙ h.ahead k p (omega arith) }
  where
    ns : List ℕ
    ns = g.strategies

    from : (k s : ℕ) → k < profile_count ns → exchanged ns k i 0 ≡ first → exchanged ns k i s ≡ first + stride ns i * s
    from k s p e =
        sym (exchanged-again ns k i 0 s (record { number = p; player = l }) b) ∙ ap (λ v. exchanged ns v i s) e ∙ exchanged-first ns first i s (record { number = f; player = l }) z

    kept : (k : ℕ) → k < profile_count ns → exchanged ns k i 0 ≢ first → plays_best new k ≡ plays_best mid k
    kept k p ne =
        in_line.others k (λ s q e. ne (ap (λ v. exchanged ns v i 0) (e ∙ sym (exchanged-first ns first i s (record { number = f; player = l }) z)) ∙ exchanged-again ns first i s 0 (record { number = f; player = l }) q ∙ exchanged-first ns first i 0 (record { number = f; player = l }) z ∙ omega arith))

    done : (k : ℕ) → k < profile_count ns → exchanged ns k i 0 < first + 1 → (exchanged ns k i 0 ≡ first) ⊎ (exchanged ns k i 0 ≢ first) → IsTrue (plays_best new k) ↔ (IsTrue (plays_best old k) × PlaysBestReply g i k)
    done k p e (inr ne) = subst (λ v. IsTrue v ↔ (IsTrue (plays_best old k) × PlaysBestReply g i k)) (sym (kept k p ne)) (h.done k p (omega arith))
    done k p e (inl q) = (λ t. (subst IsTrue same ((own.0 t).0), reached.0 (own.0 t).1), λ w. own.1 (subst IsTrue (sym same) w.0, reached.1 w.1))
      where
        here : k ≡ first + stride ns i * strategy_at ns k i
        here = sym (exchanged-own ns k i (record { number = p; player = l })) ∙ from k (strategy_at ns k i) p q

        same : plays_best mid k ≡ plays_best old k
        same = h.ahead k p (omega arith)

        reached : (best ≤ℚ g.pays i k) ↔ PlaysBestReply g i k
        reached = best-reached g i k first best (λ s. from k s p q) best_is

        own : IsTrue (plays_best new k) ↔ (IsTrue (plays_best mid k) × (best ≤ℚ g.pays i k))
        own =
            subst (λ v. IsTrue (plays_best new v) ↔ (IsTrue (plays_best mid v) × (best ≤ℚ g.pays i v))) (sym here) (in_line.in_line (strategy_at ns k i) (strategy_at-below ns k i (record { number = p; player = l })))

-- The best replies after the players before `count`: those of profiles at which each of these plays a best reply.
pub record AreBestRepliesBelow (g : Game) (best_replies : List Bool) (count : ℕ) : Type 0 where
  pub of_each : length best_replies ≡ profile_count g.strategies
  pub all_best : (k : ℕ) → k < profile_count g.strategies → IsTrue (plays_best best_replies k) ↔ ((i : ℕ) → i < count → PlaysBestReply g i k)

-- at first all best replies are true
pub AreBestRepliesBelow-none : (g : Game) (best_replies : List Bool) → length best_replies ≡ profile_count g.strategies → ((k : ℕ) → k < profile_count g.strategies → IsTrue (plays_best best_replies k)) → AreBestRepliesBelow g best_replies 0
AreBestRepliesBelow-none g best_replies e h = record { of_each = e; all_best = λ k l. (λ t i b. absurd (omega arith), λ _. h k l) }

-- one player more
pub AreBestRepliesBelow-next : (g : Game) (old new : List Bool) (i : ℕ) → length new ≡ length old → AreBestRepliesBelow g old i → KeepsBestReplies g i old new → AreBestRepliesBelow g new (i + 1)
AreBestRepliesBelow-next g old new i e h kept =
    record { of_each = e ∙ h.of_each; all_best = λ k l. (λ t j b. each k j t l b (cases_eq j i), λ r. (kept k l).1 ((h.all_best k l).1 (λ j b. r j (omega arith)), r i (omega arith))) }
  where
    each : (k j : ℕ) → IsTrue (plays_best new k) → k < profile_count g.strategies → j < i + 1 → (j ≡ i) ⊎ (j ≢ i) → PlaysBestReply g j k
    each k j t l b (inl q) = subst (λ v. PlaysBestReply g v k) (sym q) ((kept k l).0 t).1
    each k j t l b (inr q) = (h.all_best k l).0 ((kept k l).0 t).0 j (omega arith)

-- at last all players
pub AreMutualBestReplies-all : (g : Game) (best_replies : List Bool) → AreBestRepliesBelow g best_replies (length g.strategies) → AreMutualBestReplies g best_replies
AreMutualBestReplies-all g best_replies h = record { of_each = h.of_each; all_best = h.all_best }
