-- Pure replies: a payoff is the mean of the payoffs of a player's replies.
use Rattle.std.proofs.Common.{ℕ, zero, suc, ◌+◌, ◌*◌, ◌<◌, ◌≡◌, ◌≢◌, eqb, cond, List, [], ◌∷◌, length, get_or, sym, ap, ◌∙◌, subst, subst₂, arith, tests}
use Rattle.rational.specs.Rational.{ℚ, ◌*ℚ◌, ◌≤ℚ◌, zero_ℚ}
use Rattle.rational.specs.Sum.{sum_to}
use Rattle.rational.proofs.SumLemmas.{sum_to-same}
use Rattle.game_theory.specs.Profiles.{Game}
use Rattle.game_theory.specs.Mixed.{Mixed, later, mean, payoff, IsValid, sure, reply}
use Rattle.game_theory.specs.Equilibrium.{IsEquilibrium}
use Rattle.game_theory.specs.Laws.{PayoffIsMeanOfReplies}
use Rattle.game_theory.proofs.PayoffLemmas.{mean-same, mean-same_numbers, mean-first, mean-first_sure, mean-sum}

-- the player who replies plays the strategy
pub reply-at : (m : Mixed) (i s t : ℕ) → reply m i s i t ≡ sure s t
reply-at m i s t = grind (arith, tests)

-- the others play as before
pub reply-other : (m : Mixed) (i s j t : ℕ) → j ≢ i → reply m i s j t ≡ m j t
reply-other m i s j t h = grind (arith, tests)

-- the later players' part of a later player's reply
later-reply : (m : Mixed) (i s j t : ℕ) → later (reply m (suc i) s) j t ≡ reply (later m) i s j t
later-reply m i s j t = grind (arith, tests)

-- the later players' part of the first player's reply
later-first_reply : (m : Mixed) (s j t : ℕ) → later (reply m 0 s) j t ≡ later m j t
later-first_reply m s j t = grind (arith, tests)

-- the first player's part of a later player's reply
first-reply : (m : Mixed) (i s t : ℕ) → reply m (suc i) s 0 t ≡ m 0 t
first-reply m i s t = grind (arith, tests)

-- the mean at the first player's reply
mean-first_reply : (n : ℕ) (ns : List ℕ) (m : Mixed) (u : ℕ → ℚ) (s : ℕ) → s < n → mean (n ∷ ns) (reply m 0 s) u ≡ mean ns (later m) (λ j. u (n * j + s))
mean-first_reply n ns m u s h =
    mean-first_sure n ns (reply m 0 s) s u h (λ t. reply-at m 0 s t) ∙ mean-same ns (later (reply m 0 s)) (later m) (λ j. u (n * j + s)) (λ i t l b. later-first_reply m s i t)

-- the mean at a later player's reply
mean-later_reply : (n : ℕ) (ns : List ℕ) (m : Mixed) (u : ℕ → ℚ) (i s : ℕ) → mean (n ∷ ns) (reply m (suc i) s) u ≡ mean ns (reply (later m) i s) (λ j. sum_to n (λ t. m 0 t *ℚ u (n * j + t)))
mean-later_reply n ns m u i s =
    mean-first n ns (reply m (suc i) s) u ∙ mean-same ns _ (reply (later m) i s) _ (λ k t l b. later-reply m i s k t)
    ∙ mean-same_numbers ns (reply (later m) i s) _ _ (λ j q. sum_to-same n _ _ (λ t r. ap (λ x. x *ℚ u (n * j + t)) (first-reply m i s t)))

-- a mean is the mean of the means at a player's pure replies
pub mean-replies : (ns : List ℕ) (m : Mixed) (u : ℕ → ℚ) (i : ℕ) → i < length ns → mean ns m u ≡ sum_to (get_or ns i 0) (λ s. m i s *ℚ mean ns (reply m i s) u)
mean-replies [] m u i h = absurd (omega arith)
mean-replies (n ∷ ns) m u zero h =
    mean-first n ns m u ∙ mean-sum ns (later m) n (m 0) (λ s j. u (n * j + s)) ∙ sum_to-same n _ _ (λ s p. ap (λ x. m 0 s *ℚ x) (sym (mean-first_reply n ns m u s p)))
mean-replies (n ∷ ns) m u (suc i) h =
    mean-first n ns m u ∙ mean-replies ns (later m) (λ j. sum_to n (λ s. m 0 s *ℚ u (n * j + s))) i (omega arith) ∙ sum_to-same (get_or ns i 0) _ _ (λ s p. ap (λ x. m (suc i) s *ℚ x) (sym (mean-later_reply n ns m u i s)))

-- a payoff is the mean of the payoffs of a player's pure replies
pub payoff-replies : PayoffIsMeanOfReplies
payoff-replies g m i j h = mean-replies g.strategies m (g.pays j) i h

-- equal probabilities are valid together
pub IsValid-same : (ns : List ℕ) (m n : Mixed) → ((i t : ℕ) → i < length ns → t < get_or ns i 0 → m i t ≡ n i t) → IsValid ns m → IsValid ns n
IsValid-same ns m n e v i l =
    record { not_negative = λ t b. subst (λ x. zero_ℚ ≤ℚ x) (e i t l b) ((v i l).not_negative t b); sum_is_one = sym (sum_to-same (get_or ns i 0) (m i) (n i) (λ t b. e i t l b)) ∙ (v i l).sum_is_one }

-- equal probabilities pay the same
pub payoff-same : (g : Game) (m n : Mixed) (i : ℕ) → ((j t : ℕ) → j < length g.strategies → t < get_or g.strategies j 0 → m j t ≡ n j t) → payoff g m i ≡ payoff g n i
payoff-same g m n i e = mean-same g.strategies m n (g.pays i) e

-- replies to equal probabilities are equal
pub reply-same : (ns : List ℕ) (m n : Mixed) (i s : ℕ) → ((j t : ℕ) → j < length ns → t < get_or ns j 0 → m j t ≡ n j t) → (j t : ℕ) → j < length ns → t < get_or ns j 0 → reply m i s j t ≡ reply n i s j t
reply-same ns m n i s e j t l b = ap (λ x. cond (eqb j i) (sure s t) x) (e j t l b)

-- equal probabilities are equilibria together
pub IsEquilibrium-same : (g : Game) (m n : Mixed) → ((j t : ℕ) → j < length g.strategies → t < get_or g.strategies j 0 → m j t ≡ n j t) → IsEquilibrium g m → IsEquilibrium g n
IsEquilibrium-same g m n e h =
    record {
      valid = IsValid-same g.strategies m n e h.valid;
      no_better_reply = λ i s l b. subst₂ (λ x y. x ≤ℚ y) (payoff-same g (reply m i s) (reply n i s) i (reply-same g.strategies m n i s e)) (payoff-same g m n i e) (h.no_better_reply i s l b);
    }
