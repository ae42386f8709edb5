-- Payoffs in a game of two players, by what the strategies pay against each other.
use Rattle.std.proofs.Common.{ℕ, zero, suc, ◌<◌, ◌≡◌, ◌≢◌, List, [], ◌∷◌, length, get_or, sym, ap, ap₂, ◌∙◌, subst, arith, tests}
use Rattle.rational.specs.Rational.{ℚ, ◌*ℚ◌, ◌≤ℚ◌}
use Rattle.rational.specs.Sum.{sum_to}
use Rattle.rational.proofs.SumLemmas.{sum_to-same}
use Rattle.game_theory.specs.Profiles.{Game, IsProfile}
use Rattle.game_theory.specs.Mixed.{Mixed, IsValid, payoff, pure, sure, reply}
use Rattle.game_theory.specs.Equilibrium.{IsEquilibrium}
use Rattle.extreme_equilibria.specs.ExtremeEquilibria.{with_part}
use Rattle.extreme_equilibria.specs.TwoPlayers.{other, pays_against}
use Rattle.game_theory.proofs.PureProfileLemmas.{payoff-pure}
use Rattle.game_theory.proofs.ReplyLemmas.{reply-at, reply-other, payoff-replies, payoff-same}

-- the other player is one of two
pub other-below : (i : ℕ) → other i < 2
other-below zero = omega arith
other-below (suc i) = omega arith

-- ---- one player's part
-- the player's own part
pub with_part-at : (m : Mixed) (i : ℕ) (p : ℕ → ℚ) (s : ℕ) → with_part m i p i s ≡ p s
with_part-at m i p s = grind (arith, tests)

-- the others' parts
pub with_part-other : (m : Mixed) (i j : ℕ) (p : ℕ → ℚ) (s : ℕ) → j ≢ i → with_part m i p j s ≡ m j s
with_part-other m i j p s apart = grind (arith, tests)

-- ---- payoffs
-- a pair of strategies is a profile
pub two-profile : (ns : List ℕ) (s t : ℕ) → length ns ≡ 2 → s < get_or ns 0 0 → t < get_or ns 1 0 → IsProfile ns (s ∷ t ∷ [])
two-profile [] s t e h l = absurd (omega (arith, e))
two-profile (a ∷ []) s t e h l = absurd (omega (arith, e))
two-profile (a ∷ c ∷ []) s t e h l = (h, (l, tt))
two-profile (a ∷ c ∷ d ∷ ns) s t e h l = absurd (omega (arith, e))

-- player i's payoff for strategy s against the other's probabilities
unfoldable pub gain : Game → Mixed → ℕ → ℕ → ℚ
gain g m i s = sum_to (get_or g.strategies (other i) 0) (λ t. m (other i) t *ℚ pays_against g i s t)

module _ (g : Game) (m : Mixed) (two : length g.strategies ≡ 2) where
  -- two strategies, the first player's replaced first or last
  cell : (m : Mixed) (s t i : ℕ) → s < get_or g.strategies 0 0 → t < get_or g.strategies 1 0 → ((u : ℕ) → m 0 u ≡ sure s u) → ((u : ℕ) → m 1 u ≡ sure t u) → payoff g m i ≡ payoff g (pure (s ∷ t ∷ [])) i
  cell m s t i h l first second = payoff-same g m (pure (s ∷ t ∷ [])) i each
    where
      each : (j u : ℕ) → j < length g.strategies → u < get_or g.strategies j 0 → m j u ≡ pure (s ∷ t ∷ []) j u
      each zero u a b = first u
      each (suc zero) u a b = second u
      each (suc (suc j)) u a b = absurd (omega arith)

  -- what a reply pays is the gain
  pub gain-payoff : (i s : ℕ) → i < 2 → s < get_or g.strategies i 0 → payoff g (reply m i s) i ≡ gain g m i s
  unfolding gain
  gain-payoff zero s l h =
      payoff-replies g (reply m 0 s) 1 0 (omega arith)
      ∙ sum_to-same (get_or g.strategies 1 0) _ _ (λ t b. ap₂ (λ x y. x *ℚ y) (reply-other m 0 s 1 t (λ e. omega arith)) (
      cell (reply (reply m 0 s) 1 t) s t 0 h b (λ u. reply-other (reply m 0 s) 1 t 0 u (λ e. omega arith) ∙ reply-at m 0 s u) (λ u. reply-at (reply m 0 s) 1 t u)
      ∙ payoff-pure g (s ∷ t ∷ []) 0 (two-profile g.strategies s t two h b)))
  gain-payoff (suc zero) s l h =
      payoff-replies g (reply m 1 s) 0 1 (omega arith)
      ∙ sum_to-same (get_or g.strategies 0 0) _ _ (λ t b. ap₂ (λ x y. x *ℚ y) (reply-other m 1 s 0 t (λ e. omega arith)) (
      cell (reply (reply m 1 s) 0 t) t s 1 b h (λ u. reply-at (reply m 1 s) 0 t u) (λ u. reply-other (reply m 1 s) 0 t 1 u (λ e. omega arith) ∙ reply-at m 1 s u)
      ∙ payoff-pure g (t ∷ s ∷ []) 1 (two-profile g.strategies t s two b h)))
  gain-payoff (suc (suc i)) s l h = absurd (omega arith)

  -- a payoff is the mean of the gains
  pub payoff-gains : (i : ℕ) → i < 2 → payoff g m i ≡ sum_to (get_or g.strategies i 0) (λ s. m i s *ℚ gain g m i s)
  payoff-gains i l = payoff-replies g m i i (omega arith) ∙ sum_to-same (get_or g.strategies i 0) _ _ (λ s h. ap (λ x. m i s *ℚ x) (gain-payoff i s l h))

  -- no strategy gains more than the payoff, at an equilibrium
  pub gain-below : IsEquilibrium g m → (i s : ℕ) → i < 2 → s < get_or g.strategies i 0 → gain g m i s ≤ℚ payoff g m i
  gain-below e i s l h = subst (λ x. x ≤ℚ payoff g m i) (gain-payoff i s l h) (e.no_better_reply i s (omega arith) h)

  -- and a valid profile where none does is one
  pub equilibrium-by_gains : IsValid g.strategies m → ((i s : ℕ) → i < 2 → s < get_or g.strategies i 0 → gain g m i s ≤ℚ payoff g m i) → IsEquilibrium g m
  equilibrium-by_gains valid below =
      record { valid = valid; no_better_reply = λ i s l h. subst (λ x. x ≤ℚ payoff g m i) (sym (gain-payoff i s (omega arith) h)) (below i s (omega arith) h) }
