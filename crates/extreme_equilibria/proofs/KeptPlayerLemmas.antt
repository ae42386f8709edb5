-- Payoffs in a game of two players, by what the strategies pay against each other.
use Rattle.std.proofs.Common.{ℕ, zero, suc, ◌<◌, ◌≡◌, ◌≢◌, inl, inr, length, get_or, sym, ap, ◌∙◌, subst, arith}
use Rattle.rational.specs.Rational.{◌*ℚ◌, ◌≤ℚ◌, ◌<ℚ◌, zero_ℚ}
use Rattle.rational.proofs.Decide.{is_zero}
use Rattle.rational.proofs.Field.{le_of_eq, le_of_lt, lt_irrefl, lt_of_lt_of_le, lt-le, le-mul_left, lt-mul_left}
use Rattle.rational.proofs.Rules.{zero-*ℚ}
use Rattle.rational.proofs.SumLemmas.{sum_to-zeros, sum_to-lt}
use Rattle.rational.proofs.MeanLemmas.{support}
use Rattle.rational.proofs.InverseLemmas.{zero_lt_one}
use Rattle.game_theory.specs.Profiles.{Game}
use Rattle.game_theory.specs.Mixed.{Mixed, IsValid, payoff}
use Rattle.game_theory.specs.Equilibrium.{IsEquilibrium}
use Rattle.extreme_equilibria.specs.TwoPlayers.{other, pays_against}
use Rattle.extreme_equilibria.specs.Elimination.{IsKeptAfter, IsKept}
use Rattle.extreme_equilibria.specs.KeptLaws.{EquilibriaAreZeroAtRemoved}
unfoldable pub use Rattle.extreme_equilibria.proofs.TwoPlayerLemmas.{gain}
pub use Rattle.extreme_equilibria.proofs.TwoPlayerLemmas.{two-profile, gain-payoff, payoff-gains, gain-below, equilibrium-by_gains, other-below}
use Rattle.extreme_equilibria.proofs.RoundLemmas.{kept-within, search_below}

-- ---- dominated strategies
-- the strategies that are played are kept after n rounds
abbrev pub PlaysKept : Game → Mixed → ℕ → ℕ → Type 0
PlaysKept g m n i = (s : ℕ) → s < get_or g.strategies i 0 → m i s ≢ zero_ℚ → IsKeptAfter g n i s

module _ (g : Game) (m : Mixed) (two : length g.strategies ≡ 2) (valid : IsValid g.strategies m) where
  -- a strategy that is played
  some_played : (i : ℕ) → i < 2 → (s : ℕ) × (s < get_or g.strategies i 0) × (m i s ≢ zero_ℚ)
  some_played i l = elim (search_below (λ s. m i s ≢ zero_ℚ) (λ s. elim (is_zero (m i s)) [ inl z ↦ inr (λ n. n z) | inr n ↦ inl n ]) (get_or g.strategies i 0)) [
    | inl found ↦ found
    | inr none ↦ absurd (lt_irrefl zero_ℚ (subst (λ x. zero_ℚ <ℚ x) (sym ((valid i (omega arith)).sum_is_one) ∙ sum_to-zeros (get_or g.strategies i 0) (m i) (λ s h. elim (is_zero (m i s)) [ inl z ↦ z | inr n ↦ absurd (none s h n) ])) zero_lt_one))
  ]

  -- where the other player plays kept strategies, what pays more against each of them gains more
  gains-more : (n i s r : ℕ) → i < 2 → PlaysKept g m n (other i) → ((t : ℕ) → IsKeptAfter g n (other i) t → pays_against g i s t <ℚ pays_against g i r t) → gain g m i s <ℚ gain g m i r
  unfolding gain
  gains-more n i s r l plays more =
      let played = some_played (other i) (other-below i) in
      sum_to-lt (get_or g.strategies (other i) 0) played.0 _ _ term played.1
      (lt-mul_left (m (other i) played.0) _ _ ((lt-le zero_ℚ (m (other i) played.0)).1 ((valid (other i) (omega (arith, other-below i))).not_negative played.0 played.1, λ e. played.2 (sym e))) (more played.0 (plays played.0 played.1 played.2)))
    where
      term : (t : ℕ) → t < get_or g.strategies (other i) 0 → (m (other i) t *ℚ pays_against g i s t) ≤ℚ (m (other i) t *ℚ pays_against g i r t)
      term t h = elim (is_zero (m (other i) t)) [
        | inl z ↦ le_of_eq _ _ (ap (λ x. x *ℚ pays_against g i s t) z ∙ zero-*ℚ _ ∙ sym (zero-*ℚ _) ∙ ap (λ x. x *ℚ pays_against g i r t) (sym z))
        | inr p ↦ le-mul_left (m (other i) t) _ _ ((valid (other i) (omega (arith, other-below i))).not_negative t h) (le_of_lt _ _ (more t (plays t h p)))
      ]

  -- so a strategy that gains most is never removed
  pub best-kept : (i s : ℕ) → i < 2 → s < get_or g.strategies i 0 → ((r : ℕ) → r < get_or g.strategies i 0 → gain g m i r ≤ℚ gain g m i s) → ((n : ℕ) → PlaysKept g m n (other i)) → IsKept g i s
  best-kept i s l h best plays zero = h
  best-kept i s l h best plays (suc n) =
      (best-kept i s l h best plays n, λ d. lt_irrefl (gain g m i s) (lt_of_lt_of_le _ _ _ (gains-more n i s d.by l (plays n) d.pays_more) (best d.by (kept-within g n i d.by d.is_own))))

-- at an equilibrium a strategy that is played gains most
pub played-best : (g : Game) (m : Mixed) → length g.strategies ≡ 2 → IsEquilibrium g m → (i s : ℕ) → i < 2 → s < get_or g.strategies i 0 → m i s ≢ zero_ℚ → gain g m i s ≡ payoff g m i
played-best g m two e i s l h played = elim ((support (get_or g.strategies i 0) (m i) (gain g m i) (payoff g m i) (λ r k. (e.valid i (omega arith)).not_negative r k) ((e.valid i (omega arith)).sum_is_one) (λ r k. gain-below g m two e i r l k)).0 (sym (payoff-gains g m two i l)) s h) [
  | inl z ↦ absurd (played z)
  | inr q ↦ q
]

-- so it is kept
pub played-kept : (g : Game) (m : Mixed) → length g.strategies ≡ 2 → IsEquilibrium g m → (n i : ℕ) → i < 2 → PlaysKept g m n i
played-kept g m two e zero i l s h played = h
played-kept g m two e (suc n) i l s h played =
    (played-kept g m two e n i l s h played, λ d. lt_irrefl (gain g m i s) (lt_of_lt_of_le _ _ _ (gains-more g m two e.valid n i s d.by l (played-kept g m two e n (other i) (other-below i)) d.pays_more) (subst (λ x. gain g m i d.by ≤ℚ x) (sym (played-best g m two e i s l h played)) (gain-below g m two e i d.by l (kept-within g n i d.by d.is_own)))))

-- every equilibrium gives each removed strategy the probability 0
pub zero-at_removed : EquilibriaAreZeroAtRemoved
zero-at_removed g m two e i s l h removed = elim (is_zero (m i s)) [ inl z ↦ z | inr played ↦ absurd (removed (λ n. played-kept g m two e n i (omega arith) s h played)) ]
