-- The equilibria of a game of two players, by its two tables.
use Rattle.std.proofs.Common.{ℕ, zero, suc, ◌<◌, ◌≡◌, [], ◌∷◌, length, get_or, sym, ap, ◌∙◌, subst, subst₂, arith}
use Rattle.rational.specs.Rational.{ℚ, ◌*ℚ◌, ◌≤ℚ◌, zero_ℚ, one_ℚ}
use Rattle.rational.specs.Sum.{sum_to}
use Rattle.rational.proofs.RationalRing.{*ℚ_comm}
use Rattle.rational.proofs.SumLemmas.{sum_to-same}
use Rattle.game_theory.specs.Profiles.{Game}
use Rattle.game_theory.specs.Mixed.{Mixed, payoff}
use Rattle.game_theory.specs.Equilibrium.{IsEquilibrium}
use Rattle.extreme_equilibria.specs.ExtremeEquilibria.{with_part, IsMidpoint, AreSame, IsNoMidpoint, IsExtremeEquilibrium}
use Rattle.extreme_equilibria.specs.TwoPlayers.{pays_against}
use Rattle.extreme_equilibria.proofs.TwoPlayerLemmas as T
use Rattle.extreme_equilibria.specs.Bimatrix.{gain, mean_gain, IsBimatrixEquilibrium, IsExtremeBimatrixEquilibrium}
use Rattle.extreme_equilibria.specs.Laws.{EquilibriaByTables, ExtremeEquilibriaByTables}
use Rattle.extreme_equilibria.proofs.VertexLemmas.{equilibrium_same}

module _ (g : Game) (m n : ℕ) (e : g.strategies ≡ m ∷ n ∷ []) where
  two : length g.strategies ≡ 2
  two = ap length e

  first_count : get_or g.strategies 0 0 ≡ m
  first_count = ap (λ ns. get_or ns 0 0) e

  second_count : get_or g.strategies 1 0 ≡ n
  second_count = ap (λ ns. get_or ns 1 0) e

  -- what a strategy gains
  first-gain : (k : Mixed) (s : ℕ) → T.gain g k 0 s ≡ gain n (pays_against g 0) (k 1) s
  unfolding T.gain
  first-gain k s = ap (λ r. sum_to r (λ t. k 1 t *ℚ pays_against g 0 s t)) second_count ∙ sum_to-same n _ _ (λ t h. *ℚ_comm (k 1 t) (pays_against g 0 s t))

  second-gain : (k : Mixed) (s : ℕ) → T.gain g k 1 s ≡ gain m (pays_against g 1) (k 0) s
  unfolding T.gain
  second-gain k s = ap (λ r. sum_to r (λ t. k 0 t *ℚ pays_against g 1 s t)) first_count ∙ sum_to-same m _ _ (λ t h. *ℚ_comm (k 0 t) (pays_against g 1 s t))

  -- and the payoffs
  first-payoff : (k : Mixed) → payoff g k 0 ≡ mean_gain m n (pays_against g 0) (k 0) (k 1)
  first-payoff k = T.payoff-gains g k two 0 (omega arith) ∙ ap (λ r. sum_to r (λ s. k 0 s *ℚ T.gain g k 0 s)) first_count ∙ sum_to-same m _ _ (λ s h. ap (λ x. k 0 s *ℚ x) (first-gain k s))

  second-payoff : (k : Mixed) → payoff g k 1 ≡ mean_gain n m (pays_against g 1) (k 1) (k 0)
  second-payoff k = T.payoff-gains g k two 1 (omega arith) ∙ ap (λ r. sum_to r (λ s. k 1 s *ℚ T.gain g k 1 s)) second_count ∙ sum_to-same n _ _ (λ s h. ap (λ x. k 1 s *ℚ x) (second-gain k s))

  pub to_tables : (k : Mixed) → IsEquilibrium g k → IsBimatrixEquilibrium m n (pays_against g 0) (pays_against g 1) (k 0) (k 1)
  to_tables k h =
      record {
        first_mixed = record {
          not_negative = λ i b. (h.valid 0 (omega (arith, two))).not_negative i (subst (λ r. i < r) (sym first_count) b);
          sum_is_one = subst (λ r. sum_to r (k 0) ≡ one_ℚ) first_count ((h.valid 0 (omega (arith, two))).sum_is_one);
        };
        second_mixed = record {
          not_negative = λ j b. (h.valid 1 (omega (arith, two))).not_negative j (subst (λ r. j < r) (sym second_count) b);
          sum_is_one = subst (λ r. sum_to r (k 1) ≡ one_ℚ) second_count ((h.valid 1 (omega (arith, two))).sum_is_one);
        };
        first_best = λ i b. subst₂ (λ x y. x ≤ℚ y) (first-gain k i) (first-payoff k) (T.gain-below g k two h 0 i (omega arith) (subst (λ r. i < r) (sym first_count) b));
        second_best = λ j b. subst₂ (λ x y. x ≤ℚ y) (second-gain k j) (second-payoff k) (T.gain-below g k two h 1 j (omega arith) (subst (λ r. j < r) (sym second_count) b));
      }

  pub from_tables : (k : Mixed) → IsBimatrixEquilibrium m n (pays_against g 0) (pays_against g 1) (k 0) (k 1) → IsEquilibrium g k
  from_tables k s = T.equilibrium-by_gains g k two (λ p b. record { not_negative = λ i. not_negative p i b; sum_is_one = sum_is_one p b }) best
    where
      not_negative : (p i : ℕ) → p < length g.strategies → i < get_or g.strategies p 0 → zero_ℚ ≤ℚ k p i
      not_negative zero i b h = s.first_mixed.not_negative i (subst (λ r. i < r) first_count h)
      not_negative (suc zero) i b h = s.second_mixed.not_negative i (subst (λ r. i < r) second_count h)
      not_negative (suc (suc p)) i b h = absurd (omega (arith, two, b))

      sum_is_one : (p : ℕ) → p < length g.strategies → sum_to (get_or g.strategies p 0) (k p) ≡ one_ℚ
      sum_is_one zero b = subst (λ r. sum_to r (k 0) ≡ one_ℚ) (sym first_count) s.first_mixed.sum_is_one
      sum_is_one (suc zero) b = subst (λ r. sum_to r (k 1) ≡ one_ℚ) (sym second_count) s.second_mixed.sum_is_one
      sum_is_one (suc (suc p)) b = absurd (omega (arith, two, b))

      best : (p i : ℕ) → p < 2 → i < get_or g.strategies p 0 → T.gain g k p i ≤ℚ payoff g k p
      best zero i b h = subst₂ (λ x y. x ≤ℚ y) (sym (first-gain k i)) (sym (first-payoff k)) (s.first_best i (subst (λ r. i < r) first_count h))
      best (suc zero) i b h = subst₂ (λ x y. x ≤ℚ y) (sym (second-gain k i)) (sym (second-payoff k)) (s.second_best i (subst (λ r. i < r) second_count h))
      best (suc (suc p)) i b h = absurd (omega arith)

  -- one part replaced
  with_first : (k : Mixed) (p : ℕ → ℚ) → IsBimatrixEquilibrium m n (pays_against g 0) (pays_against g 1) p (k 1) → IsEquilibrium g (with_part k 0 p)
  with_first k p s = from_tables (with_part k 0 p) (equilibrium_same p (k 1) (with_part k 0 p 0) (with_part k 0 p 1) (λ i b. sym (T.with_part-at k 0 p i)) (λ j b. sym (T.with_part-other k 0 1 p j (λ q. omega arith))) s)

  with_second : (k : Mixed) (p : ℕ → ℚ) → IsBimatrixEquilibrium m n (pays_against g 0) (pays_against g 1) (k 0) p → IsEquilibrium g (with_part k 1 p)
  with_second k p s = from_tables (with_part k 1 p) (equilibrium_same (k 0) p (with_part k 1 p 0) (with_part k 1 p 1) (λ i b. sym (T.with_part-other k 1 0 p i (λ q. omega arith))) (λ j b. sym (T.with_part-at k 1 p j)) s)

  first_of : (k : Mixed) (p : ℕ → ℚ) → IsEquilibrium g (with_part k 0 p) → IsBimatrixEquilibrium m n (pays_against g 0) (pays_against g 1) p (k 1)
  first_of k p s = equilibrium_same (with_part k 0 p 0) (with_part k 0 p 1) p (k 1) (λ i b. T.with_part-at k 0 p i) (λ j b. T.with_part-other k 0 1 p j (λ q. omega arith)) (to_tables (with_part k 0 p) s)

  second_of : (k : Mixed) (p : ℕ → ℚ) → IsEquilibrium g (with_part k 1 p) → IsBimatrixEquilibrium m n (pays_against g 0) (pays_against g 1) (k 0) p
  second_of k p s = equilibrium_same (with_part k 1 p 0) (with_part k 1 p 1) (k 0) p (λ i b. T.with_part-other k 1 0 p i (λ q. omega arith)) (λ j b. T.with_part-at k 1 p j) (to_tables (with_part k 1 p) s)

  pub extreme_to_tables : (k : Mixed) → IsExtremeEquilibrium g k → IsExtremeBimatrixEquilibrium m n (pays_against g 0) (pays_against g 1) (k 0) (k 1)
  extreme_to_tables k h =
      record {
        equilibrium = to_tables k h.equilibrium;
        first_alone = λ p q s t mid. subst (λ r. AreSame r p q) first_count (h.alone 0 (omega (arith, two)) p q (with_first k p s) (with_first k q t) (subst (λ r. IsMidpoint r p q (k 0)) (sym first_count) mid));
        second_alone = λ p q s t mid. subst (λ r. AreSame r p q) second_count (h.alone 1 (omega (arith, two)) p q (with_second k p s) (with_second k q t) (subst (λ r. IsMidpoint r p q (k 1)) (sym second_count) mid));
      }

  pub extreme_from_tables : (k : Mixed) → IsExtremeBimatrixEquilibrium m n (pays_against g 0) (pays_against g 1) (k 0) (k 1) → IsExtremeEquilibrium g k
  extreme_from_tables k h = record { equilibrium = from_tables k h.equilibrium; alone = alone }
    where
      alone : (i : ℕ) → i < length g.strategies → IsNoMidpoint (get_or g.strategies i 0) (λ p. IsEquilibrium g (with_part k i p)) (k i)
      alone zero b p q s t mid = subst (λ r. AreSame r p q) (sym first_count) (h.first_alone p q (first_of k p s) (first_of k q t) (subst (λ r. IsMidpoint r p q (k 0)) first_count mid))
      alone (suc zero) b p q s t mid = subst (λ r. AreSame r p q) (sym second_count) (h.second_alone p q (second_of k p s) (second_of k q t) (subst (λ r. IsMidpoint r p q (k 1)) second_count mid))
      alone (suc (suc i)) b p q s t mid = absurd (omega (arith, two, b))

pub equilibria_by_tables : EquilibriaByTables
equilibria_by_tables g m n k e = (to_tables g m n e k, from_tables g m n e k)

pub extreme_equilibria_by_tables : ExtremeEquilibriaByTables
extreme_equilibria_by_tables g m n k e = (extreme_to_tables g m n e k, extreme_from_tables g m n e k)
