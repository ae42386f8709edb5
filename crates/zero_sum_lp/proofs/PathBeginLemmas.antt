-- The path begins at the start.
use Rattle.std.proofs.Common.{ℕ, suc, zero, pos, ◌<◌, ◌≤◌, ◌≡◌, sym, subst, [], arith, ◌⊎◌, inl, inr}
use Rattle.std.proofs.lemmas.Int.{ints}
use Rattle.rational.specs.Rational.{zero_ℚ, ◌≤ℚ◌, ◌<ℚ◌}
use Rattle.linear_systems.specs.Tableau.{Tableau}
use Rattle.rational.proofs.Linear.{linear, lit, ◌⟨<⟩◌}
use Rattle.linear_systems.specs.Lex.{IsLexPositive}
use Rattle.linear_systems.specs.Rows.{key, HasDistinctVariables}
use Rattle.linear_systems.specs.RowEquivalence.{IsStart}
use Rattle.linear_systems.proofs.RowLemmas.{coefficient_own, coefficient_basic}
use Rattle.linear_systems.proofs.RowEquivalenceLemmas.{reached_start}
use Rattle.zero_sum_lp.proofs.ObjectiveGrowthLemmas.{IsLexicographicallyFeasible}
use Rattle.rational.proofs.Field.{eq_or_lt_of_le}

-- at the start a row's key is its right side and then 1 at its own place
pub start_key : (m : ℕ) (s : Tableau) (i : ℕ) → HasDistinctVariables s → m ≤ s.rows → i < m → zero_ℚ ≤ℚ s.right i → IsLexPositive (suc m) (key s.basic s i)
start_key m s i p hm hi h = go (eq_or_lt_of_le zero_ℚ (s.right i) h)
  where
    before : zero_ℚ ≡ s.right i → (j : ℕ) → j < suc i → key s.basic s i j ≡ zero_ℚ
    before e zero hj = sym e
    before e (suc q) hj = coefficient_basic s i q p (omega arith) (omega arith) (omega arith)

    go : (zero_ℚ ≡ s.right i) ⊎ (zero_ℚ <ℚ s.right i) → IsLexPositive (suc m) (key s.basic s i)
    go (inl e) =
        record {
          place = suc i;
          within = omega arith;
          before = before e;
          above = subst (λ u. zero_ℚ <ℚ u) (sym (coefficient_own s i p (omega arith))) (linear [] [] (lit (pos 0) ⟨<⟩ lit (pos 1)) (λ one z u v. omega (arith, ints)) tt);
        }
    go (inr l) = record { place = 0; within = omega arith; before = λ j hj. absurd (omega arith); above = l }

pub start_on_path : (N m : ℕ) (s : Tableau) → IsStart N m s → ((i : ℕ) → i < m → zero_ℚ ≤ℚ s.right i) → IsLexicographicallyFeasible N m s s
start_on_path N m s st h = record { reached = reached_start N m s st; keys = λ i hi. start_key m s i st.proper st.rated hi (h i hi) }
