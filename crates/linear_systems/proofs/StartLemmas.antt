-- Lexicographic pivots keep what is said of reached tableaux
use Rattle.std.proofs.Common.{ℕ, suc, zero, ◌<◌, ◌≡◌, eqb, cond, sym, ap, ◌∙◌, subst, arith, ◌⊎◌, inl, inr}
use Rattle.rational.specs.Rational.{zero_ℚ, ◌<ℚ◌}
use Rattle.rational.proofs.Field.{eq_or_lt_of_le}
use Rattle.linear_systems.specs.Tableau.{Tableau, pivot}
use Rattle.linear_systems.specs.Lex.{IsLexPositive}
use Rattle.linear_systems.specs.Rows.{key, IsLexicographicRow, Alike}
use Rattle.std.proofs.lemmas.Bool.{cases_eq}
use Rattle.rational.proofs.InverseLemmas.{ne_zero_of_pos, zero_lt_one}
use Rattle.linear_systems.specs.RowEquivalence.{IsVariableOf, in_row, in_column}
use Rattle.linear_systems.proofs.AgreementLemmas.{alike_sym}
use Rattle.linear_systems.proofs.PivotLemmas.{eqb_same, eqb_apart}
use Rattle.linear_systems.proofs.LexLemmas.{lex_same}
use Rattle.linear_systems.proofs.LexRowLemmas.{keys_stay_alike}
use Rattle.linear_systems.proofs.RowEquivalenceLemmas.{reached_start, reached_pivot, reached_alike, stands_alike}
use Rattle.linear_systems.proofs.RowLemmas.{key_alike, coefficient_own, coefficient_basic}
use Rattle.linear_systems.specs.LexFeasible.{IsFeasibleStart, IsLexFeasible}

start_keys : (N : ℕ) (s : Tableau) (i : ℕ) → IsFeasibleStart N s → i < s.rows → IsLexPositive (suc s.rows) (key s.basic s i)
start_keys N s i st hi = go (eq_or_lt_of_le zero_ℚ (s.right i) (st.right i hi))
  where
    before : zero_ℚ ≡ s.right i → (j : ℕ) → j < suc i → key s.basic s i j ≡ zero_ℚ
    before e zero h = sym e
    before e (suc k) h = coefficient_basic s i k st.start.proper hi (omega arith) (omega arith)

    go : (zero_ℚ ≡ s.right i) ⊎ (zero_ℚ <ℚ s.right i) → IsLexPositive (suc s.rows) (key s.basic s i)
    go (inl e) = record { place = suc i; within = omega arith; before = before e; above = subst (λ a. zero_ℚ <ℚ a) (sym (coefficient_own s i st.start.proper hi)) zero_lt_one }
    go (inr l) = record { place = 0; within = omega arith; before = λ j h. absurd (omega arith); above = l }

-- the variables stay after a pivot
variables_pivot : (t : Tableau) (r c v : ℕ) → r < t.rows → c < t.width → IsVariableOf (pivot t r c) v → IsVariableOf t v
variables_pivot t r c v hr hc (in_row i hi e) = elim (cases_eq i r) [
  | inl q ↦ in_column c hc (sym (ap (λ b. cond b (t.nonbasic c) (t.basic i)) (ap (λ k. eqb k r) q ∙ eqb_same r)) ∙ e)
  | inr ne ↦ in_row i hi (sym (ap (λ b. cond b (t.nonbasic c) (t.basic i)) (eqb_apart i r ne)) ∙ e)
]
variables_pivot t r c v hr hc (in_column j hj e) = elim (cases_eq j c) [
  | inl q ↦ in_row r hr (sym (ap (λ b. cond b (t.basic r) (t.nonbasic j)) (ap (λ k. eqb k c) q ∙ eqb_same c)) ∙ e)
  | inr ne ↦ in_column j hj (sym (ap (λ b. cond b (t.basic r) (t.nonbasic j)) (eqb_apart j c ne)) ∙ e)
]

pub start_reached : (N : ℕ) (s : Tableau) → IsFeasibleStart N s → IsLexFeasible N s s
start_reached N s st = record { reached = reached_start N s.rows s st.start; variables = λ v h. h; keys = λ i hi. start_keys N s i st hi }

pub alike_reached : (N : ℕ) (s t u : Tableau) → IsFeasibleStart N s → Alike t u → IsLexFeasible N s t → IsLexFeasible N s u
alike_reached N s t u st a p =
    let rows : t.rows ≡ s.rows = p.reached.rows in
    record { reached = reached_alike N s.rows s t u st.start.rated a p.reached; variables = λ v h. p.variables v (stands_alike u t v (alike_sym t u a) h); keys = λ i hi. lex_same (suc s.rows) (key s.basic t i) (key s.basic u i) (λ k hk. key_alike s.basic t u i k a (omega arith)) (p.keys i hi) }

pub pivot_reached : (N : ℕ) (s t u : Tableau) (r c : ℕ) → IsFeasibleStart N s → IsLexFeasible N s t → c < s.width → IsLexicographicRow s.rows s.basic t c r → Alike (pivot t r c) u → IsLexFeasible N s u
pivot_reached N s t u r c st p hc x a =
    let rows : t.rows ≡ s.rows = p.reached.rows in
    let width : t.width ≡ s.width = p.reached.width in
    record {
      reached = reached_alike N s.rows s (pivot t r c) u st.start.rated a (reached_pivot N s.rows s t r c st.start.rated x.within (omega arith) (ne_zero_of_pos (t.cell r c) x.positive) p.reached);
      variables = λ v h. p.variables v (variables_pivot t r c v (let w : r < s.rows = x.within in omega arith) (omega arith) (stands_alike u (pivot t r c) v (alike_sym (pivot t r c) u a) h));
      keys = keys_stay_alike s.rows s.basic t u c r (omega arith) (omega arith) x a p.keys;
    }
