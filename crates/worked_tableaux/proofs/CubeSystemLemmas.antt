-- Cubes are systems whose bases are enumerated.
use Rattle.std.proofs.Common.{ℕ, ◌<◌, ◌≤◌, ◌≡◌, ◌≢◌, ◌+◌, ◌-◌, ◌*◌, ◌^◌, ◌⊎◌, inl, inr, List, length, get_or, sym, ap, ◌∙◌, subst, arith}
use Rattle.std.specs.List.{All}
use Rattle.std.proofs.lemmas.Bool.{cases_lt}
use Rattle.std.proofs.lemmas.List.{get_or_past}
use Rattle.rational.specs.Rational.{ℚ, zero_ℚ, one_ℚ, ◌≤ℚ◌}
use Rattle.rational.proofs.Field.{le_refl, le_of_lt}
use Rattle.rational.proofs.InverseLemmas.{zero_lt_one}
use Rattle.linear_systems.specs.RowEquivalence.{IsVariableOf, in_row, in_column}
use Rattle.lex_tableau.specs.Entries.{AreNumbered}
use Rattle.lex_tableau.specs.Starts.{IsSystem, linear_system, system_of}
use Rattle.basis_enum.specs.Systems.{IsEnumerable}

pub one_above : zero_ℚ ≤ℚ one_ℚ
one_above = le_of_lt zero_ℚ one_ℚ zero_lt_one

-- the number at a place of a list of numbers
numbered_at : (first n : ℕ) (xs : List ℕ) → AreNumbered first n xs → (i : ℕ) → i < length xs
    → get_or xs i 0 ≡ first + i
numbered_at first n xs h i l = h.number_is i (subst (λ m. i < m) h.length_is l)

same_place : (first i k : ℕ) → first + i ≡ first + k → i ≡ k
same_place first i k e = omega arith

-- no number stands at two places
numbered_once : (first n : ℕ) (xs : List ℕ) → AreNumbered first n xs → (i k : ℕ) → i < length xs
    → k < length xs → get_or xs i 0 ≡ get_or xs k 0 → i ≡ k
numbered_once first n xs h i k l m q =
    same_place first i k (sym (numbered_at first n xs h i l) ∙ q ∙ numbered_at first n xs h k m)

apart : (n i j : ℕ) → j < n → n + 1 + i ≢ 1 + j
apart n i j l = λ e. omega arith

small_at : (first n i v : ℕ) → v ≡ first + i → i < n → first + n ≤ 2 ^ 32 → v < 2 ^ 32
small_at first n i v e l few = omega arith

small_zero : (v : ℕ) → v ≡ 0 → v < 2 ^ 32
small_zero v e = omega arith

small : (first n : ℕ) (xs : List ℕ) → AreNumbered first n xs → first + n ≤ 2 ^ 32 → (i : ℕ)
    → get_or xs i 0 < 2 ^ 32
small first n xs h few i = elim (cases_lt i n) [
  | inl l ↦ small_at first n i _ (h.number_is i l) l few
  | inr l ↦ small_zero _ (get_or_past xs i 0 (subst (λ m. m ≤ i) (sym h.length_is) l))
]

few_numbers : (n : ℕ) → n ≤ 64 → (n + 1 + n ≤ 2 ^ 32) × (1 + n ≤ 2 ^ 32)
few_numbers n few = (omega arith, omega arith)

few_rows : (rows n : ℕ) → rows ≡ n → n ≤ 64 → (n ≤ rows) × (rows < 2 ^ 32)
few_rows rows n e few = (omega arith, omega arith)

pub cube_system : (n : ℕ) (basics nonbasics : List ℕ) (cells : List ℚ) → n ≤ 64
    → AreNumbered (n + 1) n basics → AreNumbered 1 n nonbasics → length cells ≡ n * (n + 1)
    → IsSystem (linear_system basics nonbasics cells n)
cube_system n basics nonbasics cells few b c e =
    record {
      distinct = record {
        basic_once = numbered_once (n + 1) n basics b;
        nonbasic_once = numbered_once 1 n nonbasics c;
        apart = λ i j l m q.
            apart n i j (subst (λ k. j < k) c.length_is m)
            (sym (numbered_at (n + 1) n basics b i l) ∙ q ∙ numbered_at 1 n nonbasics c j m);
      };
      shape =
          e ∙ sym (ap (λ k. k * (n + 1)) b.length_is)
          ∙ ap (λ k. length basics * (k + 1)) (sym c.length_is);
      rated = (few_rows (length basics) n b.length_is few).0;
      basics_small = small (n + 1) n basics b (few_numbers n few).0;
      nonbasics_small = small 1 n nonbasics c (few_numbers n few).1;
      few = (few_rows (length basics) n b.length_is few).1;
    }

few_variables : (n rows width : ℕ) → rows ≡ n → width ≡ n → n ≤ 64 → rows + width ≤ 128
few_variables n rows width r w few = omega arith

row_within : (n rows width i v : ℕ) → rows ≡ n → width ≡ n → i < rows → n + 1 + i ≡ v
    → (0 < v) × (v ≤ rows + width)
row_within n rows width i v r w l e = (omega arith, omega arith)

column_within : (n rows width j v : ℕ) → rows ≡ n → width ≡ n → j < width → 1 + j ≡ v
    → (0 < v) × (v ≤ rows + width)
column_within n rows width j v r w l e = (omega arith, omega arith)

row_of : (n rows width v : ℕ) → rows ≡ n → width ≡ n → n < v → v ≤ rows + width
    → (v - (n + 1) < rows) × (n + 1 + (v - (n + 1)) ≡ v)
row_of n rows width v r w l m = (omega arith, omega arith)

column_of : (n width v : ℕ) → width ≡ n → 0 < v → v ≤ n → (v - 1 < width) × (1 + (v - 1) ≡ v)
column_of n width v w p l = (omega arith, omega arith)

pub cube_enumerable : (n : ℕ) (basics nonbasics : List ℕ) (cells : List ℚ) → n ≤ 64
    → AreNumbered (n + 1) n basics → AreNumbered 1 n nonbasics
    → All (λ q. zero_ℚ ≤ℚ q) cells → IsEnumerable (linear_system basics nonbasics cells n)
cube_enumerable n basics nonbasics cells few b c above =
    record {
      rated = sym rows;
      few = few_variables n _ _ rows width few;
      numbered = λ v. (there v, λ h. back v h.0 h.1 (cases_lt n v));
      right = λ i l. at (i * (length nonbasics + 1) + length nonbasics);
    }
  where
    rows : length basics ≡ n
    rows = b.length_is

    width : length nonbasics ≡ n
    width = c.length_is

    at : (k : ℕ) → zero_ℚ ≤ℚ get_or cells k zero_ℚ
    at k = elim (cases_lt k (length cells)) [
      | inl l ↦ above k zero_ℚ l
      | inr l ↦ subst (λ q. zero_ℚ ≤ℚ q) (sym (get_or_past cells k zero_ℚ l)) (le_refl zero_ℚ)
    ]

    there : (v : ℕ) → IsVariableOf (system_of (linear_system basics nonbasics cells n)) v
        → (0 < v) × (v ≤ length basics + length nonbasics)
    there v (in_row i l e) =
        row_within n _ _ i v rows width l (sym (numbered_at (n + 1) n basics b i l) ∙ e)
    there v (in_column j l e) =
        column_within n _ _ j v rows width l (sym (numbered_at 1 n nonbasics c j l) ∙ e)

    back : (v : ℕ) → 0 < v → v ≤ length basics + length nonbasics → (n < v) ⊎ (v ≤ n)
        → IsVariableOf (system_of (linear_system basics nonbasics cells n)) v
    back v p m (inl l) =
        let row : (v - (n + 1) < length basics) × (n + 1 + (v - (n + 1)) ≡ v) = row_of n _ _ v rows width l m in
        in_row (v - (n + 1)) row.0 (numbered_at (n + 1) n basics b _ row.0 ∙ row.1)
    back v p m (inr l) =
        let column : (v - 1 < length nonbasics) × (1 + (v - 1) ≡ v) = column_of n _ v width p l in
        in_column (v - 1) column.0 (numbered_at 1 n nonbasics c _ column.0 ∙ column.1)
