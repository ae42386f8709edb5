-- The pivots that are found from a tableau
use Rattle.std.proofs.Common.{ℕ, ◌<◌, ◌≤◌, ◌≡◌, ◌+◌, ◌^◌, refl, sym, ap, subst, arith, inl, inr, List, [], ◌∷◌, ◌++◌, length, get_or, eq-or-lt_of_le}
use Rattle.std.specs.List.{Contains}
use Rattle.linear_systems.specs.RowEquivalence.{in_row, in_column}
use Rattle.lex_tableau.specs.Rows.{WholeTableau, tableau, IsTableau}
use Rattle.basis_enum.specs.Bases.{digit, basis_of, neighbour_of, HaveDigits}
use Rattle.lex_tableau.specs.Ratio.{IsLeavingRow, variable_at}
use Rattle.basis_enum.proofs.NeighbourLemmas.{neighbour_is, neighbour_below}
use Rattle.rational.specs.Rational.{zero_ℚ, ◌≤ℚ◌}
use Rattle.rational.proofs.Field.{not_lt_of_le}
use Rattle.linear_systems.proofs.LexRowLemmas.{lex_row_once}
use Rattle.std.proofs.lemmas.List.Elements.{Contains-append_left, Contains-append_right, Contains-append_cases}
use Rattle.lists.proofs.ElementLemmas.{first_in, in_cases}
use Rattle.basis_enum.specs.declared.found_pivots.FoundPivot.{FoundPivot}
use Rattle.basis_enum.specs.Found.{IsFound, LeadsBack, AreFound, HasFound}

pub leaving_bounds : (t : WholeTableau) (r : ℕ) → HaveDigits t → r < length t.basics → (0 < get_or t.basics r 0) × (get_or t.basics r 0 ≤ 128)
leaving_bounds t r d h = d _ (in_row r h refl)

pub entering_bounds : (t : WholeTableau) (c : ℕ) → HaveDigits t → c < length t.nonbasics → (0 < get_or t.nonbasics c 0) × (get_or t.nonbasics c 0 ≤ 128)
entering_bounds t c d h = d _ (in_column c h refl)

pub target_fits : (t : WholeTableau) (r c basis leaving entering : ℕ) → IsTableau t → HaveDigits t → r < length t.basics → c < length t.nonbasics → basis ≡ basis_of t.nonbasics → leaving ≡ get_or t.basics r 0 → entering ≡ get_or t.nonbasics c 0 → basis + digit leaving < 2 ^ 128 + digit entering
target_fits t r c basis leaving entering h d hr hc p q e =
    let a : neighbour_of t r c + digit (get_or t.nonbasics c 0) ≡ basis_of t.nonbasics + digit (get_or t.basics r 0) = neighbour_is t r c hc in
    let b : neighbour_of t r c < 2 ^ 128 = neighbour_below t r c h d hr hc in
    let l : digit leaving ≡ digit (get_or t.basics r 0) = ap digit q in
    let m : digit entering ≡ digit (get_or t.nonbasics c 0) = ap digit e in
    omega arith

pub leads_back : (t : WholeTableau) (known : List ℕ) (c r : ℕ) → IsLeavingRow t c r → Contains known (neighbour_of t r c) → LeadsBack t known c
leads_back t known c r h k = λ q x. subst (λ n. Contains known (neighbour_of t n c)) (lex_row_once t.rated (variable_at t.starts) (tableau t) c r q h x) k

-- a column without a positive entry has no lexicographic row
pub no_row : (t : WholeTableau) (known : List ℕ) (c : ℕ) → ((i : ℕ) → i < t.rated → (tableau t).cell i c ≤ℚ zero_ℚ) → LeadsBack t known c
no_row t known c h = λ r x. absurd (not_lt_of_le _ _ (h r x.within) x.positive)

-- ---- column by column
-- a column below the bound, with such a pivot
pub record IsFoundBelow (t : WholeTableau) (place : ℕ) (known : List ℕ) (bound : ℕ) (p : FoundPivot) : Type 0 where
  pub column : ℕ
  pub within : column < bound
  pub found : IsFound t place known column p

-- of each column below the bound the pivot is there, or leads to a known basis
pub record AreFoundBelow (t : WholeTableau) (place : ℕ) (known : List ℕ) (bound : ℕ) (found : List FoundPivot) : Type 0 where
  pub each : (p : FoundPivot) → Contains found p → IsFoundBelow t place known bound p
  pub all : (column r : ℕ) → column < bound → IsLeavingRow t column r → ¬ (Contains known (neighbour_of t r column)) → HasFound t place known found column

pub found_start : (t : WholeTableau) (place : ℕ) (known : List ℕ) → AreFoundBelow t place known 0 []
found_start t place known = record { each = λ m c. absurd (omega (arith, c.1)); all = λ column r h. absurd (omega arith) }

pub found_none : (t : WholeTableau) (place : ℕ) (known : List ℕ) (n : ℕ) (found : List FoundPivot) → AreFoundBelow t place known n found → LeadsBack t known n → AreFoundBelow t place known (n + 1) found
found_none t place known n found f none =
    record {
      each = λ m c. let z = f.each m c in record { column = z.column; within = (let w : z.column < n = z.within in omega arith); found = z.found };
      all = λ column r h x new. elim (eq-or-lt_of_le (let l : column ≤ n = omega arith in l)) [
        | inl e ↦ absurd (subst (λ k. ¬ (Contains known (neighbour_of t r k))) e new (none r (subst (λ k. IsLeavingRow t k r) e x)))
        | inr l ↦ f.all column r l x new
      ];
    }

pub found_push : (t : WholeTableau) (place : ℕ) (known : List ℕ) (n : ℕ) (found : List FoundPivot) (m : FoundPivot) → AreFoundBelow t place known n found → IsFound t place known n m → AreFoundBelow t place known (n + 1) (found ++ m ∷ [])
found_push t place known n found m f h =
    record {
      each = λ k c. elim (Contains-append_cases found (m ∷ []) k c) [
        | inl a ↦ (let z = f.each k a in record { column = z.column; within = (let w : z.column < n = z.within in omega arith); found = z.found })
        | inr b ↦ elim (in_cases m k [] b) [ inl e ↦ record { column = n; within = omega arith; found = subst (IsFound t place known n) e h } | inr b ↦ absurd (omega (arith, b.1)) ]
      ];
      all = λ column r hc x new. elim (eq-or-lt_of_le (let l : column ≤ n = omega arith in l)) [
        | inl e ↦ (m, Contains-append_right found (m ∷ []) m (first_in m []), subst (λ k. IsFound t place known k m) (sym e) h)
        | inr l ↦ (let z = f.all column r l x new in (z.0, Contains-append_left found (m ∷ []) z.0 z.1, z.2))
      ];
    }

-- after all columns
pub found_all : (t : WholeTableau) (place : ℕ) (known : List ℕ) (n : ℕ) (found : List FoundPivot) → n ≡ length t.nonbasics → AreFoundBelow t place known n found → AreFound t place known found
found_all t place known n found e f =
    record {
      each = λ m c. let z = f.each m c in record { column = z.column; within = (let w : z.column < n = z.within in omega arith); found = z.found };
      all = λ column r h x new. f.all column r (omega arith) x new;
    }
