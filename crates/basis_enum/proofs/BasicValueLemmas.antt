-- The rows of basic variables, and the values of variables in a basic solution
use Rattle.std.proofs.Common.{ℕ, suc, List, [], ◌∷◌, ◌++◌, ◌+◌, ◌-◌, length, get_or, set, replicate, take, ap, ap₂, ◌<◌, ◌≤◌, ◌≡◌, ◌≢◌, ◌⊎◌, inl, inr, sym, ◌∙◌, subst, subst₂, arith, eq-or-lt_of_le, Option, Some, None, MatchOption}
use Rattle.std.proofs.lemmas.Bool.{cases_eq}
use Rattle.std.proofs.lemmas.List.{map_more, get_or-replicate, get_or-set_other, length-replicate, length-set}
use Rattle.std.proofs.lemmas.Grind.{get_or-set_at}
use Rattle.std.proofs.lemmas.List.Elements.{All-weaker}
use Rattle.lists.specs.Listed.{IsIndexOf}
use Rattle.rational.specs.Rational.{ℚ}
use Rattle.lex_tableau.specs.Rows.{WholeTableau, tableau}
use Rattle.linear_systems.specs.Rows.{basic_solution}
use Rattle.basis_enum.specs.Marks.{AreRowsOf, AreUpTo, values_of}
use Rattle.basis_enum.specs.Systems.{most_variables}

pub up_to_most : (n : ℕ) (variables : List ℕ) → n ≤ most_variables → AreUpTo n variables → AreUpTo most_variables variables
up_to_most n variables few h = All-weaker (λ v. (0 < v) × (v ≤ n)) (λ v. (0 < v) × (v ≤ most_variables)) (λ v b. (b.0, omega (arith, few, b.1))) variables h

-- ---- row by row
-- the row of the first n in which variable v is basic, or none
abbrev pub IsRowTo : WholeTableau → ℕ → ℕ → Option ℕ → Type 0
IsRowTo t n v o = MatchOption o ((i : ℕ) → i < n → get_or t.basics i 0 ≢ v) (λ row. (row < n) × (get_or t.basics row 0 ≡ v))

-- that of each variable that a system may have, for variable v at place v - 1
pub record AreRowsTo (t : WholeTableau) (n : ℕ) (rows : List (Option ℕ)) : Type 0 where
  pub size : length rows ≡ most_variables
  pub each : (l : ℕ) → l < most_variables → IsRowTo t n (suc l) (get_or rows l None)

pub rows_start : (t : WholeTableau) (rows : List (Option ℕ)) → rows ≡ replicate most_variables None → AreRowsTo t 0 rows
rows_start t rows e =
    record {
      size = ap length e ∙ length-replicate {A = Option ℕ} 128 None;
      each = λ l h. subst (IsRowTo t 0 (suc l)) (sym (ap (λ xs. get_or xs l None) e ∙ get_or-replicate most_variables l None None h)) (λ i k. absurd (omega arith));
    }

-- the row of variable v
pub rows_more : (t : WholeTableau) (n v : ℕ) (old new : List (Option ℕ)) → v ≡ get_or t.basics n 0 → 0 < v → v ≤ most_variables → new ≡ set old (v - 1) (Some n) → AreRowsTo t n old → AreRowsTo t (n + 1) new
rows_more t n v old new is above most e h =
    record {
      size = ap length e ∙ length-set old (v - 1) (Some n) ∙ h.size;
      each = λ l k. at l k (cases_eq l (v - 1));
    }
  where
    later : (l : ℕ) (r : Option ℕ) → l ≢ v - 1 → IsRowTo t n (suc l) r → IsRowTo t (n + 1) (suc l) r
    later l None f none = λ i k same. elim (eq-or-lt_of_le (let b : i ≤ n = omega arith in b)) [
      | inl last ↦ f (let here : get_or t.basics n 0 ≡ suc l = sym (ap (λ j. get_or t.basics j 0) last) ∙ same in omega arith)
      | inr less ↦ none i less same
    ]
    later l (Some row) f (within, same) = (omega arith, same)

    at : (l : ℕ) → l < most_variables → (l ≡ v - 1) ⊎ (l ≢ v - 1) → IsRowTo t (n + 1) (suc l) (get_or new l None)
    at l k (inl here) =
        let size : length old ≡ most_variables = h.size in
        subst (IsRowTo t (n + 1) (suc l)) (sym (ap (λ xs. get_or xs l None) e ∙ get_or-set_at old (v - 1) l (Some n) None here (omega arith)))
        (omega arith, omega arith)
    at l k (inr f) =
        subst (IsRowTo t (n + 1) (suc l)) (sym (ap (λ xs. get_or xs l None) e ∙ get_or-set_other old (v - 1) l (Some n) None f))
        (later l (get_or old l None) f (h.each l k))

-- among all rows
row-index : (t : WholeTableau) (v : ℕ) (row : Option ℕ) → IsRowTo t (length t.basics) v row → IsIndexOf t.basics v row
row-index t v None h = h
row-index t v (Some row) h = h

-- after all rows
pub rows_all : (t : WholeTableau) (n : ℕ) (rows : List (Option ℕ)) → n ≡ length t.basics → AreRowsTo t n rows → AreRowsOf t rows
rows_all t n rows e h = record { size = h.size; each = λ l k. row-index t (suc l) (get_or rows l None) (subst (λ m. IsRowTo t m (suc l) (get_or rows l None)) e (h.each l k)) }

-- the row of a variable
pub row_found : (t : WholeTableau) (rows : List (Option ℕ)) (v : ℕ) (r : Option ℕ) → AreRowsOf t rows → 0 < v → v ≤ most_variables → get_or rows (v - 1) None ≡ r → IsIndexOf t.basics v r
row_found t rows v r h above most e =
    subst₂ (IsIndexOf t.basics) (let back : suc (v - 1) ≡ v = omega arith in back) e (h.each (v - 1) (omega arith))

-- ---- one variable more
pub value_more : (t : WholeTableau) (xs : List ℕ) (i : ℕ) (q : ℚ) (old new : List ℚ)
    → q ≡ basic_solution (tableau t) (get_or xs i 0) → i < length xs → old ≡ values_of t (take i xs)
    → new ≡ old ++ q ∷ [] → new ≡ values_of t (take (i + 1) xs)
value_more t xs i q old new k l before pushed =
    pushed ∙ ap₂ (λ ys p. ys ++ p ∷ []) before k
    ∙ sym (map_more (basic_solution (tableau t)) xs i 0 l)
