-- The columns of the start's variables
use Rattle.std.proofs.Common.{ℕ, ℤ, zero, suc, ◌<◌, ◌≤◌, ◌≡◌, ◌≢◌, ◌-◌, sym, ◌∙◌, subst, subst₂, List, ◌∷◌, eqb, true, length, get_or, slice_set, replicate, arith}
use Rattle.std.specs.List.{list_any}
use Rattle.std.proofs.lemmas.Bool.{eqb-true}
use Rattle.std.proofs.lemmas.List.{get_or_default, get_or-replicate, length-replicate}
use Rattle.std.proofs.lemmas.List.Folds.{Any-from_list_any}
use Rattle.std.proofs.lemmas.Map.Keys.{IsDistinct-from_apart}
use Rattle.std.proofs.lemmas.Map.Steps.{length-le_from_distinct_below}
use Rattle.linear_systems.specs.Rows.{HasDistinctVariables}
use Rattle.linear_systems.proofs.PivotLemmas.{eqb_apart}
use Rattle.lex_tableau.specs.Rows.{tableau_of}
use Rattle.lex_tableau.specs.Columns.{IsColumnOf, AreColumnsOf}
use Rattle.lex_tableau.specs.Ratio.{HasEachOnce}

-- variables of which none stands twice, with other numbers
pub each_once : (bs ns : List ℕ) (xs ys : List ℤ) → HasDistinctVariables (tableau_of bs ns xs) → HasDistinctVariables (tableau_of bs ns ys)
each_once bs ns xs ys d = record { basic_once = d.basic_once; nonbasic_once = d.nonbasic_once; apart = d.apart }

-- variables below n, one of which is basic, stand in fewer than n columns
module _ (bs ns : List ℕ) (r n : ℕ) (d : HasEachOnce bs ns) (hr : r < length bs) where
  abbrev variables : List ℕ
  variables = get_or bs r 0 ∷ ns

  apart : (i j e : ℕ) → i < j → j < length variables → get_or variables i e ≢ get_or variables j e
  apart i zero e a h same = absurd (omega (arith, a))
  apart zero (suc j) e a h same = d.apart r j hr (omega (arith, h)) (same ∙ get_or_default ns j e 0 (omega (arith, h)))
  apart (suc i) (suc j) e a h same =
      let one : i ≡ j = d.nonbasic_once i j (omega (arith, a, h)) (omega (arith, h)) (sym (get_or_default ns i e 0 (omega (arith, a, h))) ∙ same ∙ get_or_default ns j e 0 (omega (arith, h))) in
      omega (arith, a, one)

  pub columns_few : get_or bs r 0 < n → ((j : ℕ) → j < length ns → get_or ns j 0 < n) → length ns < n
  columns_few hb hn =
      let few = length-le_from_distinct_below variables n (IsDistinct-from_apart eqb variables (λ i j e a h. eqb_apart _ _ (apart i j e a h))) below in
      omega (arith, few)
    where
      at : (k : ℕ) → k < length variables → get_or variables k 0 < n
      at zero h = hb
      at (suc k) h = hn k (omega (arith, h))

      below : (q : ℕ) → list_any (eqb q) variables ≡ true → q < n
      below q e =
          let a = Any-from_list_any (eqb q) variables e in
          subst (λ k. k < n) (get_or_default variables a.0 0 a.1 a.2 ∙ a.3 ∙ sym (eqb-true q a.1 a.4)) (at a.0 a.2)

-- ---- the column that is read
pub column_is : {ns ss cs : List ℕ} → AreColumnsOf ns ss cs → (p : ℕ) → p ≢ 0 → p ≤ length ss → IsColumnOf ns (get_or ss (p - 1) 0) (get_or cs (p - 1) 0)
column_is h p n l = h.columns_are (p - 1) (omega (arith, n, l))

pub column_within : (ns : List ℕ) (v k : ℕ) → IsColumnOf ns v k → k ≤ length ns
column_within ns v zero h = omega arith
column_within ns v (suc j) h = omega (arith, h.0)

-- ---- the columns after an exchange, where the code reads the lists elsewhere
pub columns_read : (ns ms ss ts xs ys : List ℕ) (c l k : ℕ) → ms ≡ ns → k ≡ l → ts ≡ ss → xs ≡ ys → AreColumnsOf (slice_set ms c k) ts xs → AreColumnsOf (slice_set ns c l) ss ys
columns_read ns ms ss ts xs ys c l k p q r s h =
    subst (AreColumnsOf (slice_set ns c l) ss) s
    (subst (λ ts. AreColumnsOf (slice_set ns c l) ts xs) r (subst₂ (λ ms l. AreColumnsOf (slice_set ms c l) ts xs) p q h))

-- ---- the columns of a start
pub columns_none : (bs ns : List ℕ) → HasEachOnce bs ns → AreColumnsOf ns bs (replicate (length bs) 0)
columns_none bs ns d =
    record {
      one_for_each = length-replicate (length bs) 0;
      columns_are = λ q h. subst (IsColumnOf ns (get_or bs q 0)) (sym (get_or-replicate (length bs) q 0 0 h)) (λ j hj e. d.apart q j h hj (sym e));
    }
