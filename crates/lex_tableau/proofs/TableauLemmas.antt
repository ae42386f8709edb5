-- A tableau is determined by its fractions
use Rattle.std.proofs.Common.{ℕ, ℤ, pos, suc, zero, ◌≡◌, ◌<◌, ◌+◌, ◌*◌, ◌/◌, ◌%◌, sym, ap, ap₂, ◌∙◌, subst, arith, ◌⊎◌, inl, inr, length, get_or, div-add-mod', eq-or-lt_of_le}
use Rattle.std.proofs.lemmas.Grind.{same_number_lists}
use Rattle.std.proofs.lemmas.List.{same_lists, get_or_default}
use native.Mathlib.Nat.{div-lt_iff_lt-mul, mod-lt}
use Rattle.linear_systems.specs.Tableau.{pivot}
use Rattle.linear_systems.specs.Rows.{basic_solution, Alike}
use Rattle.linear_systems.proofs.AgreementLemmas.{alike_both}
use Rattle.linear_systems.proofs.SolutionLemmas.{solution_basic}
use Rattle.whole_rows.specs.Rows.{from_place, fraction, IsRow}
use Rattle.lex_tableau.specs.Rows.{WholeTableau, tableau, IsTableau, IsPivotOf}
use Rattle.whole_rows.proofs.DeterminedRowLemmas.{rows_determined}

numbers_same : (a b : WholeTableau) → a.starts ≡ b.starts → a.basics ≡ b.basics → a.nonbasics ≡ b.nonbasics → a.rated ≡ b.rated → a.numbers ≡ b.numbers → a ≡ b
numbers_same a b p q r s t =
    ap₂ (λ x y. record { starts = x; basics = y; nonbasics = a.nonbasics; rated = a.rated; numbers = a.numbers }) p q
    ∙ ap₂ (λ x y. record { starts = b.starts; basics = b.basics; nonbasics = x; rated = y; numbers = a.numbers }) r s
    ∙ ap (λ x. record { starts = b.starts; basics = b.basics; nonbasics = b.nonbasics; rated = b.rated; numbers = x }) t

-- row by row
row_numbers : (a b : WholeTableau) → IsTableau a → IsTableau b → Alike (tableau a) (tableau b) → (i p : ℕ) → i < length a.basics → p < length a.nonbasics + 2 → from_place a.numbers (i * (length a.nonbasics + 2)) p ≡ from_place b.numbers (i * (length a.nonbasics + 2)) p
row_numbers a b ha hb l i p hi hp = rows_determined (length a.nonbasics + 2) row_a row_b (omega arith) (ha.rows i hi) is_row fractions p hp
  where
    row_a : ℕ → ℤ
    row_a = from_place a.numbers (i * (length a.nonbasics + 2))

    row_b : ℕ → ℤ
    row_b = from_place b.numbers (i * (length a.nonbasics + 2))

    width : length a.nonbasics ≡ length b.nonbasics
    width = l.width

    is_row : IsRow (length a.nonbasics + 2) (from_place b.numbers (i * (length a.nonbasics + 2)))
    is_row = subst (λ w. IsRow (w + 2) (from_place b.numbers (i * (w + 2)))) (sym width) (hb.rows i (let rows : length a.basics ≡ length b.basics = l.rows in omega arith))

    at_column : (j : ℕ) → j < length a.nonbasics → fraction row_a (j + 1) ≡ fraction row_b (j + 1)
    at_column j hj = l.cell i j hi hj ∙ ap (λ w. fraction (from_place b.numbers (i * (w + 2))) (j + 1)) (sym width)

    at_right : fraction row_a (length a.nonbasics + 1) ≡ fraction row_b (length a.nonbasics + 1)
    at_right = l.right i hi ∙ ap (λ w. fraction (from_place b.numbers (i * (w + 2))) (w + 1)) (sym width)

    fractions : (q : ℕ) → 0 < q → q < length a.nonbasics + 2 → fraction row_a q ≡ fraction row_b q
    fractions zero h k = absurd (omega arith)
    fractions (suc q) h k = elim (cases q k) [
      | inl e ↦ subst (λ r. fraction row_a r ≡ fraction row_b r) (let f : length a.nonbasics + 1 ≡ suc q = omega (arith, e) in f) at_right
      | inr m ↦ subst (λ r. fraction row_a r ≡ fraction row_b r) (let f : q + 1 ≡ suc q = omega arith in f) (at_column q m)
    ]
      where
        cases : (q : ℕ) → suc q < length a.nonbasics + 2 → (q ≡ length a.nonbasics) ⊎ (q < length a.nonbasics)
        cases q k = eq-or-lt_of_le (omega arith)

pub determined : (a b : WholeTableau) → IsTableau a → IsTableau b → a.starts ≡ b.starts → a.rated ≡ b.rated → Alike (tableau a) (tableau b) → a ≡ b
determined a b ha hb s r l = numbers_same a b s basics nonbasics r numbers
  where
    basics : a.basics ≡ b.basics
    basics = same_number_lists a.basics b.basics l.rows (λ i h. l.basic i h)

    nonbasics : a.nonbasics ≡ b.nonbasics
    nonbasics = same_number_lists a.nonbasics b.nonbasics l.width (λ j h. l.nonbasic j h)

    size : ℕ
    size = length a.nonbasics + 2

    lengths : length a.numbers ≡ length b.numbers
    lengths = ha.shape ∙ ap₂ (λ x y. length x * (length y + 2)) basics nonbasics ∙ sym hb.shape

    at : (k : ℕ) → k < length a.numbers → get_or a.numbers k (pos 0) ≡ get_or b.numbers k (pos 0)
    at k h =
        subst (λ n. get_or a.numbers n (pos 0) ≡ get_or b.numbers n (pos 0)) (div-add-mod' k size)
        (row_numbers a b ha hb l (k / size) (k % size) ((div-lt_iff_lt-mul {k = size} (omega arith)).1 (subst (λ n. k < n) ha.shape h)) (mod-lt k {m = size} (omega arith)))

    numbers : a.numbers ≡ b.numbers
    numbers = same_lists a.numbers b.numbers lengths (λ k d h. get_or_default a.numbers k d (pos 0) h ∙ at k h ∙ get_or_default b.numbers k (pos 0) d (let e : length a.numbers ≡ length b.numbers = lengths in omega arith))

-- a pivot makes one tableau
pub pivot_once : (n a b : WholeTableau) (row col : ℕ) → IsTableau a → IsTableau b → IsPivotOf n row col a → IsPivotOf n row col b → a ≡ b
pivot_once n a b row col ha hb p q =
    determined a b ha hb (p.starts ∙ sym q.starts) (p.rated ∙ sym q.rated) (alike_both (pivot (tableau n) row col) (tableau a) (tableau b) p.fractions q.fractions)

-- ---- the value of a variable
pub value_found : (n : WholeTableau) (i v : ℕ) → IsTableau n → i < length n.basics → get_or n.basics i 0 ≡ v → (tableau n).right i ≡ basic_solution (tableau n) v
value_found n i v t h e = sym (solution_basic (tableau n) i t.reached.reached.proper h) ∙ ap (basic_solution (tableau n)) e
