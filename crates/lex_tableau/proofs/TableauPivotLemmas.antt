-- What a pivot of whole numbers makes of a tableau.
use Rattle.std.proofs.Common.{ℕ, ℤ, pos, suc, zero, ◌≡◌, ◌≢◌, ◌<◌, ◌≤◌, ◌+◌, ◌*◌, ◌/◌, ◌%◌, refl, sym, ap, ap₂, ◌∙◌, subst, subst₂, List, [], ◌∷◌, arith, ◌⊎◌, inl, inr, length, get_or, slice_set, mul-le-mul_right, div-add-mod', mod-lt}
use Rattle.std.proofs.lemmas.Bool.{cases_eq, cases_lt}
use Rattle.std.specs.Result.{OnOk}
use Rattle.std.specs.declared.result.Result.{Result}
use Rattle.std.proofs.lemmas.List.{get_or_default, get_or-set_same, get_or-set_other, length-set}
use Rattle.rational.specs.Rational.{whole, zero_ℚ, ◌*ℚ◌, inv_ℚ}
use Rattle.rational.proofs.RationalRing.{rational_ring}
use Rattle.rational.proofs.Ring.{ring, num, ◌:*◌}
use Rattle.rational.proofs.Ring as R
use Rattle.frac128.specs.Fraction.{PartFits}
use Rattle.linear_systems.specs.Tableau.{pivot}
use Rattle.linear_systems.specs.Rows.{Alike}
use Rattle.linear_systems.specs.Lex.{IsLexPositive}
use Rattle.linear_systems.specs.Rows.{key}
use Rattle.linear_systems.proofs.LexRowLemmas.{keys_stay_alike}
use Rattle.linear_systems.proofs.PivotLemmas.{pivot_solves, cell_rc, cell_r, cell_c, cell_other, basic_r, basic_other, nonbasic_c, nonbasic_other, right_same, right_other}
use Rattle.lex_tableau.specs.Ratio.{variable_at, KeepsPositiveKeys}
use Rattle.linear_systems.proofs.RowEquivalenceLemmas.{reached_pivot, reached_alike}
use Rattle.whole_rows.specs.Rows.{from_place, fraction, IsRow}
use Rattle.lex_tableau.specs.Rows.{WholeTableau, HasSolutionsOf, whole_tableau, row_of, tableau, IsTableau, IsPivotOf, with_variables_exchanged}
use Rattle.lex_tableau.specs.Pivots.{HasPivotRow, HasOtherRows}
use Rattle.whole_rows.specs.PivotedRows.{IsPivotedRow, IsPivotRow}
use Rattle.whole_rows.proofs.RowValueLemmas.{fraction_over}

-- ---- each number of the list stands in a row
pub numbers_fit : (n : WholeTableau) → IsTableau n → (k : ℕ) → PartFits (get_or n.numbers k (pos 0))
numbers_fit n t k = elim (cases_lt k (length n.numbers)) [ inl l ↦ inside l | inr g ↦ subst PartFits (sym (get_or_beyond n.numbers k (pos 0) g)) zero_fits ]
  where
    size : ℕ
    size = length n.nonbasics + 2

    zero_fits : PartFits (pos 0)
    zero_fits = omega arith

    get_or_beyond : (xs : List ℤ) (k : ℕ) (d : ℤ) → length xs ≤ k → get_or xs k d ≡ d
    get_or_beyond [] k d h = refl
    get_or_beyond (x ∷ xs) zero d h = absurd (omega arith)
    get_or_beyond (x ∷ xs) (suc k) d h = get_or_beyond xs k d (omega arith)

    inside : k < length n.numbers → PartFits (get_or n.numbers k (pos 0))
    inside l =
        let whole_part : k / size * size + k % size ≡ k = div-add-mod' k size in
        let row : k / size < length n.basics = elim (cases_lt (k / size) (length n.basics)) [ inl h ↦ h | inr g ↦ (let m : length n.basics * size ≤ k / size * size = mul-le-mul_right size g in let e : length n.numbers ≡ length n.basics * size = t.shape in absurd (omega arith)) ] in
        subst (λ k. PartFits (get_or n.numbers k (pos 0))) whole_part ((t.rows (k / size) row).fits (k % size) (mod-lt k (omega arith)))

-- ---- the pivot of a tableau
module _ (n : WholeTableau) (r c : ℕ) (xs : List ℤ) (t : IsTableau n) (hr : r < n.rated) (hc : c < length n.nonbasics) (ne : (tableau n).cell r c ≢ zero_ℚ) (shape : length xs ≡ length n.numbers) (own : IsPivotRow (length n.nonbasics + 2) (row_of n r) (c + 1) (from_place xs (r * (length n.nonbasics + 2)))) (others : (i : ℕ) → i < length n.basics → i ≢ r → IsPivotedRow (length n.nonbasics + 2) (row_of n i) (row_of n r) (c + 1) (from_place xs (i * (length n.nonbasics + 2)))) where
  abbrev new : WholeTableau
  new = with_variables_exchanged n r c xs

  rows_same : length new.basics ≡ length n.basics
  rows_same = length-set n.basics r (get_or n.nonbasics c 0)

  width_same : length new.nonbasics ≡ length n.nonbasics
  width_same = length-set n.nonbasics c (get_or n.basics r 0)

  row_in : r < length n.basics
  row_in = let h : n.rated ≤ length n.basics = t.rated in omega arith

  -- the new row, by the old number of columns
  abbrev new_row : ℕ → ℕ → ℤ
  new_row i = from_place xs (i * (length n.nonbasics + 2))

  cells : (i j : ℕ) → i < length n.basics → j < length n.nonbasics → (i ≡ r) ⊎ (i ≢ r) → (j ≡ c) ⊎ (j ≢ c) → (pivot (tableau n) r c).cell i j ≡ fraction (new_row i) (j + 1)
  cells i j hi hj (inl a) (inl b) = subst (λ i. (pivot (tableau n) r c).cell i j ≡ fraction (new_row i) (j + 1)) (sym a) (subst (λ j. (pivot (tableau n) r c).cell r j ≡ fraction (new_row r) (j + 1)) (sym b) (cell_rc (tableau n) r c ∙ sym own.at_column))
  cells i j hi hj (inl a) (inr m) = subst (λ i. (pivot (tableau n) r c).cell i j ≡ fraction (new_row i) (j + 1)) (sym a) (cell_r (tableau n) r c j m ∙ sym (own.elsewhere (j + 1) (omega arith) (omega arith) (λ e. m (omega (arith, e)))))
  cells i j hi hj (inr k) (inl b) = subst (λ j. (pivot (tableau n) r c).cell i j ≡ fraction (new_row i) (j + 1)) (sym b) (cell_c (tableau n) r c i k ∙ sym (others i hi k).at_column)
  cells i j hi hj (inr k) (inr m) = cell_other (tableau n) r c i j k m ∙ sym ((others i hi k).elsewhere (j + 1) (omega arith) (omega arith) (λ e. m (omega (arith, e))))

  rights : (i : ℕ) → i < length n.basics → (i ≡ r) ⊎ (i ≢ r) → (pivot (tableau n) r c).right i ≡ fraction (new_row i) (length n.nonbasics + 1)
  rights i hi (inl a) = subst (λ i. (pivot (tableau n) r c).right i ≡ fraction (new_row i) (length n.nonbasics + 1)) (sym a) (right_same (tableau n) r c ∙ sym (own.elsewhere (length n.nonbasics + 1) (omega arith) (omega arith) (λ e. omega (arith, e, hc))))
  rights i hi (inr k) = right_other (tableau n) r c i k ∙ sym ((others i hi k).elsewhere (length n.nonbasics + 1) (omega arith) (omega arith) (λ e. omega (arith, e, hc)))

  is_row : (i : ℕ) → i < length n.basics → IsRow (length n.nonbasics + 2) (new_row i)
  is_row i hi = elim (cases_eq i r) [ inl e ↦ subst (λ i. IsRow (length n.nonbasics + 2) (new_row i)) (sym e) own.is_row | inr k ↦ (others i hi k).is_row ]

  pub pivot_alike : Alike (pivot (tableau n) r c) (tableau new)
  pivot_alike =
      record {
        rows = sym rows_same;
        width = sym width_same;
        basic = λ i hi. elim (cases_eq i r) [
          | inl e ↦ subst (λ i. (pivot (tableau n) r c).basic i ≡ get_or new.basics i 0) (sym e) (basic_r (tableau n) r c ∙ sym (get_or-set_same n.basics r (get_or n.nonbasics c 0) 0 row_in))
          | inr k ↦ basic_other (tableau n) r c i k ∙ sym (get_or-set_other n.basics r i (get_or n.nonbasics c 0) 0 k)
        ];
        nonbasic = λ j hj. elim (cases_eq j c) [
          | inl e ↦ subst (λ j. (pivot (tableau n) r c).nonbasic j ≡ get_or new.nonbasics j 0) (sym e) (nonbasic_c (tableau n) r c ∙ sym (get_or-set_same n.nonbasics c (get_or n.basics r 0) 0 hc))
          | inr k ↦ nonbasic_other (tableau n) r c j k ∙ sym (get_or-set_other n.nonbasics c j (get_or n.basics r 0) 0 k)
        ];
        cell = λ i j hi hj. cells i j hi hj (cases_eq i r) (cases_eq j c) ∙ ap (λ w. fraction (from_place xs (i * (w + 2))) (j + 1)) (sym width_same);
        right = λ i hi. rights i hi (cases_eq i r) ∙ ap (λ w. fraction (from_place xs (i * (w + 2))) (w + 1)) (sym width_same);
      }

  pub pivot_is_tableau : IsTableau new
  pivot_is_tableau =
      record {
        starts = t.starts ∙ sym rows_same;
        rated = subst (λ k. n.rated ≤ k) (sym rows_same) t.rated;
        shape = shape ∙ t.shape ∙ ap₂ (λ k w. k * (w + 2)) (sym rows_same) (sym width_same);
        rows = λ i hi. subst (λ w. IsRow (w + 2) (from_place xs (i * (w + 2)))) (sym width_same) (is_row i (subst (λ k. i < k) rows_same hi));
        reached = record {
          bound = t.reached.bound;
          start = t.reached.start;
          begins = t.reached.begins;
          basics = t.reached.basics;
          reached = reached_alike t.reached.bound n.rated t.reached.start (pivot (tableau n) r c) (tableau new) t.reached.begins.rated pivot_alike (reached_pivot t.reached.bound n.rated t.reached.start (tableau n) r c t.reached.begins.rated hr hc ne t.reached.reached);
        };
      }

  pub is_pivot : IsPivotOf n r c new
  is_pivot = record { fractions = pivot_alike; starts = refl; rated = refl }

pub entry_ne : (n : WholeTableau) (r c : ℕ) → IsTableau n → r < length n.basics → (tableau n).cell r c ≢ zero_ℚ → row_of n r (c + 1) ≢ pos 0
entry_ne n r c t hr ne e = ne (fraction_over (row_of n r) (c + 1) (t.rows r hr).positive ∙ ap (λ z. whole z *ℚ inv_ℚ (whole (row_of n r 0))) e ∙ ring rational_ring (inv_ℚ (whole (row_of n r 0)) ∷ []) (num 0 :* R.A) (num 0) refl)

-- ---- what the code reads of a tableau
-- the pivot's rows, where the code reads the numbers and their counts elsewhere
pub entry_read : (n : WholeTableau) (r c : ℕ) (xs : List ℤ) (w : ℕ) → IsTableau n → r < length n.basics → (tableau n).cell r c ≢ zero_ℚ → xs ≡ n.numbers → w ≡ length n.nonbasics → from_place xs (r * (w + 2)) (c + 1) ≢ pos 0
entry_read n r c xs w t h ne e f = subst (λ w. from_place xs (r * (w + 2)) (c + 1) ≢ pos 0) (sym f) (subst (λ xs. from_place xs (r * (length n.nonbasics + 2)) (c + 1) ≢ pos 0) (sym e) (entry_ne n r c t h ne))

pub numbers_fit_read : (n : WholeTableau) (xs : List ℤ) → IsTableau n → xs ≡ n.numbers → (k : ℕ) → PartFits (get_or xs k (pos 0))
numbers_fit_read n xs t e k = subst (λ xs. PartFits (get_or xs k (pos 0))) (sym e) (numbers_fit n t k)

pub row_told : {E : Type 0} (n : WholeTableau) (r c : ℕ) (xs ys : List ℤ) (w : ℕ) (o : Result (Unit {0}) E) → xs ≡ n.numbers → w ≡ length n.nonbasics → OnOk o (IsPivotRow (w + 2) (from_place xs (r * (w + 2))) (c + 1) (from_place ys (r * (w + 2)))) → OnOk o (IsPivotRow (length n.nonbasics + 2) (row_of n r) (c + 1) (from_place ys (r * (length n.nonbasics + 2))))
row_told n r c xs ys w o e f h = subst (λ w. OnOk o (IsPivotRow (w + 2) (from_place n.numbers (r * (w + 2))) (c + 1) (from_place ys (r * (w + 2))))) f (subst (λ xs. OnOk o (IsPivotRow (w + 2) (from_place xs (r * (w + 2))) (c + 1) (from_place ys (r * (w + 2))))) e h)

pub others_told : {E : Type 0} (n : WholeTableau) (r c : ℕ) (xs ys : List ℤ) (m w : ℕ) (o : Result (Unit {0}) E) → xs ≡ n.numbers → m ≡ length n.basics → w ≡ length n.nonbasics → OnOk o ((i : ℕ) → i < m → i ≢ r → IsPivotedRow (w + 2) (from_place xs (i * (w + 2))) (from_place xs (r * (w + 2))) (c + 1) (from_place ys (i * (w + 2)))) → OnOk o ((i : ℕ) → i < length n.basics → i ≢ r → IsPivotedRow (length n.nonbasics + 2) (row_of n i) (row_of n r) (c + 1) (from_place ys (i * (length n.nonbasics + 2))))
others_told n r c xs ys m w o e g f h =
    subst (λ w. OnOk o ((i : ℕ) → i < length n.basics → i ≢ r → IsPivotedRow (w + 2) (from_place n.numbers (i * (w + 2))) (from_place n.numbers (r * (w + 2))) (c + 1) (from_place ys (i * (w + 2))))) f
    (subst (λ m. OnOk o ((i : ℕ) → i < m → i ≢ r → IsPivotedRow (w + 2) (from_place n.numbers (i * (w + 2))) (from_place n.numbers (r * (w + 2))) (c + 1) (from_place ys (i * (w + 2))))) g
    (subst (λ xs. OnOk o ((i : ℕ) → i < m → i ≢ r → IsPivotedRow (w + 2) (from_place xs (i * (w + 2))) (from_place xs (r * (w + 2))) (c + 1) (from_place ys (i * (w + 2))))) e h))

-- the exchanged variables and the taken numbers, as the code writes them
pub exchanged_read : (P : WholeTableau → Type 0) (n : WholeTableau) (r c e l : ℕ) (xs ys : List ℤ) → r < length n.basics → c < length n.nonbasics → e ≡ get_or n.nonbasics c e → l ≡ get_or n.basics r l → ys ≡ xs → P (with_variables_exchanged n r c xs) → P (record { starts = n.starts; basics = slice_set n.basics r e; nonbasics = slice_set n.nonbasics c l; rated = n.rated; numbers = ys })
exchanged_read P n r c e l xs ys hr hc he hl hy h =
    subst (λ e. P (record { starts = n.starts; basics = slice_set n.basics r e; nonbasics = slice_set n.nonbasics c l; rated = n.rated; numbers = ys })) (sym (he ∙ get_or_default n.nonbasics c e 0 hc))
    (subst (λ l. P (record { starts = n.starts; basics = slice_set n.basics r (get_or n.nonbasics c 0); nonbasics = slice_set n.nonbasics c l; rated = n.rated; numbers = ys })) (sym (hl ∙ get_or_default n.basics r l 0 hr))
    (subst (λ ys. P (record { starts = n.starts; basics = slice_set n.basics r (get_or n.nonbasics c 0); nonbasics = slice_set n.nonbasics c (get_or n.basics r 0); rated = n.rated; numbers = ys })) (sym hy) h))

pub rated_in : (n : WholeTableau) (r : ℕ) → IsTableau n → r < n.rated → r < length n.basics
rated_in n r t h = let k : n.rated ≤ length n.basics = t.rated in omega arith

-- the pivot, as the code copies the variables and exchanges two of them
pub copied_pivot : (m : WholeTableau) (r c e l : ℕ) (ss bs ns : List ℕ) (k : ℕ) (xs : List ℤ) → IsTableau m → ss ≡ m.starts → bs ≡ m.basics → ns ≡ m.nonbasics → k ≡ m.rated → r < m.rated → c < length m.nonbasics → (tableau m).cell r c ≢ zero_ℚ → length xs ≡ length m.numbers → HasPivotRow m r c xs → HasOtherRows m r c xs → e ≡ get_or ns c e → l ≡ get_or bs r l → IsTableau (whole_tableau ss (slice_set bs r e) (slice_set ns c l) k xs) × IsPivotOf m r c (whole_tableau ss (slice_set bs r e) (slice_set ns c l) k xs)
copied_pivot m r c e l ss bs ns k xs t hs hb hn hk hr hc ne sh own others he hl =
    subst (λ (n : WholeTableau). IsTableau n × IsPivotOf m r c n) (sym same) (pivot_is_tableau m r c xs t hr hc ne sh own others, is_pivot m r c xs t hr hc ne sh own others)
  where
    entered : e ≡ get_or m.nonbasics c 0
    entered = he ∙ ap (λ ns. get_or ns c e) hn ∙ get_or_default m.nonbasics c e 0 hc

    left : l ≡ get_or m.basics r 0
    left = hl ∙ ap (λ bs. get_or bs r l) hb ∙ get_or_default m.basics r l 0 (rated_in m r t hr)

    same : whole_tableau ss (slice_set bs r e) (slice_set ns c l) k xs ≡ with_variables_exchanged m r c xs
    same =
        ap₂ (λ x y. whole_tableau x y (slice_set ns c l) k xs) hs (ap₂ (λ x y. slice_set x r y) hb entered)
        ∙ ap₂ (λ x y. whole_tableau m.starts (slice_set m.basics r (get_or m.nonbasics c 0)) x y xs) (ap₂ (λ x y. slice_set x c y) hn left) hk

-- a pivot keeps the solutions
pub solutions_kept : (n m : WholeTableau) (r c : ℕ) → IsTableau n → r < n.rated → c < length n.nonbasics → (tableau n).cell r c ≢ zero_ℚ → IsPivotOf n r c m → HasSolutionsOf n m
solutions_kept n m r c t hr hc ne p x = pivot_solves (tableau n) (tableau m) x r c (rated_in n r t hr) hc ne p.fractions

-- and on the lexicographic row the keys
pub keys_kept : (n m : WholeTableau) (r c : ℕ) → IsTableau n → c < length n.nonbasics → IsPivotOf n r c m → KeepsPositiveKeys n r c m
keys_kept n m r c t hc p best keys =
    subst₂ (λ (ss : List ℕ) (k : ℕ). (i : ℕ) → i < k → IsLexPositive (suc k) (key (variable_at ss) (tableau m) i)) (sym p.starts) (sym p.rated) (keys_stay_alike n.rated (variable_at n.starts) (tableau n) (tableau m) c r t.rated hc best p.fractions keys)
