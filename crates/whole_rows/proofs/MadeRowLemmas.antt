-- Rows of whole numbers are there where their steps fit: those of a start, and those that a pivot makes.
use Rattle.std.proofs.Common.{ℕ, ℤ, pos, zero, suc, ◌≡◌, ◌≢◌, ◌<◌, ◌≤◌, ◌+◌, ◌*◌, ◌/◌, ◌%◌, ◌*ℤ◌, ◌<ℤ◌, ◌^◌, nat_abs, refl, sym, ap, ap₂, ◌∙◌, subst, List, [], ◌++◌, arith, inl, inr, Ok, get_or, length, map, All}
use Rattle.std.specs.List.{range_with_len, flat_map}
use Rattle.std.proofs.lemmas.Int.{ints}
use Rattle.std.proofs.lemmas.Bool.{cases_eq, cases_lt}
use Rattle.std.proofs.lemmas.Nat.{div-mul-add, mod-mul-add}
use Rattle.std.proofs.lemmas.List.Elements.{All-head}
use Rattle.std.proofs.lemmas.List.FromFn.{get_or-range_with_len, length-range_with_len, get_or-map-range_with_len, length-map-range_with_len}
use Rattle.std.proofs.Math.Nat.{div-le_self}
use Rattle.lists.proofs.ElementLemmas.{made-next, All-left, All-right}
use Rattle.lists.proofs.NumberLemmas.{place-inside}
use Rattle.rational.specs.Gcd.{gcd, div_ℤ}
use Rattle.rational.specs.LowestTerms.{nat_abs-div_ℤ}
use Rattle.rational.specs.Rational.{ℚ}
use Rattle.rational.proofs.GcdLemmas.{div_ℤ-mul}
use Rattle.frac128.specs.Fraction.{PartFits}
use Rattle.frac128.specs.Steps.{Step, StepFits}
use Rattle.frac128.specs.FirstUnfit.{StepsFit}
use Rattle.frac128.proofs.DifferenceLemmas.{neg_fits}
use Rattle.frac128.proofs.StepRunLemmas.{three-fit}
use Rattle.whole_rows.specs.Rows.{from_place, IsRow, IsGreatestDivisor}
use Rattle.whole_rows.specs.Steps.{product_step, difference_step}
use Rattle.whole_rows.specs.StartRows.{common_to, denominator_step, denominator_steps, numerator_step, numerator_steps, start_row_steps, start_steps, start_rows_fit, IsStartRow}
use Rattle.whole_rows.specs.Pivots.{place_steps, place_number, own_factor, other_factor, turned, row_steps}
use Rattle.whole_rows.specs.PivotedRows.{IsPivotedRow, IsPivotRow}
use Rattle.whole_rows.proofs.FittingStepLemmas.{times_fits, less_fits}
use Rattle.whole_rows.proofs.PlaceStepLemmas.{steps_lead, number_lead, steps_column, number_column, steps_other, number_other}
use Rattle.whole_rows.proofs.RowValueLemmas.{pivoted_row, combined_lead, kept_row, turned_row, reduced, by_one, own_factor_pos, factors_cross, steps_are}
use Rattle.whole_rows.proofs.RowWriteLemmas.{common_first, common_next, plus_one}
use Rattle.whole_rows.proofs.StartRowLemmas.{start_row}

-- ---- rows in a list
-- rows of so many numbers stand in a list
rows_listed : (rows size : ℕ) (f : ℕ → ℕ → ℤ) → (xs : List ℤ) × (length xs ≡ rows * size) × ((i p : ℕ) → i < rows → p < size → from_place xs (i * size) p ≡ f i p)
rows_listed rows size f = (
  map (λ k. f (k / size) (k % size)) (range_with_len 0 (rows * size)),
  length-map-range_with_len (λ k. f (k / size) (k % size)) 0 (rows * size),
  λ i p hi hp. get_or-map-range_with_len (λ k. f (k / size) (k % size)) 0 (rows * size) (i * size + p) (i * size + p) (pos 0) (place-inside rows size i p hi hp) (omega arith) ∙ ap₂ f (div-mul-add i size p hp) (mod-mul-add i size p hp),
)

-- so do rows each of which has what it is to have
pub rows_made : (rows size : ℕ) (P : ℕ → (ℕ → ℤ) → Type 0) → ((i : ℕ) (x y : ℕ → ℤ) → ((p : ℕ) → p < size → y p ≡ x p) → P i x → P i y) → ((i : ℕ) → i < rows → (x : ℕ → ℤ) × P i x) → (xs : List ℤ) × (length xs ≡ rows * size) × ((i : ℕ) → i < rows → P i (from_place xs (i * size)))
rows_made rows size P same each =
    let listed = rows_listed rows size (λ i. (chosen i).0) in
    (listed.0, listed.1, λ i l. same i (chosen i).0 (from_place listed.0 (i * size)) (λ p hp. listed.2 i p l hp) ((chosen i).1 l))
  where
    chosen : (i : ℕ) → (x : ℕ → ℤ) × (i < rows → P i x)
    chosen i = elim (cases_lt i rows) [ inl l ↦ ((each i l).0, λ _. (each i l).1) | inr g ↦ (λ _. pos 0, λ l. absurd (omega (arith, l, g))) ]

-- ---- steps one after another
-- where all steps fit that are made number by number, those of one number do
each_fits : (f : ℕ → Step) (n k : ℕ) → k < n → All StepFits (map f (range_with_len 0 n)) → StepFits (f k)
each_fits f n k l h =
    subst StepFits (get_or-map-range_with_len f 0 n k k (f k) l (omega arith)) (h k (f k) (subst (λ m. k < m) (sym (length-map-range_with_len f 0 n)) l))

-- so do those of one list of them
pub part_fits : (f : ℕ → List Step) (n k : ℕ) → k < n → All StepFits (flat_map f (range_with_len 0 n)) → All StepFits (f k)
part_fits f zero k l h = absurd (omega (arith, l))
part_fits f (suc n) k l h =
    let both : All StepFits (flat_map f (range_with_len 0 n) ++ f n) = subst (All StepFits) (made-next f n) h in
    elim (cases_eq k n) [
      | inl e ↦ subst (λ j. All StepFits (f j)) (sym e) (All-right StepFits (flat_map f (range_with_len 0 n)) (f n) both)
      | inr m ↦ part_fits f n k (omega (arith, l, m)) (All-left StepFits (flat_map f (range_with_len 0 n)) (f n) both)
    ]

-- where the steps of all rows of a start fit, those of each do
pub row_fits : (rows count : ℕ) (cells : List ℚ) (i : ℕ) → i < rows → start_rows_fit rows count cells (Ok tt) → StepsFit (start_steps count cells) i
row_fits rows count cells i l fit =
    let is_there : get_or (range_with_len 0 rows) i i ≡ i = omega (arith, get_or-range_with_len 0 rows i i l) in
    subst (StepsFit (start_steps count cells)) is_there (fit i i (omega (arith, l, length-range_with_len 0 rows)))

-- ---- a row of a start
-- the numbers over the least common denominator
abbrev start_number : ℕ → (ℕ → ℚ) → ℕ → ℤ
start_number count cells zero = pos (common_to cells count)
start_number count cells (suc k) = (cells k).num *ℤ pos (common_to cells count / (cells k).den)

-- the denominator fits where its steps do
common_fits : (cells : ℕ → ℚ) (n : ℕ) → All StepFits (denominator_steps cells n) → PartFits (pos (common_to cells n))
common_fits cells zero h = omega arith
common_fits cells (suc k) h = (times_fits (pos (common_to cells k)) (pos ((cells k).den / gcd (common_to cells k) (cells k).den))).1 (each_fits (denominator_step cells) (suc k) k (omega arith) h)

-- they are the row of the start where the row's steps fit
pub start_row_made : (count : ℕ) (cells : ℕ → ℚ) → All StepFits (start_row_steps count cells) → (x : ℕ → ℤ) × IsStartRow count cells x
start_row_made count cells h = (start_number count cells, start_row cells count (start_number count cells) refl (λ k _. ap (start_number count cells) (sym (plus_one k))) fits)
  where
    fits : (p : ℕ) → p < count + 1 → PartFits (start_number count cells p)
    fits zero _ = common_fits cells count (All-left StepFits (denominator_steps cells count) (numerator_steps cells (common_to cells count) count) h)
    fits (suc k) l =
        (times_fits (cells k).num (pos (common_to cells count / (cells k).den))).1
        (each_fits (numerator_step cells (common_to cells count)) count k (omega (arith, l)) (All-right StepFits (denominator_steps cells count) (numerator_steps cells (common_to cells count) count) h))

-- ---- a row that a pivot makes
-- the first numbers of a row have a greatest common divisor
divisor_made : (f : ℕ → ℤ) (size : ℕ) → pos 0 <ℤ f 0 → 0 < size → (g : ℕ) × IsGreatestDivisor f size g
divisor_made f zero h l = absurd (omega (arith, l))
divisor_made f (suc zero) h l = (nat_abs (f 0), common_first f (nat_abs (f 0)) h refl)
divisor_made f (suc (suc n)) h l =
    let before = divisor_made f (suc n) h (omega arith) in
    (gcd before.0 (nat_abs (f (suc n))), subst (λ m. IsGreatestDivisor f m (gcd before.0 (nat_abs (f (suc n))))) (sym (plus_one (suc n))) (common_next f (suc n) before.0 (gcd before.0 (nat_abs (f (suc n)))) before.1 refl))

-- a quotient is no larger
quotient_fits : (n : ℤ) (d : ℕ) → PartFits n → PartFits (div_ℤ n d)
quotient_fits n d h = let q : nat_abs n / d ≤ nat_abs n = div-le_self (nat_abs n) d in subst (λ k. k < 2 ^ 127) (sym (nat_abs-div_ℤ n d)) (omega (arith, q, h))

-- the number at a place fits where the steps there do
place_fits : (row b : ℕ → ℤ) (c : ℕ) (u v : ℤ) (p : ℕ) → All StepFits (place_steps row b c u v p) → PartFits (place_number row b c u v p)
place_fits row b c u v p h = elim (cases_eq p 0) [
  | inl e ↦ subst PartFits (sym (number_lead row b c u v p e)) ((times_fits (row 0) u).1 (All-head StepFits (product_step (row 0) u) [] (subst (All StepFits) (steps_lead row b c u v p e) h)))
  | inr n ↦ elim (cases_eq p c) [
    | inl e ↦ subst PartFits (sym (number_column row b c u v p n e)) (neg_fits (b 0 *ℤ v) ((times_fits (b 0) v).1 (All-head StepFits (product_step (b 0) v) [] (subst (All StepFits) (steps_column row b c u v p n e) h))))
    | inr m ↦ (let three = (three-fit (product_step (row p) u) (product_step (b p) v) (difference_step (row p *ℤ u) (b p *ℤ v))).0 (subst (All StepFits) (steps_other row b c u v p n m) h) in
        subst PartFits (sym (number_other row b c u v p n m)) ((less_fits (row p *ℤ u) (b p *ℤ v) ((times_fits (row p) u).1 three.0) ((times_fits (b p) v).1 three.1)).1 three.2))
  ]
]

module _ (size : ℕ) (row b : ℕ → ℤ) (c : ℕ) (is_row : IsRow size row) (is_pivot_row : IsRow size b) (entry : b c ≢ pos 0) (first : 0 < c) (last : c < size) where
  -- a row with a number in the column
  combined_made : row c ≢ pos 0 → All StepFits (row_steps size row b c) → (x : ℕ → ℤ) × IsPivotedRow size row b c x
  combined_made ne h = (new, pivoted_row row b c is_row.positive is_pivot_row.positive entry first u v above cross size 1 combined new last (omega arith) (λ p hp. by_one (combined p) (combined p) refl) (reduced size combined new (pos divisor.0) (omega (arith, last)) (omega (arith, ints, divisor.1.positive)) lead divisor.1 (λ p hp. div_ℤ-mul (combined p) divisor.0 (divisor.1.divides p hp)) (λ p hp. quotient_fits (combined p) divisor.0 (fits p hp))))
    where
      u : ℤ
      u = own_factor (b c) (row c)

      v : ℤ
      v = other_factor (b c) (row c)

      above : pos 0 <ℤ u
      above = own_factor_pos (b c) (row c) entry

      cross : v *ℤ b c ≡ row c *ℤ u
      cross = factors_cross (b c) (row c) entry

      combined : ℕ → ℤ
      combined = place_number row b c u v

      lead : pos 0 <ℤ combined 0
      lead = combined_lead row b c is_row.positive is_pivot_row.positive entry first u v above cross

      fits : (p : ℕ) → p < size → PartFits (combined p)
      fits p hp = place_fits row b c u v p (part_fits (place_steps row b c u v) size p hp (subst (All StepFits) (steps_are size row b c ne) h))

      divisor : (g : ℕ) × IsGreatestDivisor combined size g
      divisor = divisor_made combined size lead (omega (arith, last))

      new : ℕ → ℤ
      new p = div_ℤ (combined p) divisor.0

  -- what the pivot makes of a row is there where the row's steps fit
  pub pivoted_row_made : All StepFits (row_steps size row b c) → (x : ℕ → ℤ) × IsPivotedRow size row b c x
  pivoted_row_made h = elim (cases_eq (nat_abs (row c)) 0) [
    | inl e ↦ (row, kept_row row b c is_row.positive size row last (omega (arith, ints, e)) is_row (λ p hp. refl))
    | inr n ↦ combined_made (λ z. n (ap nat_abs z)) h
  ]

-- so is what it makes of its own row
pub pivot_row_made : (size : ℕ) (b : ℕ → ℤ) (c : ℕ) → IsRow size b → b c ≢ pos 0 → 0 < c → c < size → (x : ℕ → ℤ) × IsPivotRow size b c x
pivot_row_made size b c is_row entry first last = (turned b c, turned_row b c is_row.positive entry first size (turned b c) last is_row (λ p hp. refl))
