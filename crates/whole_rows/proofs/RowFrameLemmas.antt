-- Rows in a list: those that are not written stay, and the rows of a pivot are those of all numbers.
use Rattle.std.proofs.Common.{ℕ, ℤ, pos, suc, zero, ◌≡◌, ◌≢◌, ◌<◌, ◌≤◌, ◌+◌, ◌*◌, ◌<ℤ◌, nat_abs, eqb, cond, refl, sym, ap₂, ◌∙◌, subst, List, [], ◌++◌, arith, ◌⊎◌, inl, inr, get_or, mul-le-mul_right, All}
use Rattle.std.specs.Int.{◌∣◌}
use Rattle.std.proofs.lemmas.Bool.{cases_eq, cases_lt}
use Rattle.std.proofs.lemmas.List.Elements.{All-append}
use Rattle.lists.proofs.ElementLemmas.{made-next}
use Rattle.rational.specs.Rational.{frac}
use Rattle.frac128.specs.Fraction.{PartFits}
use Rattle.frac128.specs.declared.steps.Unfit.{Unfit}
use Rattle.linear_systems.proofs.PivotLemmas.{eqb_apart}
use Rattle.whole_rows.specs.Rows.{from_place, fraction, IsRow}
use Rattle.frac128.specs.Steps.{StepFits, IsFirstUnfit}
use Rattle.whole_rows.specs.Pivots.{row_steps, pivot_steps}
use Rattle.whole_rows.specs.PivotedRows.{IsPivotedRow, IsPivotRow}
use Rattle.frac128.proofs.StepRunLemmas.{first_unfit-more, first_unfit-following}
use Rattle.whole_rows.proofs.RowWriteLemmas.{plus_one}

-- ---- rows with the same numbers
same_fraction : (size p : ℕ) (x y : ℕ → ℤ) → p < size → ((p : ℕ) → p < size → y p ≡ x p) → fraction y p ≡ fraction x p
same_fraction size p x y h e = ap₂ (λ a b. frac a (nat_abs b)) (e p h) (e 0 (omega arith))

pub row_same : (size : ℕ) (x y : ℕ → ℤ) → 0 < size → ((p : ℕ) → p < size → y p ≡ x p) → IsRow size x → IsRow size y
row_same size x y h e r =
    record { positive = subst (λ n. pos 0 <ℤ n) (sym (e 0 h)) r.positive; fits = λ p hp. subst PartFits (sym (e p hp)) (r.fits p hp); lowest = λ d q. r.lowest d (λ p hp. subst (λ n. d ∣ nat_abs n) (e p hp) (q p hp)) }

pub pivoted_same : (size : ℕ) (row b : ℕ → ℤ) (c : ℕ) (x y : ℕ → ℤ) → c < size → ((p : ℕ) → p < size → y p ≡ x p) → IsPivotedRow size row b c x → IsPivotedRow size row b c y
pivoted_same size row b c x y h e r =
    record { is_row = row_same size x y (omega arith) e r.is_row; at_column = same_fraction size c x y h e ∙ r.at_column; elsewhere = λ p hp ps n. same_fraction size p x y ps e ∙ r.elsewhere p hp ps n }

pub pivot_same : (size : ℕ) (b : ℕ → ℤ) (c : ℕ) (x y : ℕ → ℤ) → c < size → ((p : ℕ) → p < size → y p ≡ x p) → IsPivotRow size b c x → IsPivotRow size b c y
pivot_same size b c x y h e r =
    record { is_row = row_same size x y (omega arith) e r.is_row; at_column = same_fraction size c x y h e ∙ r.at_column; elsewhere = λ p hp ps n. same_fraction size p x y ps e ∙ r.elsewhere p hp ps n }

-- ---- places of different rows
pub outside : (i k size p : ℕ) → k ≢ i → p < size → (k * size + p < i * size) ⊎ (i * size + size ≤ k * size + p)
outside i k size p n h = elim (cases_lt k i) [
  | inl l ↦ inl (let m : (k + 1) * size ≤ i * size = mul-le-mul_right size (omega arith) in omega arith)
  | inr g ↦ inr (let m : (i + 1) * size ≤ k * size = mul-le-mul_right size (omega arith) in omega arith)
]

pub row_kept : (i k size : ℕ) (xs ys : List ℤ) → k ≢ i → ((j : ℕ) → (j < i * size) ⊎ (i * size + size ≤ j) → get_or ys j (pos 0) ≡ get_or xs j (pos 0)) → (p : ℕ) → p < size → from_place ys (k * size) p ≡ from_place xs (k * size) p
row_kept i k size xs ys n h p hp = h (k * size + p) (outside i k size p n hp)

pub own_steps : (size : ℕ) (rows : ℕ → ℕ → ℤ) (r c i : ℕ) → i ≢ r → cond (eqb i r) [] (row_steps size (rows i) (rows r) c) ≡ row_steps size (rows i) (rows r) c
own_steps size rows r c i n = rw (eqb_apart i r n) refl

pub pivot_steps-next : (size : ℕ) (rows : ℕ → ℕ → ℤ) (r c i : ℕ) → pivot_steps size rows r c (suc i) ≡ pivot_steps size rows r c i ++ cond (eqb i r) [] (row_steps size (rows i) (rows r) c)
pivot_steps-next size rows r c i = made-next (λ i. cond (eqb i r) [] (row_steps size (rows i) (rows r) c)) i

pub rows_fit : (size : ℕ) (rows : ℕ → ℕ → ℤ) (r c i : ℕ) → All StepFits (pivot_steps size rows r c i) → All StepFits (cond (eqb i r) [] (row_steps size (rows i) (rows r) c)) → All StepFits (pivot_steps size rows r c (i + 1))
rows_fit size rows r c i f g = subst (λ n. All StepFits (pivot_steps size rows r c n)) (plus_one i) (subst (All StepFits) (sym (pivot_steps-next size rows r c i)) (All-append StepFits (pivot_steps size rows r c i) (cond (eqb i r) [] (row_steps size (rows i) (rows r) c)) f g))

pub unfit_row : (size : ℕ) (rows : ℕ → ℕ → ℤ) (r c i n : ℕ) (e : Unfit) → i < n → All StepFits (pivot_steps size rows r c i) → IsFirstUnfit (cond (eqb i r) [] (row_steps size (rows i) (rows r) c)) e → IsFirstUnfit (pivot_steps size rows r c n) e
unfit_row size rows r c i zero e l f h = absurd (omega arith)
unfit_row size rows r c i (suc n) e l f h = subst (λ s. IsFirstUnfit s e) (sym (pivot_steps-next size rows r c n)) (elim (cases_eq i n) [
  | inl k ↦ subst (λ m. IsFirstUnfit (pivot_steps size rows r c m ++ cond (eqb m r) [] (row_steps size (rows m) (rows r) c)) e) k (first_unfit-following (pivot_steps size rows r c i) (cond (eqb i r) [] (row_steps size (rows i) (rows r) c)) e f h)
  | inr m ↦ first_unfit-more (pivot_steps size rows r c n) (cond (eqb n r) [] (row_steps size (rows n) (rows r) c)) e (unfit_row size rows r c i n e (omega arith) f h)
])
