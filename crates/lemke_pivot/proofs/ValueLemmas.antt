-- the basic solution and the directions that a tableau shows, and what is basic
use Rattle.std.proofs.Common.{ℕ, ◌<◌, ◌≡◌, ◌≢◌, inl, inr, eqb, Bool, true, false, List, [], ◌∷◌, length, get_or, refl, sym, ap, ap₂, ◌∙◌, subst, arith, tests, true≢false, zero-add}
use Rattle.std.specs.List.{position_or_len, range_with_len}
use Rattle.std.proofs.lemmas.Bool.{cases_lt}
use Rattle.std.proofs.lemmas.List.Folds.{Any-from_list_any, list_any_at, list_any_none}
use Rattle.std.proofs.lemmas.List.FromFn.{length-range_with_len, get_or-range_with_len}
use Rattle.std.proofs.lemmas.List.Sums.{fails_before_first, passes_at_first}
use Rattle.rational.specs.Rational.{ℚ, ◌+ℚ◌, ◌*ℚ◌, neg_ℚ, zero_ℚ, one_ℚ}
use Rattle.rational.specs.Sum.{sum_to}
use Rattle.rational.proofs.RationalRing.{rational_ring}
use Rattle.rational.proofs.Ring.{ring, num, ◌:+◌, ◌:*◌, :neg, A, B, C, D}
use Rattle.rational.proofs.SumLemmas.{sum_to-same, sum_to-add, sum_to-zeros, sum_to-only}
use Rattle.linear_systems.specs.Tableau.{Tableau, left}
use Rattle.linear_systems.specs.Rows.{basic_solution, unit_at, HasDistinctVariables}
use Rattle.linear_systems.proofs.PivotLemmas.{eqb_apart, eqb_same}
use Rattle.linear_systems.proofs.RowLemmas.{unit_self, unit_other}
use Rattle.linear_systems.proofs.SolutionLemmas.{basic_sum, sum_elsewhere, solution_elsewhere}
use Rattle.lemke_pivot.specs.Values.{direction, is_basic}

-- ---- what is basic
eqb_out : (u v : ℕ) → eqb u v ≡ true → u ≡ v
eqb_out u v h = grind (arith, tests)

row_at : (t : Tableau) (i : ℕ) → i < t.rows → get_or (range_with_len 0 t.rows) i 0 ≡ i
row_at t i h = get_or-range_with_len 0 t.rows i 0 h ∙ zero-add i

-- the row of a basic variable
pub row_of : Tableau → ℕ → ℕ
row_of t v = position_or_len (λ i. eqb (t.basic i) v) (range_with_len 0 t.rows)

pub basic_yes : (t : Tableau) (i : ℕ) → i < t.rows → is_basic t (t.basic i) ≡ true
basic_yes t i h =
    list_any_at (λ k. eqb (t.basic k) (t.basic i)) (range_with_len 0 t.rows) i 0 (omega (arith, length-range_with_len 0 t.rows)) (ap (λ k. eqb (t.basic k) (t.basic i)) (row_at t i h) ∙ eqb_same (t.basic i))

pub basic_no : (t : Tableau) (v : ℕ) → ((i : ℕ) → i < t.rows → t.basic i ≢ v) → is_basic t v ≡ false
basic_no t v h =
    list_any_none (λ i. eqb (t.basic i) v) (range_with_len 0 t.rows)
    (λ i d l. let k : i < t.rows = omega (arith, length-range_with_len 0 t.rows) in ap (λ j. eqb (t.basic j) v) (get_or-range_with_len 0 t.rows i d k ∙ zero-add i) ∙ eqb_apart (t.basic i) v (h i k))

pub basic_which : (t : Tableau) (v : ℕ) → is_basic t v ≡ true → (row_of t v < t.rows) × (t.basic (row_of t v) ≡ v)
unfolding row_of
basic_which t v e = (within, eqb_out (t.basic (row_of t v)) v (ap test (sym (row_at t (row_of t v) within)) ∙ passes_at_first test rows 0 found))
  where
    test : ℕ → Bool
    test i = eqb (t.basic i) v

    rows : List ℕ
    rows = range_with_len 0 t.rows

    found : row_of t v < length rows
    found = let w = Any-from_list_any test rows e in
        elim (cases_lt w.0 (row_of t v)) [ inl l ↦ absurd (true≢false (sym w.4 ∙ ap test (sym w.3) ∙ fails_before_first test rows w.0 w.1 l)) | inr l ↦ let k = w.2 in omega arith ]

    within : row_of t v < t.rows
    within = subst (λ n. row_of t v < n) (length-range_with_len 0 t.rows) found

-- ---- rows as linear forms
pub left_add : (t : Tableau) (x y : ℕ → ℚ) (i : ℕ) → left t (λ v. x v +ℚ y v) i ≡ left t x i +ℚ left t y i
unfolding left
left_add t x y i =
    ap (λ a. (x (t.basic i) +ℚ y (t.basic i)) +ℚ a) (sum_to-same t.width _ (λ j. (t.cell i j *ℚ x (t.nonbasic j)) +ℚ (t.cell i j *ℚ y (t.nonbasic j))) (λ j k. ring rational_ring (t.cell i j ∷ x (t.nonbasic j) ∷ y (t.nonbasic j) ∷ []) (A :* (B :+ C)) (A :* B :+ A :* C) refl) ∙ sum_to-add t.width (λ j. t.cell i j *ℚ x (t.nonbasic j)) (λ j. t.cell i j *ℚ y (t.nonbasic j)))
    ∙ ring rational_ring (x (t.basic i) ∷ y (t.basic i) ∷ sum_to t.width (λ j. t.cell i j *ℚ x (t.nonbasic j)) ∷ sum_to t.width (λ j. t.cell i j *ℚ y (t.nonbasic j)) ∷ []) (A :+ B :+ (C :+ D)) (A :+ C :+ (B :+ D)) refl

module _ (t : Tableau) (N : HasDistinctVariables t) where
  pub nonbasic_no : (j : ℕ) → j < t.width → is_basic t (t.nonbasic j) ≡ false
  nonbasic_no j h = basic_no t (t.nonbasic j) (λ i k. N.apart i j k h)

  pub value_out : (v : ℕ) → is_basic t v ≡ false → basic_solution t v ≡ zero_ℚ
  value_out v e = solution_elsewhere t v (λ i h q. true≢false (sym (ap (is_basic t) (sym q) ∙ basic_yes t i h) ∙ e))

  pub left_out : (x : ℕ → ℚ) (i : ℕ) → ((j : ℕ) → j < t.width → x (t.nonbasic j) ≡ zero_ℚ) → left t x i ≡ x (t.basic i)
  unfolding left
  left_out x i z = ap (λ a. x (t.basic i) +ℚ a) (sum_to-zeros t.width _ (λ j h. ap (λ a. t.cell i j *ℚ a) (z j h) ∙ ring rational_ring (t.cell i j ∷ []) (A :* num 0) (num 0) refl)) ∙ ring rational_ring (x (t.basic i) ∷ []) (A :+ num 0) A refl

  pub left_one : (x : ℕ → ℚ) (i c : ℕ) → c < t.width → ((j : ℕ) → j < t.width → j ≢ c → x (t.nonbasic j) ≡ zero_ℚ) → left t x i ≡ x (t.basic i) +ℚ (t.cell i c *ℚ x (t.nonbasic c))
  unfolding left
  left_one x i c h z = ap (λ a. x (t.basic i) +ℚ a) (sum_to-only t.width c _ h (λ j k ne. ap (λ a. t.cell i j *ℚ a) (z j k ne) ∙ ring rational_ring (t.cell i j ∷ []) (A :* num 0) (num 0) refl))

  pub direction_basic : (c i : ℕ) → c < t.width → i < t.rows → direction t c (t.basic i) ≡ neg_ℚ (t.cell i c)
  direction_basic c i h k = ap₂ (λ a b. a +ℚ b) (basic_sum t (λ i. neg_ℚ (t.cell i c)) i N k) (unit_other (t.nonbasic c) (t.basic i) (N.apart i c k h)) ∙ ring rational_ring (t.cell i c ∷ []) (:neg A :+ num 0) (:neg A) refl

  pub direction_out : (c v : ℕ) → is_basic t v ≡ false → direction t c v ≡ unit_at (t.nonbasic c) v
  direction_out c v e = ap (λ a. a +ℚ unit_at (t.nonbasic c) v) (sum_elsewhere t (λ i. neg_ℚ (t.cell i c)) v (λ i h q. true≢false (sym (ap (is_basic t) (sym q) ∙ basic_yes t i h) ∙ e))) ∙ ring rational_ring (unit_at (t.nonbasic c) v ∷ []) (num 0 :+ A) A refl

  pub direction_self : (c : ℕ) → c < t.width → direction t c (t.nonbasic c) ≡ one_ℚ
  direction_self c h = direction_out c (t.nonbasic c) (nonbasic_no c h) ∙ unit_self (t.nonbasic c)

  direction_other : (c j : ℕ) → c < t.width → j < t.width → j ≢ c → direction t c (t.nonbasic j) ≡ zero_ℚ
  direction_other c j h k ne = direction_out c (t.nonbasic j) (nonbasic_no j k) ∙ unit_other (t.nonbasic c) (t.nonbasic j) (λ e. ne (N.nonbasic_once j c k h e))

  -- along the direction no row changes
  pub direction_level : (c i : ℕ) → c < t.width → i < t.rows → left t (direction t c) i ≡ zero_ℚ
  direction_level c i h k = left_one (direction t c) i c h (λ j l ne. direction_other c j h l ne) ∙ ap₂ (λ a b. a +ℚ (t.cell i c *ℚ b)) (direction_basic c i h k) (direction_self c h) ∙ ring rational_ring (t.cell i c ∷ []) (:neg A :+ A :* num 1) (num 0) refl
