-- The least common denominator of a row, and the whole numbers over it.
use Rattle.std.proofs.Common.{ℕ, ℤ, pos, negsuc, suc, zero, ◌≡◌, ◌≢◌, ◌<◌, ◌≤◌, ◌+◌, ◌*◌, ◌/◌, ◌*ℤ◌, ◌<ℤ◌, nat_abs, sym, ap, ap₂, ◌∙◌, subst, subst₂, List, arith, ◌⊎◌, inl, inr, mul-pos, length, get_or, slice_set, ◌-◌, Ok, Err, to_z, of_z, All, map, [], ◌∷◌, ◌++◌}
use Rattle.std.specs.Int.{◌∣◌, w128}
use Rattle.std.specs.List.{range_with_len}
use Rattle.std.proofs.lemmas.List.{get_or_default, get_or-set_same, get_or-set_other}
use Rattle.std.proofs.lemmas.Int.{ints, unsigned_abs-mul}
use Rattle.std.proofs.lemmas.Nat.Gcd.{dvd_trans}
use Rattle.std.proofs.lemmas.Bool.{cases_eq}
use Rattle.std.proofs.lemmas.List.Elements.{All-append}
use Rattle.std.proofs.lemmas.List.FromFn.{map-range_with_len_more}
use native.Mathlib.Nat.{dvd-mul_right, div-mul_cancel, mul-dvd-mul_right, dvd_of_mul-dvd-mul_right, eq-one_of_dvd-one, one-mul}
use Rattle.rational.specs.Gcd.{gcd, div_ℤ}
use Rattle.rational.specs.GcdLaws.{gcd-is, gcd_pos}
use Rattle.rational.proofs.GcdLemmas.{gcd-multiple, gauss}
use Rattle.rational.specs.Rational.{ℚ, frac, zero_ℚ}
use Rattle.rational.proofs.DenominatorLemmas.{den_pos, lowest}
use Rattle.rational.proofs.PartLemmas.{frac-scale}
use Rattle.rational.proofs.FractionLemmas.{frac_self, cancel_pos}
use Rattle.frac128.specs.Fraction.{PartFits}
use Rattle.frac128.specs.declared.steps.Unfit.{Unfit}
use Rattle.whole_rows.specs.Rows.{fraction, from_place}
use Rattle.frac128.specs.Steps.{Step, StepFits, IsFirstUnfit}
use Rattle.whole_rows.specs.Steps.{product_step}
use Rattle.whole_rows.specs.StartRows.{cells_from, common_to, denominator_step, denominator_steps, numerator_step, numerator_steps, start_row_steps, IsStartRow}
use Rattle.whole_rows.proofs.FittingStepLemmas.{times_fits, read_back}
use Rattle.std.specs.Result.{OnOk, IfErr}
use Rattle.std.specs.declared.result.Result.{Result}
use Rattle.whole_rows.proofs.RowFrameLemmas.{row_same}
use Rattle.frac128.proofs.StepRunLemmas.{fits-more, unfit-more, first_unfit-more, first_unfit-following}
use Rattle.whole_rows.proofs.RowWriteLemmas.{plus_one, kept_outside}

lcm_times : (m d : ℕ) → m * (d / gcd m d) * gcd m d ≡ m * d
lcm_times m d = let e : d / gcd m d * gcd m d ≡ d = div-mul_cancel (gcd m d) (gcd-is m d).1 in omega (arith, ap (λ x. m * x) e)

-- d divides it
lcm_right : (m d : ℕ) → 0 < d → d ∣ m * (d / gcd m d)
lcm_right m d hd = dvd_of_mul-dvd-mul_right {k = gcd m d} d (gcd_pos m d hd) (subst (λ x. d * gcd m d ∣ x) (sym (lcm_times m d)) (subst (λ x. d * gcd m d ∣ x) (swap d m) (mul_dvd d (gcd m d) m (gcd-is m d).0)))
  where
    swap : (d m : ℕ) → d * m ≡ m * d
    swap d m = omega arith

    mul_dvd : (d a b : ℕ) → a ∣ b → d * a ∣ d * b
    mul_dvd d a b h = subst₂ (λ x y. x ∣ y) (swap a d) (swap b d) (mul-dvd-mul_right _ h d)

-- and it divides what both divide
lcm_least : (m d c : ℕ) → 0 < d → m ∣ c → d ∣ c → m * (d / gcd m d) ∣ c
lcm_least m d c hd p q =
    dvd_of_mul-dvd-mul_right {k = gcd m d} (m * (d / gcd m d)) (gcd_pos m d hd) (subst₂ (λ x y. x ∣ y) (sym (lcm_times m d)) (swap (gcd m d) c) (gcd-multiple m d c (m * d) (subst (λ x. x ∣ m * c) (swap d m) (mul_left m d c q)) (subst (λ x. m * d ∣ x) (swap c d) (mul-dvd-mul_right _ p d))))
  where
    swap : (a b : ℕ) → a * b ≡ b * a
    swap a b = omega arith

    mul_left : (m d c : ℕ) → d ∣ c → d * m ∣ m * c
    mul_left m d c q = subst (λ x. d * m ∣ x) (swap c m) (mul-dvd-mul_right _ q m)

-- ---- the common denominator
module _ (cells : ℕ → ℚ) where
  pub common_pos : (n : ℕ) → 0 < common_to cells n
  common_pos zero = omega arith
  common_pos (suc n) = mul-pos (common_pos n) (factor_pos (common_to cells n) (cells n).den (den_pos (cells n)))
    where
      factor_pos : (m d : ℕ) → 0 < d → 0 < d / gcd m d
      factor_pos m d h = pos_of (d / gcd m d) (gcd m d) d h (div-mul_cancel (gcd m d) (gcd-is m d).1)
        where
          pos_of : (x g d : ℕ) → 0 < d → x * g ≡ d → 0 < x
          pos_of zero g d h e = absurd (let k : 0 * g ≡ 0 = omega arith in omega (arith, h, e, k))
          pos_of (suc x) g d h e = omega arith

  pub den_divides : (n k : ℕ) → k < n → (cells k).den ∣ common_to cells n
  den_divides zero k h = absurd (omega arith)
  den_divides (suc n) k h = elim (cases_eq k n) [
    | inl e ↦ subst (λ k. (cells k).den ∣ common_to cells (suc n)) (sym e) (lcm_right (common_to cells n) (cells n).den (den_pos (cells n)))
    | inr m ↦ dvd_trans (cells k).den (den_divides n k (omega arith)) (dvd-mul_right (common_to cells n) ((cells n).den / gcd (common_to cells n) (cells n).den))
  ]

  pub common_least : (n c : ℕ) → ((k : ℕ) → k < n → (cells k).den ∣ c) → common_to cells n ∣ c
  common_least zero c h = one_divides c
    where
      one_divides : (c : ℕ) → 1 ∣ c
      one_divides c = subst (λ x. 1 ∣ x) (one-mul c) (dvd-mul_right 1 c)
  common_least (suc n) c h = lcm_least (common_to cells n) (cells n).den c (den_pos (cells n)) (common_least n c (λ k hk. h k (omega arith))) (h n (omega arith))

  -- ---- the row over it
  only_one : (count : ℕ) (x : ℕ → ℤ) → x 0 ≡ pos (common_to cells count) → ((k : ℕ) → k < count → x (k + 1) ≡ (cells k).num *ℤ pos (common_to cells count / (cells k).den)) → (d : ℕ) → ((p : ℕ) → p < count + 1 → d ∣ nat_abs (x p)) → d ≡ 1
  only_one count x e0 e d h =
      eq-one_of_dvd-one (dvd_of_mul-dvd-mul_right {k = rest} d rest_pos (subst₂ (λ x y. x ∣ y) (sym (swap d rest ∙ rest_times)) (sym (one-mul rest)) (common_least count rest each)))
    where
      swap : (a c : ℕ) → a * c ≡ c * a
      swap a c = omega arith

      d_divides : d ∣ common_to cells count
      d_divides = subst (λ n. d ∣ nat_abs n) e0 (h 0 (omega arith))

      rest : ℕ
      rest = common_to cells count / d

      rest_times : rest * d ≡ common_to cells count
      rest_times = div-mul_cancel d d_divides

      positive_left : (x g n : ℕ) → 0 < n → x * g ≡ n → 0 < x
      positive_left zero g n h e = absurd (let k : 0 * g ≡ 0 = omega arith in omega (arith, h, e, k))
      positive_left (suc x) g n h e = omega arith

      rest_pos : 0 < rest
      rest_pos = positive_left rest d (common_to cells count) (common_pos count) rest_times

      d_pos : 0 < d
      d_pos = positive_left d rest (common_to cells count) (common_pos count) (swap d rest ∙ rest_times)

      moved : (n r q d den : ℕ) → r * d ≡ q * den → n * q * den ≡ n * r * d
      moved n r q d den e = let k : n * (r * d) ≡ n * (q * den) = ap (λ z. n * z) e in omega (arith, k)

      each : (k : ℕ) → k < count → (cells k).den ∣ rest
      each k hk =
          gauss (nat_abs (cells k).num) (cells k).den rest (lowest (cells k)) (dvd_of_mul-dvd-mul_right {k = d} (cells k).den d_pos (subst₂ (λ x y. x ∣ y) (swap d (cells k).den) (moved (nat_abs (cells k).num) rest (common_to cells count / (cells k).den) d (cells k).den (rest_times ∙ sym (div-mul_cancel (cells k).den (den_divides count k hk)))) (mul-dvd-mul_right _ (subst (λ n. d ∣ n) (ap nat_abs (e k hk) ∙ unsigned_abs-mul (cells k).num (pos (common_to cells count / (cells k).den))) (h (k + 1) (omega arith))) (cells k).den)))

  pub start_row : (count : ℕ) (x : ℕ → ℤ) → x 0 ≡ pos (common_to cells count) → ((k : ℕ) → k < count → x (k + 1) ≡ (cells k).num *ℤ pos (common_to cells count / (cells k).den)) → ((p : ℕ) → p < count + 1 → PartFits (x p)) → IsStartRow count cells x
  start_row count x e0 e f = record { is_row = record { positive = subst (λ n. pos 0 <ℤ n) (sym e0) (positive_pos (common_to cells count) (common_pos count)); fits = f; lowest = only_one count x e0 e }; same = λ k h. same k h }
    where
      positive_pos : (n : ℕ) → 0 < n → pos 0 <ℤ pos n
      positive_pos n h = omega (arith, ints)

      times_den : (k : ℕ) → k < count → common_to cells count / (cells k).den * (cells k).den ≡ common_to cells count
      times_den k h = div-mul_cancel (cells k).den (den_divides count k h)

      same : (k : ℕ) → k < count → fraction x (k + 1) ≡ cells k
      same k h = ap₂ (λ n d. frac n (nat_abs d)) (e k h) e0 ∙ ap (frac ((cells k).num *ℤ pos (common_to cells count / (cells k).den))) (sym (times_den k h) ∙ swap (common_to cells count / (cells k).den) (cells k).den) ∙ frac-scale (cells k).num (cells k).den (common_to cells count / (cells k).den) (den_pos (cells k)) (quotient_pos (common_to cells count / (cells k).den) (cells k).den (common_to cells count) (common_pos count) (times_den k h)) ∙ frac_self (cells k)
        where
          swap : (a c : ℕ) → a * c ≡ c * a
          swap a c = omega arith

          quotient_pos : (x g d : ℕ) → 0 < d → x * g ≡ d → 0 < x
          quotient_pos zero g d h e = absurd (let k : 0 * g ≡ 0 = omega arith in omega (arith, h, e, k))
          quotient_pos (suc x) g d h e = omega arith

-- ---- the steps
map-next : (f : ℕ → Step) (n : ℕ) → map f (range_with_len 0 (suc n)) ≡ map f (range_with_len 0 n) ++ f n ∷ []
map-next f n = ap (λ m. map f (range_with_len 0 m)) (plus_one n) ∙ map-range_with_len_more f 0 n n (omega arith)

pub denominator_next : (cells : ℕ → ℚ) (k : ℕ) → All StepFits (denominator_steps cells k) → PartFits (pos (common_to cells k) *ℤ pos ((cells k).den / gcd (common_to cells k) (cells k).den)) → All StepFits (denominator_steps cells (k + 1))
denominator_next cells k f h = subst (λ n. All StepFits (denominator_steps cells n)) (plus_one k) (subst (All StepFits) (sym (map-next (denominator_step cells) k)) (fits-more (denominator_steps cells k) (denominator_step cells k) f ((times_fits (pos (common_to cells k)) (pos ((cells k).den / gcd (common_to cells k) (cells k).den))).0 h)))

pub denominator_unfit : (cells : ℕ → ℚ) (k n : ℕ) (e : Unfit) → k < n → All StepFits (denominator_steps cells k) → ¬ (PartFits (pos (common_to cells k) *ℤ pos ((cells k).den / gcd (common_to cells k) (cells k).den))) → e ≡ product_step (pos (common_to cells k)) (pos ((cells k).den / gcd (common_to cells k) (cells k).den)) → IsFirstUnfit (denominator_steps cells n) e
denominator_unfit cells k zero e l f h same = absurd (omega arith)
denominator_unfit cells k (suc n) e l f h same = subst (λ s. IsFirstUnfit s e) (sym (map-next (denominator_step cells) n)) (elim (cases_eq k n) [
  | inl q ↦ subst (λ m. IsFirstUnfit (denominator_steps cells m ++ denominator_step cells m ∷ []) e) q (unfit-more (denominator_steps cells k) (denominator_step cells k) e f (λ g. h ((times_fits _ _).1 g)) same)
  | inr m ↦ first_unfit-more (denominator_steps cells n) _ e (denominator_unfit cells k n e (omega arith) f h same)
])

pub numerator_next : (cells : ℕ → ℚ) (b k : ℕ) → All StepFits (numerator_steps cells b k) → PartFits ((cells k).num *ℤ pos (b / (cells k).den)) → All StepFits (numerator_steps cells b (k + 1))
numerator_next cells b k f h = subst (λ n. All StepFits (numerator_steps cells b n)) (plus_one k) (subst (All StepFits) (sym (map-next (numerator_step cells b) k)) (fits-more (numerator_steps cells b k) (numerator_step cells b k) f ((times_fits (cells k).num (pos (b / (cells k).den))).0 h)))

pub numerator_unfit : (cells : ℕ → ℚ) (b k n : ℕ) (e : Unfit) → k < n → All StepFits (numerator_steps cells b k) → ¬ (PartFits ((cells k).num *ℤ pos (b / (cells k).den))) → e ≡ product_step (cells k).num (pos (b / (cells k).den)) → IsFirstUnfit (numerator_steps cells b n) e
numerator_unfit cells b k zero e l f h same = absurd (omega arith)
numerator_unfit cells b k (suc n) e l f h same = subst (λ s. IsFirstUnfit s e) (sym (map-next (numerator_step cells b) n)) (elim (cases_eq k n) [
  | inl q ↦ subst (λ m. IsFirstUnfit (numerator_steps cells b m ++ numerator_step cells b m ∷ []) e) q (unfit-more (numerator_steps cells b k) (numerator_step cells b k) e f (λ g. h ((times_fits _ _).1 g)) same)
  | inr m ↦ first_unfit-more (numerator_steps cells b n) _ e (numerator_unfit cells b k n e (omega arith) f h same)
])

-- ---- what the code reads
pub added_is : (common den g r : ℤ) → pos 0 <ℤ den → g ≡ pos (gcd (nat_abs common) (nat_abs den)) → r ≡ div_ℤ den (nat_abs g) → r ≡ pos (nat_abs den / gcd (nat_abs common) (nat_abs den))
added_is common (pos d) g r h e f = f ∙ ap (λ z. div_ℤ (pos d) (nat_abs z)) e
added_is common (negsuc d) g r h e f = absurd (omega (arith, ints))

-- the steps of a row: those of its denominator, then those of its numbers
pub start_row_unfit : (cells : ℕ → ℚ) (n : ℕ) (e : Unfit) → All StepFits (denominator_steps cells n) → IsFirstUnfit (numerator_steps cells (common_to cells n) n) e → IsFirstUnfit (start_row_steps n cells) e
start_row_unfit cells n e f h = first_unfit-following (denominator_steps cells n) (numerator_steps cells (common_to cells n) n) e f h

pub cell_read : (cells : List ℚ) (first k : ℕ) (q : ℚ) → first + k < length cells → q ≡ get_or cells (first + k) q → q ≡ cells_from cells first k
cell_read cells first k q h e = e ∙ get_or_default cells (first + k) q zero_ℚ h

pub den_read : (q r : ℚ) (d : ℤ) → d ≡ pos q.den → PartFits (pos q.den) → q ≡ r → to_z w128 (of_z w128 d) ≡ pos r.den
den_read q r d e f s = read_back d (subst PartFits (sym e) f) ∙ e ∙ ap (λ (q : ℚ). pos q.den) s

pub num_read : (q r : ℚ) (n : ℤ) → n ≡ q.num → PartFits q.num → q ≡ r → to_z w128 (of_z w128 n) ≡ r.num
num_read q r n e f s = read_back n (subst PartFits (sym e) f) ∙ e ∙ ap (λ (q : ℚ). q.num) s

pub common_ne : (cells : ℕ → ℚ) (n : ℕ) (b : ℤ) → b ≡ pos (common_to cells n) → b ≢ pos 0
common_ne cells n b e z = let h : 0 < common_to cells n = common_pos cells n in let k : pos (common_to cells n) ≡ pos 0 = sym e ∙ z in omega (arith, ints, h, k)

-- an exact quotient of two natural numbers
pub quotient_is : (q b d : ℤ) (m n : ℕ) → 0 < n → n ∣ m → b ≡ pos m → d ≡ pos n → q *ℤ d ≡ b → q ≡ pos (m / n)
quotient_is q b d m n h v e f same = cancel_pos q (pos (m / n)) n h (ap (λ x. q *ℤ x) (sym f) ∙ same ∙ e ∙ sym (ap pos (div-mul_cancel n v)))

pub divides_read : (cells : ℕ → ℚ) (count k : ℕ) (d b : ℤ) → k < count → d ≡ pos (cells k).den → b ≡ pos (common_to cells count) → nat_abs d ∣ nat_abs b
divides_read cells count k d b h e f = subst₂ (λ x y. nat_abs x ∣ nat_abs y) (sym e) (sym f) (den_divides cells count k h)

-- ---- a place more is written
pub kept_more : (xs ys : List ℤ) (first k : ℕ) (x : ℤ) → ((j : ℕ) → (j < first) ⊎ (first + (k + 1) ≤ j) → get_or xs j (pos 0) ≡ get_or ys j (pos 0)) → (j : ℕ) → (j < first) ⊎ (first + (k + 1 + 1) ≤ j) → get_or (slice_set xs (first + (k + 1)) x) j (pos 0) ≡ get_or ys j (pos 0)
kept_more xs ys first k x h j o = kept_outside xs ys first (k + 1) x h j o

pub lead_more : (xs : List ℤ) (first k : ℕ) (x b : ℤ) → from_place xs first 0 ≡ b → from_place (slice_set xs (first + (k + 1)) x) first 0 ≡ b
lead_more xs first k x b e = get_or-set_other xs (first + (k + 1)) (first + 0) x (pos 0) (omega arith) ∙ e

pub row_more : (cells : ℕ → ℚ) (b : ℕ) (xs : List ℤ) (first k : ℕ) (n : ℤ) → first + (k + 1) < length xs → n ≡ (cells k).num *ℤ pos (b / (cells k).den) → PartFits n → ((j : ℕ) → j < k → (from_place xs first (j + 1) ≡ (cells j).num *ℤ pos (b / (cells j).den)) × PartFits (from_place xs first (j + 1))) → (j : ℕ) → j < k + 1 → (from_place (slice_set xs (first + (k + 1)) (to_z w128 (of_z w128 n))) first (j + 1) ≡ (cells j).num *ℤ pos (b / (cells j).den)) × PartFits (from_place (slice_set xs (first + (k + 1)) (to_z w128 (of_z w128 n))) first (j + 1))
row_more cells b xs first k n l e f h j hj = elim (cases_eq j k) [
  | inl q ↦ subst (λ j. (from_place (slice_set xs (first + (k + 1)) (to_z w128 (of_z w128 n))) first (j + 1) ≡ (cells j).num *ℤ pos (b / (cells j).den)) × PartFits (from_place (slice_set xs (first + (k + 1)) (to_z w128 (of_z w128 n))) first (j + 1))) (sym q) (here ∙ e, subst PartFits (sym here) f)
  | inr m ↦ subst (λ z. (z ≡ (cells j).num *ℤ pos (b / (cells j).den)) × PartFits z) (sym (get_or-set_other xs (first + (k + 1)) (first + (j + 1)) _ (pos 0) (omega arith))) (h j (omega arith))
]
  where
    here : from_place (slice_set xs (first + (k + 1)) (to_z w128 (of_z w128 n))) first (k + 1) ≡ n
    here = get_or-set_same xs (first + (k + 1)) (to_z w128 (of_z w128 n)) (pos 0) l ∙ read_back n f

pub start_read : (cells : ℕ → ℚ) (count k : ℕ) {b : ℤ} (x : ℕ → ℤ) → count ≤ k → x 0 ≡ pos (common_to cells count) → b ≡ pos (common_to cells count) → PartFits b → ((j : ℕ) → j < k → (x (j + 1) ≡ (cells j).num *ℤ pos (common_to cells count / (cells j).den)) × PartFits (x (j + 1))) → IsStartRow count cells x
start_read cells count k x l e0 eb fb h = start_row cells count x e0 (λ j hj. (h j (omega arith)).0) each
  where
    back : (p : ℕ) → p ≢ 0 → p - 1 + 1 ≡ p
    back p m = omega arith

    each : (p : ℕ) → p < count + 1 → PartFits (x p)
    each p hp = elim (cases_eq p 0) [
      | inl q ↦ subst (λ p. PartFits (x p)) (sym q) (subst PartFits (eb ∙ sym e0) fb)
      | inr m ↦ subst (λ p. PartFits (x p)) (back p m) (h (p - 1) (omega arith)).1
    ]

pub start_row_fits : {E : Type 0} (cells : ℕ → ℚ) (n : ℕ) (o : Result (Unit {0}) E) → All StepFits (denominator_steps cells n) → OnOk o (All StepFits (numerator_steps cells (common_to cells n) n)) → OnOk o (All StepFits (start_row_steps n cells))
start_row_fits cells n (Ok x) f g = All-append StepFits (denominator_steps cells n) (numerator_steps cells (common_to cells n) n) f g
start_row_fits cells n (Err e) f g = g

pub start_rest_unfit : (cells : ℕ → ℚ) (n : ℕ) (o : Result (Unit {0}) Unfit) → All StepFits (denominator_steps cells n) → IfErr o (IsFirstUnfit (numerator_steps cells (common_to cells n) n)) → IfErr o (IsFirstUnfit (start_row_steps n cells))
start_rest_unfit cells n (Ok x) f g = g
start_rest_unfit cells n (Err e) f g = start_row_unfit cells n e f g

-- a row whose numbers are the same
pub start_same : (count : ℕ) (cells : ℕ → ℚ) (x y : ℕ → ℤ) → ((p : ℕ) → p < count + 1 → y p ≡ x p) → IsStartRow count cells x → IsStartRow count cells y
start_same count cells x y e r = record { is_row = row_same (count + 1) x y (omega arith) e r.is_row; same = λ k h. ap₂ (λ n d. frac n (nat_abs d)) (e (k + 1) (omega arith)) (e 0 (omega arith)) ∙ r.same k h }
