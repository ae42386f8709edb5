-- What the objective row says at the end of the path.
use Rattle.std.proofs.Common.{ℕ, suc, pos, ◌<◌, ◌≤◌, ◌≡◌, ◌+◌, refl, sym, ap, ap₂, ◌∙◌, subst, [], ◌∷◌, arith, inl, inr}
use Rattle.std.proofs.lemmas.Int.{ints}
use Rattle.std.proofs.lemmas.Bool.{cases_eq, cases_lt}
use Rattle.rational.specs.Rational.{ℚ, ◌+ℚ◌, ◌*ℚ◌, ◌-ℚ◌, neg_ℚ, zero_ℚ, one_ℚ, ◌≤ℚ◌, ◌<ℚ◌}
use Rattle.rational.specs.Sum.{sum_to}
use Rattle.linear_systems.specs.Tableau.{Tableau, left}
use Rattle.rational.proofs.RationalRing.{rational_ring}
use Rattle.rational.proofs.Ring.{◌times◌is◌, combine, ring, num, ◌:+◌, ◌:*◌, ◌:-◌, :neg}
use Rattle.rational.proofs.Ring as R
use Rattle.rational.proofs.Linear.{linear, at, lit, ◌⟨+⟩◌, ◌⟨-⟩◌, ◌⟨≤⟩◌, ◌⟨=⟩◌}
use Rattle.rational.proofs.Field.{nonneg-mul, le_of_eq, le_of_lt}
use Rattle.rational.proofs.SumLemmas.{sum_to-same, sum_to-neg, sum_to-zeros, sum_to-nonneg, sum_to-append}
use Rattle.rational.proofs.Rules.{times_zero}
use Rattle.linear_systems.specs.Lex.{IsLexPositive}
use Rattle.linear_systems.specs.Rows.{unit_at, basic_solution, coefficient, key, row}
use Rattle.linear_systems.specs.RowEquivalence.{IsRowEquivalent, IsStart}
use Rattle.linear_systems.proofs.LastRowLemmas.{last_row}
use Rattle.linear_systems.proofs.SolutionLemmas.{solution_basic, solution_solves}
use Rattle.linear_systems.proofs.RowLemmas.{unit_other, unit_nonneg, coefficient_row, coefficient_cell, left_zero}
use Rattle.zero_sum_lp.proofs.ObjectiveGrowthLemmas.{IsLexicographicallyFeasible}
use Rattle.zero_sum_lp.proofs.ProgramLemmas.{IsProgram, program_one, program_two, program_goal}
use Rattle.zero_sum_lp.proofs.RayLemmas.{solves_start}
use Rattle.zero_sum_lp.proofs.UnitLemmas.{sum_unit}

-- at the end of the path no entry of the objective row is negative
pub record IsEnd (N m : ℕ) (s t : Tableau) : Type 0 where
  pub on_path : IsLexicographicallyFeasible N m s t
  pub none : (j : ℕ) → j < t.width → zero_ℚ ≤ℚ t.cell m j

-- with no negative entry it has no negative coefficient
pub coef_nonneg : (t : Tableau) (l v : ℕ) → ((j : ℕ) → j < t.width → zero_ℚ ≤ℚ t.cell l j) → zero_ℚ ≤ℚ coefficient t l v
unfolding left
coef_nonneg t l v h =
    linear (unit_at v (t.basic l) ∷ sum_to t.width (λ j. t.cell l j *ℚ unit_at v (t.nonbasic j)) ∷ []) ((lit (pos 0) ⟨≤⟩ at 0) ∷ (lit (pos 0) ⟨≤⟩ at 1) ∷ []) (lit (pos 0) ⟨≤⟩ (at 0 ⟨+⟩ at 1)) (λ one z p h. omega (arith, ints)) (unit_nonneg v (t.basic l), (sum_to-nonneg t.width _ (λ j hj. nonneg-mul (t.cell l j) (unit_at v (t.nonbasic j)) (h j hj) (unit_nonneg v (t.nonbasic j))), tt))

-- column j of the start, weighed by the last row
pub dual_column : (N m : ℕ) (s t : Tableau) (l j : ℕ) → IsStart N m s → m ≤ l → l < s.rows → IsRowEquivalent N m s t → ((j : ℕ) → j < t.width → zero_ℚ ≤ℚ t.cell l j) → j < s.width → zero_ℚ ≤ℚ (s.cell l j +ℚ sum_to m (λ q. coefficient t l (s.basic q) *ℚ s.cell q j))
dual_column N m s t l j st ml hl p h hj =
    let rated : m ≤ s.rows = st.rated in
    let cell : (i : ℕ) → i < s.rows → row s (unit_at (s.nonbasic j)) zero_ℚ i ≡ s.cell i j = λ i hi. coefficient_row s i (s.nonbasic j) ∙ coefficient_cell s i j st.proper hi hj in
    subst (λ u. zero_ℚ ≤ℚ u) (sym (coefficient_row t l (s.nonbasic j)) ∙ last_row N m s t l (unit_at (s.nonbasic j)) zero_ℚ st ml hl p ∙ ap₂ (λ a b. a +ℚ b) (cell l hl) (sum_to-same m _ _ (λ q hq. ap (λ u. coefficient t l (s.basic q) *ℚ u) (cell q (omega arith))))) (coef_nonneg t l (s.nonbasic j) h)

pub dual_right : (N m : ℕ) (s t : Tableau) (l : ℕ) → IsStart N m s → m ≤ l → l < s.rows → IsRowEquivalent N m s t → t.right l ≡ s.right l +ℚ sum_to m (λ q. coefficient t l (s.basic q) *ℚ s.right q)
dual_right N m s t l st ml hl p =
    let right : (u : Tableau) (i : ℕ) → row u (λ v. zero_ℚ) one_ℚ i ≡ u.right i = λ u i. ap (λ x. x +ℚ (one_ℚ *ℚ u.right i)) (left_zero u i) ∙ ring rational_ring (u.right i ∷ []) (num 0 :+ num 1 :* R.A) R.A refl in
    sym (right t l) ∙ last_row N m s t l (λ v. zero_ℚ) one_ℚ st ml hl p ∙ ap₂ (λ a b. a +ℚ b) (right s l) (sum_to-same m _ _ (λ q hq. ap (λ u. coefficient t l (s.basic q) *ℚ u) (right s q)))

-- ---- the basic solution
pub value_solves : (N m : ℕ) (s t : Tableau) (k : ℕ) → IsStart N m s → IsRowEquivalent N m s t → k < s.rows → left s (basic_solution t) k ≡ s.right k
value_solves N m s t k st p hk =
    combine rational_ring (left s (basic_solution t) k ∷ s.right k ∷ []) ((num 1 times R.A :+ :neg (num 1) :* R.B is num 0) ∷ []) R.A R.B refl (solves_start N m s t (basic_solution t) (neg_ℚ one_ℚ) st p (λ i hi. ap (λ u. u +ℚ (neg_ℚ one_ℚ *ℚ t.right i)) (solution_solves t p.proper i hi) ∙ ring rational_ring (t.right i ∷ []) (R.A :+ :neg (num 1) :* R.A) (num 0) refl) k hk, tt)

pub value_nonneg : (N m : ℕ) (s t : Tableau) (v : ℕ) → IsStart N m s → IsLexicographicallyFeasible N m s t → ((i : ℕ) → m ≤ i → i < s.rows → v ≡ s.basic i → ⊥) → zero_ℚ ≤ℚ basic_solution t v
value_nonneg N m s t v st p away = sum_to-nonneg t.rows _ part
  where
    at_first : (f : ℕ → ℚ) → IsLexPositive (suc m) f → zero_ℚ ≤ℚ f 0
    at_first f q =
        elim (cases_eq q.place 0) [
          | inl e ↦ le_of_lt zero_ℚ (f 0) (subst (λ k. zero_ℚ <ℚ f k) e q.above)
          | inr ne ↦ le_of_eq zero_ℚ (f 0) (sym (q.before 0 (omega arith)))
        ]

    part : (i : ℕ) → i < t.rows → zero_ℚ ≤ℚ (t.right i *ℚ unit_at v (t.basic i))
    part i hi =
        let rows : t.rows ≡ s.rows = p.reached.rows in
        elim (cases_lt i m) [
          | inl l ↦ nonneg-mul (t.right i) (unit_at v (t.basic i)) (at_first (key s.basic t i) (p.keys i l)) (unit_nonneg v (t.basic i))
          | inr l ↦ le_of_eq zero_ℚ _ (sym (times_zero (t.right i) _ (unit_other v (t.basic i) (λ e. away i l (omega arith) (sym e ∙ p.reached.stays i l (omega arith))))))
        ]

-- ---- prices and raw weights
minus_sum : (n : ℕ) (f g : ℕ → ℚ) → sum_to n (λ i. f i *ℚ neg_ℚ (g i)) ≡ neg_ℚ (sum_to n (λ i. f i *ℚ g i))
minus_sum n f g = sum_to-same n _ (λ i. neg_ℚ (f i *ℚ g i)) (λ i h. ring rational_ring (f i ∷ g i ∷ []) (R.A :* :neg R.B) (:neg (R.A :* R.B)) refl) ∙ sum_to-neg n (λ i. f i *ℚ g i)

pub turned : (n : ℕ) (f g : ℕ → ℚ) → sum_to n (λ i. f i *ℚ g i) ≡ sum_to n (λ i. g i *ℚ f i)
turned n f g = sum_to-same n _ _ (λ i h. ring rational_ring (f i ∷ g i ∷ []) (R.A :* R.B) (R.B :* R.A) refl)

module _ (h X k Y : ℕ) (E F A : ℕ → ℕ → ℚ) (N : ℕ) (s t : Tableau) where
  -- the prices of the first player and the raw weights of the second are the last row's coefficients of the slacks
  abbrev pub slack_price : ℕ → ℚ
  slack_price i = coefficient t (h + Y) (s.basic i)

  abbrev pub slack_weight : ℕ → ℚ
  slack_weight i = coefficient t (h + Y) (s.basic (h + i))

  -- the prices of the second player and the raw weights of the first are the values of q and x
  abbrev pub price_value : ℕ → ℚ
  price_value j = basic_solution t (s.nonbasic (X + j))

  abbrev pub weight_value : ℕ → ℚ
  weight_value j = basic_solution t (s.nonbasic j)

  module _ (p : IsProgram h X k Y E F A s) (st : IsStart N (h + Y) s) (o : IsEnd N (h + Y) s t) where
    pub column_one : (j : ℕ) → j < X → sum_to Y (λ i. slack_weight i *ℚ A j i) ≤ℚ sum_to h (λ i. slack_price i *ℚ E i j)
    column_one j hj =
        let w : s.rows ≡ suc (h + Y) = p.rows in
        let v : s.width ≡ X + k = p.width in
        linear (sum_to h (λ i. slack_price i *ℚ E i j) ∷ sum_to Y (λ i. slack_weight i *ℚ A j i) ∷ []) ((lit (pos 0) ⟨≤⟩ (at 0 ⟨-⟩ at 1)) ∷ []) (at 1 ⟨≤⟩ at 0) (λ one z u v. omega (arith, ints))
        (subst (λ u. zero_ℚ ≤ℚ u) (ap₂ (λ a b. a +ℚ b) (p.goal j hj) (sum_to-append h Y (λ q. coefficient t (h + Y) (s.basic q) *ℚ s.cell q j) ∙ ap₂ (λ a b. a +ℚ b) (sum_to-same h _ (λ i. slack_price i *ℚ E i j) (λ i hi. ap (λ u. slack_price i *ℚ u) (p.one i j hi hj))) (sum_to-same Y _ (λ i. slack_weight i *ℚ neg_ℚ (A j i)) (λ i hi. ap (λ u. slack_weight i *ℚ u) (p.two i j hi hj)) ∙ minus_sum Y slack_weight (λ i. A j i))) ∙ ring rational_ring (sum_to h (λ i. slack_price i *ℚ E i j) ∷ sum_to Y (λ i. slack_weight i *ℚ A j i) ∷ []) (num 0 :+ (R.A :+ :neg R.B)) (R.A :- R.B) refl) (dual_column N (h + Y) s t (h + Y) j st (omega arith) (omega arith) o.on_path.reached o.none (omega arith)), tt)

    pub column_two : (j : ℕ) → j < k → unit_at 0 j ≤ℚ sum_to Y (λ i. slack_weight i *ℚ F j i)
    column_two j hj =
        let w : s.rows ≡ suc (h + Y) = p.rows in
        let v : s.width ≡ X + k = p.width in
        linear (unit_at 0 j ∷ sum_to Y (λ i. slack_weight i *ℚ F j i) ∷ []) ((lit (pos 0) ⟨≤⟩ (at 1 ⟨-⟩ at 0)) ∷ []) (at 0 ⟨≤⟩ at 1) (λ one z u v. omega (arith, ints))
        (subst (λ u. zero_ℚ ≤ℚ u) (ap₂ (λ a b. a +ℚ b) (p.goal_rest j hj) (sum_to-append h Y (λ q. coefficient t (h + Y) (s.basic q) *ℚ s.cell q (X + j)) ∙ ap₂ (λ a b. a +ℚ b) (sum_to-zeros h _ (λ i hi. times_zero (slack_price i) _ (p.one_rest i j hi hj))) (sum_to-same Y _ (λ i. slack_weight i *ℚ F j i) (λ i hi. ap (λ u. slack_weight i *ℚ u) (p.two_rest i j hi hj)))) ∙ ring rational_ring (unit_at 0 j ∷ sum_to Y (λ i. slack_weight i *ℚ F j i) ∷ []) (:neg R.A :+ (num 0 :+ R.B)) (R.B :- R.A) refl) (dual_column N (h + Y) s t (h + Y) (X + j) st (omega arith) (omega arith) o.on_path.reached o.none (omega arith)), tt)

    -- the last row's right side is the first price
    last_right : 0 < h → t.right (h + Y) ≡ slack_price 0
    last_right hh =
        let w : s.rows ≡ suc (h + Y) = p.rows in
        dual_right N (h + Y) s t (h + Y) st (omega arith) (omega arith) o.on_path.reached
        ∙ ap₂ (λ a b. a +ℚ b) (p.right_rest (h + Y) (omega arith) (omega arith)) (sum_to-append h Y (λ q. coefficient t (h + Y) (s.basic q) *ℚ s.right q) ∙ ap₂ (λ a b. a +ℚ b) (sum_to-same h _ (λ i. slack_price i *ℚ unit_at 0 i) (λ i hi. ap (λ u. slack_price i *ℚ u) (p.right i hi)) ∙ sum_unit h slack_price 0 hh) (sum_to-zeros Y _ (λ i hi. times_zero (slack_weight i) _ (p.right_rest (h + i) (omega arith) (omega arith)))))
        ∙ ring rational_ring (slack_price 0 ∷ []) (num 0 :+ (R.A :+ num 0)) R.A refl

    pub nonneg_column : (j : ℕ) → j < X + k → zero_ℚ ≤ℚ basic_solution t (s.nonbasic j)
    nonneg_column j hj = value_nonneg N (h + Y) s t (s.nonbasic j) st o.on_path (λ i mi hi e. st.proper.apart i j hi (let v : s.width ≡ X + k = p.width in omega arith) (sym e))

    nonneg_slack : (i : ℕ) → i < h + Y → zero_ℚ ≤ℚ basic_solution t (s.basic i)
    nonneg_slack i hi =
        let w : s.rows ≡ suc (h + Y) = p.rows in
        value_nonneg N (h + Y) s t (s.basic i) st o.on_path (λ l ml hl e. let same : i ≡ l = st.proper.basic_once i l (omega arith) hl e in absurd (omega arith))

    pub row_one : (i : ℕ) → i < h → sum_to X (λ j. weight_value j *ℚ E i j) ≤ℚ unit_at 0 i
    row_one i hi =
        let w : s.rows ≡ suc (h + Y) = p.rows in
        linear (basic_solution t (s.basic i) ∷ sum_to X (λ j. weight_value j *ℚ E i j) ∷ unit_at 0 i ∷ []) ((lit (pos 0) ⟨≤⟩ at 0) ∷ ((at 0 ⟨+⟩ at 1) ⟨=⟩ at 2) ∷ []) (at 1 ⟨≤⟩ at 2) (λ one z u v. omega (arith, ints)) (nonneg_slack i (omega arith), (ap (λ u. basic_solution t (s.basic i) +ℚ u) (turned X weight_value (E i)) ∙ sym (program_one h X k Y E F A s (basic_solution t) i p hi) ∙ value_solves N (h + Y) s t i st o.on_path.reached (omega arith) ∙ p.right i hi, tt))

    pub row_two : (i : ℕ) → i < Y → sum_to k (λ j. price_value j *ℚ F j i) ≤ℚ sum_to X (λ j. weight_value j *ℚ A j i)
    row_two i hi =
        let w : s.rows ≡ suc (h + Y) = p.rows in
        linear (basic_solution t (s.basic (h + i)) ∷ sum_to k (λ j. price_value j *ℚ F j i) ∷ sum_to X (λ j. weight_value j *ℚ A j i) ∷ []) ((lit (pos 0) ⟨≤⟩ at 0) ∷ ((at 0 ⟨+⟩ (at 1 ⟨-⟩ at 2)) ⟨=⟩ lit (pos 0)) ∷ []) (at 1 ⟨≤⟩ at 2) (λ one z u v. omega (arith, ints)) (nonneg_slack (h + i) (omega arith), (ap₂ (λ a b. basic_solution t (s.basic (h + i)) +ℚ (a -ℚ b)) (turned k price_value (λ j. F j i)) (turned X weight_value (λ j. A j i)) ∙ sym (program_two h X k Y E F A s (basic_solution t) i p hi) ∙ value_solves N (h + Y) s t (h + i) st o.on_path.reached (omega arith) ∙ p.right_rest (h + i) (omega arith) (omega arith), tt))

    -- the value of the last row's variable is its right side, and q of row 0
    pub firsts : 0 < h → 0 < k → slack_price 0 ≡ price_value 0
    firsts hh hk =
        let w : s.rows ≡ suc (h + Y) = p.rows in
        let same_rows : t.rows ≡ s.rows = o.on_path.reached.rows in
        let own : basic_solution t (s.basic (h + Y)) ≡ t.right (h + Y) = ap (basic_solution t) (sym (o.on_path.reached.stays (h + Y) (omega arith) (omega arith))) ∙ solution_basic t (h + Y) o.on_path.reached.proper (omega arith) in
        combine rational_ring (basic_solution t (s.basic (h + Y)) ∷ price_value 0 ∷ t.right (h + Y) ∷ slack_price 0 ∷ []) ((num 1 times R.A :- R.B is num 0) ∷ (:neg (num 1) times R.A is R.C) ∷ (:neg (num 1) times R.C is R.D) ∷ []) R.D R.B refl (sym (program_goal h X k Y E F A s (basic_solution t) p hk) ∙ value_solves N (h + Y) s t (h + Y) st o.on_path.reached (omega arith) ∙ p.right_rest (h + Y) (omega arith) (omega arith), (own, (last_right hh, tt)))
