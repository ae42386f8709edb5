-- The start of the linear program of two players' plans, row by row.
use Rattle.std.proofs.Common.{ℕ, zero, suc, ◌<◌, ◌≤◌, ◌≡◌, ◌+◌, ◌-◌, ◌⊎◌, inl, inr, Bool, true, false, Decides, refl, sym, ap, ap₂, ◌∙◌, subst, [], ◌∷◌, arith}
use Rattle.std.specs.Prelude.{nat_lt, if◌then◌else◌}
use Rattle.std.proofs.lemmas.Bool.{cases_lt}
use Rattle.std.proofs.lemmas.Bool.Decides.{Decides-ltb}
use Rattle.rational.specs.Rational.{ℚ, ◌+ℚ◌, ◌*ℚ◌, ◌-ℚ◌, neg_ℚ, zero_ℚ, one_ℚ, ◌≤ℚ◌}
use Rattle.rational.specs.Sum.{sum_to}
use Rattle.rational.proofs.RationalRing.{rational_ring}
use Rattle.rational.proofs.Field.{le_of_eq}
use Rattle.rational.proofs.SumLemmas.{sum_to-same, sum_to-scale, sum_to-append, sum_to-zeros}
use Rattle.rational.proofs.Ring.{ring, num, ◌:+◌, ◌:*◌, ◌:-◌, :neg}
use Rattle.rational.proofs.Ring as R
use Rattle.rational.proofs.Rules.{zero_times}
use Rattle.linear_systems.specs.Tableau.{Tableau, left}
use Rattle.linear_systems.specs.Rows.{unit_at, HasDistinctVariables}
use Rattle.linear_systems.specs.RowEquivalence.{IsStart}
use Rattle.linear_systems.proofs.AgreementLemmas.{alike_distinct}
use Rattle.linear_systems.proofs.RowLemmas.{unit_self, unit_other, unit_nonneg}
use Rattle.sequence_forms.specs.Sides.{Side, sequences}
use Rattle.sequence_forms.specs.Matrices.{set_row, right_side}
use Rattle.zero_sum_lp.specs.Paths.{LinearProgram}
use Rattle.zero_sum_lp.specs.Programs.{constraints, program_of, IsProgramOf}
use Rattle.zero_sum_lp.proofs.UnitLemmas.{sum_unit}

-- s is the start tableau for: make q of row 0 greatest, where E x <= e, F' q - A' x <= 0 and x, q >= 0
pub record IsProgram (h X k Y : ℕ) (E F A : ℕ → ℕ → ℚ) (s : Tableau) : Type 0 where
  pub rows : s.rows ≡ suc (h + Y)
  pub width : s.width ≡ X + k
  pub one : (i j : ℕ) → i < h → j < X → s.cell i j ≡ E i j
  pub one_rest : (i j : ℕ) → i < h → j < k → s.cell i (X + j) ≡ zero_ℚ
  pub two : (i j : ℕ) → i < Y → j < X → s.cell (h + i) j ≡ neg_ℚ (A j i)
  pub two_rest : (i j : ℕ) → i < Y → j < k → s.cell (h + i) (X + j) ≡ F j i
  pub goal : (j : ℕ) → j < X → s.cell (h + Y) j ≡ zero_ℚ
  pub goal_rest : (j : ℕ) → j < k → s.cell (h + Y) (X + j) ≡ neg_ℚ (unit_at 0 j)
  pub right : (i : ℕ) → i < h → s.right i ≡ unit_at 0 i
  pub right_rest : (i : ℕ) → h ≤ i → i < suc (h + Y) → s.right i ≡ zero_ℚ

-- ---- its rows at any values
left_parts : (X k : ℕ) (s : Tableau) (x : ℕ → ℚ) (i : ℕ) → s.width ≡ X + k → left s x i ≡ x (s.basic i) +ℚ (sum_to X (λ j. s.cell i j *ℚ x (s.nonbasic j)) +ℚ sum_to k (λ j. s.cell i (X + j) *ℚ x (s.nonbasic (X + j))))
unfolding left
left_parts X k s x i e =
    ap (λ b. x (s.basic i) +ℚ b) (ap (λ n. sum_to n (λ j. s.cell i j *ℚ x (s.nonbasic j))) e ∙ sum_to-append X k (λ j. s.cell i j *ℚ x (s.nonbasic j)))

pub program_one : (h X k Y : ℕ) (E F A : ℕ → ℕ → ℚ) (s : Tableau) (x : ℕ → ℚ) (i : ℕ) → IsProgram h X k Y E F A s → i < h → left s x i ≡ x (s.basic i) +ℚ sum_to X (λ j. E i j *ℚ x (s.nonbasic j))
program_one h X k Y E F A s x i p hi =
    left_parts X k s x i p.width
    ∙ ap₂ (λ a b. x (s.basic i) +ℚ (a +ℚ b)) (sum_to-same X _ (λ j. E i j *ℚ x (s.nonbasic j)) (λ j hj. ap (λ u. u *ℚ x (s.nonbasic j)) (p.one i j hi hj))) (sum_to-zeros k _ (λ j hj. zero_times _ (x (s.nonbasic (X + j))) (p.one_rest i j hi hj)))
    ∙ ring rational_ring (x (s.basic i) ∷ sum_to X (λ j. E i j *ℚ x (s.nonbasic j)) ∷ []) (R.A :+ (R.B :+ num 0)) (R.A :+ R.B) refl

pub program_two : (h X k Y : ℕ) (E F A : ℕ → ℕ → ℚ) (s : Tableau) (x : ℕ → ℚ) (i : ℕ) → IsProgram h X k Y E F A s → i < Y → left s x (h + i) ≡ x (s.basic (h + i)) +ℚ (sum_to k (λ j. F j i *ℚ x (s.nonbasic (X + j))) -ℚ sum_to X (λ j. A j i *ℚ x (s.nonbasic j)))
program_two h X k Y E F A s x i p hi =
    left_parts X k s x (h + i) p.width
    ∙ ap₂ (λ a b. x (s.basic (h + i)) +ℚ (a +ℚ b)) (sum_to-same X _ (λ j. neg_ℚ one_ℚ *ℚ (A j i *ℚ x (s.nonbasic j))) (λ j hj. ap (λ u. u *ℚ x (s.nonbasic j)) (p.two i j hi hj) ∙ ring rational_ring (A j i ∷ x (s.nonbasic j) ∷ []) (:neg (R.A) :* R.B) (:neg (num 1) :* (R.A :* R.B)) refl) ∙ sum_to-scale X (neg_ℚ one_ℚ) (λ j. A j i *ℚ x (s.nonbasic j))) (sum_to-same k _ (λ j. F j i *ℚ x (s.nonbasic (X + j))) (λ j hj. ap (λ u. u *ℚ x (s.nonbasic (X + j))) (p.two_rest i j hi hj)))
    ∙ ring rational_ring (x (s.basic (h + i)) ∷ sum_to X (λ j. A j i *ℚ x (s.nonbasic j)) ∷ sum_to k (λ j. F j i *ℚ x (s.nonbasic (X + j))) ∷ []) (R.A :+ (:neg (num 1) :* R.B :+ R.C)) (R.A :+ (R.C :- R.B)) refl

pub program_goal : (h X k Y : ℕ) (E F A : ℕ → ℕ → ℚ) (s : Tableau) (x : ℕ → ℚ) → IsProgram h X k Y E F A s → 0 < k → left s x (h + Y) ≡ x (s.basic (h + Y)) -ℚ x (s.nonbasic (X + 0))
program_goal h X k Y E F A s x p hk =
    left_parts X k s x (h + Y) p.width
    ∙ ap₂ (λ a b. x (s.basic (h + Y)) +ℚ (a +ℚ b)) (sum_to-zeros X _ (λ j hj. zero_times _ (x (s.nonbasic j)) (p.goal j hj))) (sum_to-same k _ (λ j. neg_ℚ one_ℚ *ℚ (x (s.nonbasic (X + j)) *ℚ unit_at 0 j)) (λ j hj. ap (λ u. u *ℚ x (s.nonbasic (X + j))) (p.goal_rest j hj) ∙ ring rational_ring (unit_at 0 j ∷ x (s.nonbasic (X + j)) ∷ []) (:neg (R.A) :* R.B) (:neg (num 1) :* (R.B :* R.A)) refl) ∙ sum_to-scale k (neg_ℚ one_ℚ) (λ j. x (s.nonbasic (X + j)) *ℚ unit_at 0 j) ∙ ap (λ u. neg_ℚ one_ℚ *ℚ u) (sum_unit k (λ j. x (s.nonbasic (X + j))) 0 hk))
    ∙ ring rational_ring (x (s.basic (h + Y)) ∷ x (s.nonbasic (X + 0)) ∷ []) (R.A :+ (num 0 :+ :neg (num 1) :* R.B)) (R.A :- R.B) refl

-- ---- the start is such a tableau
when : {X : Type 0} (i n : ℕ) (x y : X) → i < n → (if nat_lt i n then x else y) ≡ x
when i n x y h = go (nat_lt i n) ((Decides-ltb i n).1 h)
  where
    go : (b : Bool) → b ≡ true → (if b then x else y) ≡ x
    go true e = refl
    go false e = cc

unless : {X : Type 0} (i n : ℕ) (x y : X) → n ≤ i → (if nat_lt i n then x else y) ≡ y
unless i n x y h = go (nat_lt i n) (Decides-ltb i n)
  where
    go : (b : Bool) → Decides b (i < n) → (if b then x else y) ≡ y
    go true d = absurd (omega (arith, d.0 refl))
    go false d = refl

right_unit : (i : ℕ) → right_side i ≡ unit_at 0 i
right_unit zero = sym (unit_self 0)
right_unit (suc i) = sym (unit_other 0 (suc i) (omega arith))

module _ (rows columns : Side) (gain : ℕ → ℕ → ℚ) where
  row_one : (i j : ℕ) → i < suc rows.sets → (program_of rows columns gain).cell i j ≡ (if nat_lt j (sequences rows) then set_row rows i j else zero_ℚ)
  row_one i j hi = when i (suc rows.sets) _ _ hi

  row_two : (i j : ℕ) → i < sequences columns → (program_of rows columns gain).cell (suc rows.sets + i) j ≡ (if nat_lt j (sequences rows) then neg_ℚ (gain j i) else set_row columns (j - sequences rows) i)
  row_two i j hi =
      unless (suc rows.sets + i) (suc rows.sets) _ _ (omega arith) ∙ when (suc rows.sets + i) (constraints rows columns) _ _ (omega arith) ∙ ap (λ n. if nat_lt j (sequences rows) then neg_ℚ (gain j n) else set_row columns (j - sequences rows) n) (less (suc rows.sets) i)
    where
      less : (h i : ℕ) → h + i - h ≡ i
      less h i = omega arith

  row_last : (j : ℕ) → (program_of rows columns gain).cell (constraints rows columns) j ≡ (if nat_lt j (sequences rows) then zero_ℚ else neg_ℚ (right_side (j - sequences rows)))
  row_last j = unless (constraints rows columns) (suc rows.sets) _ _ (omega arith) ∙ unless (constraints rows columns) (constraints rows columns) _ _ (omega arith)

  past : (j : ℕ) → sequences rows + j - sequences rows ≡ j
  past j = omega arith

  start_is : IsProgram (suc rows.sets) (sequences rows) (suc columns.sets) (sequences columns) (set_row rows) (set_row columns) gain (program_of rows columns gain)
  start_is =
      record {
        rows = refl;
        width = refl;
        one = λ i j hi hj. row_one i j hi ∙ when j (sequences rows) _ _ hj;
        one_rest = λ i j hi hj. row_one i (sequences rows + j) hi ∙ unless (sequences rows + j) (sequences rows) _ _ (omega arith);
        two = λ i j hi hj. row_two i j hi ∙ when j (sequences rows) _ _ hj;
        two_rest = λ i j hi hj. row_two i (sequences rows + j) hi ∙ unless (sequences rows + j) (sequences rows) _ _ (omega arith) ∙ ap (λ n. set_row columns n i) (past j);
        goal = λ j hj. row_last j ∙ when j (sequences rows) _ _ hj;
        goal_rest = λ j hj. row_last (sequences rows + j) ∙ unless (sequences rows + j) (sequences rows) _ _ (omega arith) ∙ ap (λ n. neg_ℚ (right_side n)) (past j) ∙ ap neg_ℚ (right_unit j);
        right = λ i hi. when i (suc rows.sets) _ _ hi ∙ right_unit i;
        right_rest = λ i hi hr. unless i (suc rows.sets) _ _ hi;
      }

  -- the basic variables, by cases
  pub basic_is : (i : ℕ) → i < constraints rows columns → (program_of rows columns gain).basic i ≡ suc i
  basic_is i h = when i (constraints rows columns) _ _ h

  pub basic_last : (i : ℕ) → constraints rows columns ≤ i → (program_of rows columns gain).basic i ≡ suc (constraints rows columns + (sequences rows + suc columns.sets))
  basic_last i h = unless i (constraints rows columns) _ _ h

  basic_cases : (i : ℕ) → i < suc (constraints rows columns) → ((i < constraints rows columns) × ((program_of rows columns gain).basic i ≡ suc i)) ⊎ ((i ≡ constraints rows columns) × ((program_of rows columns gain).basic i ≡ suc (constraints rows columns + (sequences rows + suc columns.sets))))
  basic_cases i hi =
      elim (cases_lt i (constraints rows columns)) [
        | inl l ↦ inl (l, basic_is i l)
        | inr l ↦ inr (omega arith, basic_last i l)
      ]

  pub distinct : HasDistinctVariables (program_of rows columns gain)
  distinct =
      record {
        basic_once = λ i l hi hl e. once (constraints rows columns) (sequences rows + suc columns.sets) i l _ _ e (basic_cases i hi) (basic_cases l hl);
        nonbasic_once = λ i l hi hl e. omega arith;
        apart = λ i j hi hj e. differ (constraints rows columns) (sequences rows + suc columns.sets) i j _ hj e (basic_cases i hi);
      }
    where
      once : (m w i l p q : ℕ) → p ≡ q → ((i < m) × (p ≡ suc i)) ⊎ ((i ≡ m) × (p ≡ suc (m + w))) → ((l < m) × (q ≡ suc l)) ⊎ ((l ≡ m) × (q ≡ suc (m + w))) → i ≡ l
      once m w i l p q e (inl a) (inl b) = omega (arith, a.1, b.1)
      once m w i l p q e (inl a) (inr b) = absurd (omega (arith, a.0, a.1, b.1))
      once m w i l p q e (inr a) (inl b) = absurd (omega (arith, b.0, a.1, b.1))
      once m w i l p q e (inr a) (inr b) = a.0 ∙ sym b.0

      differ : (m w i j p : ℕ) → j < w → p ≡ suc (m + j) → ((i < m) × (p ≡ suc i)) ⊎ ((i ≡ m) × (p ≡ suc (m + w))) → ⊥
      differ m w i j p hj e (inl a) = omega (arith, a.0, a.1)
      differ m w i j p hj e (inr a) = omega (arith, a.1)

  basic_small : (i : ℕ) → i < suc (constraints rows columns) → (program_of rows columns gain).basic i ≤ suc (constraints rows columns + (sequences rows + suc columns.sets))
  basic_small i hi = go (basic_cases i hi)
    where
      go : ((i < constraints rows columns) × ((program_of rows columns gain).basic i ≡ suc i)) ⊎ ((i ≡ constraints rows columns) × ((program_of rows columns gain).basic i ≡ suc (constraints rows columns + (sequences rows + suc columns.sets)))) → (program_of rows columns gain).basic i ≤ suc (constraints rows columns + (sequences rows + suc columns.sets))
      go (inl a) = subst (λ n. n ≤ suc (constraints rows columns + (sequences rows + suc columns.sets))) (sym a.1) (let l = a.0 in omega arith)
      go (inr a) = subst (λ n. n ≤ suc (constraints rows columns + (sequences rows + suc columns.sets))) (sym a.1) (omega arith)

-- ---- and so is what is alike
module _ (rows columns : Side) (gain : ℕ → ℕ → ℚ) (g : LinearProgram) (p : IsProgramOf rows columns gain g) where
  pub is_program : IsProgram (suc rows.sets) (sequences rows) (suc columns.sets) (sequences columns) (set_row rows) (set_row columns) gain g.start
  is_program =
      let b = start_is rows columns gain in
      let a = p.start in
      record {
        rows = sym a.rows;
        width = sym a.width;
        one = λ i j hi hj. sym (a.cell i j (omega arith) (omega arith)) ∙ b.one i j hi hj;
        one_rest = λ i j hi hj. sym (a.cell i (sequences rows + j) (omega arith) (omega arith)) ∙ b.one_rest i j hi hj;
        two = λ i j hi hj. sym (a.cell (suc rows.sets + i) j (omega arith) (omega arith)) ∙ b.two i j hi hj;
        two_rest = λ i j hi hj. sym (a.cell (suc rows.sets + i) (sequences rows + j) (omega arith) (omega arith)) ∙ b.two_rest i j hi hj;
        goal = λ j hj. sym (a.cell (constraints rows columns) j (omega arith) (omega arith)) ∙ b.goal j hj;
        goal_rest = λ j hj. sym (a.cell (constraints rows columns) (sequences rows + j) (omega arith) (omega arith)) ∙ b.goal_rest j hj;
        right = λ i hi. sym (a.right i (omega arith)) ∙ b.right i hi;
        right_rest = λ i hi hr. sym (a.right i hr) ∙ b.right_rest i hi hr;
      }

  pub is_start : IsStart g.bound (constraints rows columns) g.start
  is_start =
      let r : suc (constraints rows columns) ≡ g.start.rows = p.start.rows in
      let w : sequences rows + suc columns.sets ≡ g.start.width = p.start.width in
      let b : g.start.rows + g.start.width < g.bound = p.bound in
      record {
        rated = omega arith;
        proper = alike_distinct (program_of rows columns gain) g.start p.start (distinct rows columns gain);
        basic_below = λ i hi. basic i (basic_small rows columns gain i (omega arith)) (p.start.basic i (omega arith));
        nonbasic_below = λ j hj. nonbasic j (omega arith) (p.start.nonbasic j (omega arith));
      }
    where
      basic : (i : ℕ) → (program_of rows columns gain).basic i ≤ suc (constraints rows columns + (sequences rows + suc columns.sets)) → (program_of rows columns gain).basic i ≡ g.start.basic i → g.start.basic i < g.bound
      basic i l e =
          let r : suc (constraints rows columns) ≡ g.start.rows = p.start.rows in
          let w : sequences rows + suc columns.sets ≡ g.start.width = p.start.width in
          let b : g.start.rows + g.start.width < g.bound = p.bound in
          bounded (constraints rows columns) (sequences rows + suc columns.sets) _ _ _ (g.start.rows) (g.start.width) l e r w b
        where
          bounded : (m w v u n r y : ℕ) → v ≤ suc (m + w) → v ≡ u → suc m ≡ r → w ≡ y → r + y < n → u < n
          bounded m w v u n r y l e f h b = omega arith

      nonbasic : (j : ℕ) → j < sequences rows + suc columns.sets → suc (constraints rows columns + j) ≡ g.start.nonbasic j → g.start.nonbasic j < g.bound
      nonbasic j l e =
          let r : suc (constraints rows columns) ≡ g.start.rows = p.start.rows in
          let w : sequences rows + suc columns.sets ≡ g.start.width = p.start.width in
          let b : g.start.rows + g.start.width < g.bound = p.bound in
          bounded (constraints rows columns) (sequences rows + suc columns.sets) j _ _ (g.start.rows) (g.start.width) l e r w b
        where
          bounded : (m w j u n r y : ℕ) → j < w → suc (m + j) ≡ u → suc m ≡ r → w ≡ y → r + y < n → u < n
          bounded m w j u n r y l e f h b = omega arith

  pub right_nonneg : (i : ℕ) → i < constraints rows columns → zero_ℚ ≤ℚ g.start.right i
  right_nonneg i h =
      elim (cases_lt i (suc rows.sets)) [
        | inl l ↦ subst (λ u. zero_ℚ ≤ℚ u) (sym (is_program.right i l)) (unit_nonneg 0 i)
        | inr l ↦ le_of_eq zero_ℚ (g.start.right i) (sym (is_program.right_rest i l (omega arith)))
      ]
