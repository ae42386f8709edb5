-- The rows and columns of a side's matrix.
use Rattle.std.proofs.Common.{ℕ, zero, suc, ◌+◌, ◌<◌, ◌≡◌, Bool, true, false, pos, [], ◌∷◌, refl, sym, ap, ap₂, ◌∙◌, subst, arith, tests}
use Rattle.std.specs.Prelude.{nat_lt, if◌then◌else◌}
use Rattle.std.proofs.lemmas.Int.{ints}
use Rattle.rational.specs.Rational.{ℚ, ◌+ℚ◌, ◌-ℚ◌, ◌*ℚ◌, ◌≤ℚ◌, zero_ℚ}
use Rattle.rational.specs.Sum.{sum_to}
use Rattle.rational.proofs.RationalRing.{rational_ring}
use Rattle.rational.proofs.Rules.{zero-*ℚ}
use Rattle.rational.proofs.Field.{eq-sub, le-sub, le_antisymm}
use Rattle.rational.proofs.Linear.{linear, at, lit, ◌⟨+⟩◌, ◌⟨-⟩◌, ◌⟨≤⟩◌, ◌⟨=⟩◌}
use Rattle.rational.proofs.SumLemmas.{sum_to-first, sum_to-same, sum_to-sub, sum_to-single, sum_to-scale, sum_to-zeros}
use Rattle.rational.proofs.Ring.{ring, num, ◌:+◌, ◌:*◌, ◌:-◌, A, B, C}
use Rattle.game_theory.specs.Mixed.{sure}
use Rattle.game_theory.proofs.SureStrategyLemmas.{sure-other}
use Rattle.sequence_forms.specs.Sides.{Side, first_after, first, sequences, place_to, place, IsSide, IsRealisationPlan}
use Rattle.sequence_forms.specs.Forms.{row_sum, column_sum}
use Rattle.sequence_forms.specs.Prices.{prices_after, net_price, gains, costs}
use Rattle.sequence_forms.specs.Matrices.{before_row, set_row, right_side, row_total, column_total, AreNotNegative, SolvesRows}
use Rattle.sequence_forms.specs.PriceLaws.{PlansSolveTheRows, ColumnsAreNetPrices, SolutionsAreComplementary, ProgramsAreValueProofs}
use Rattle.sequence_forms.proofs.PriceLemmas.{price_if}
use Rattle.sequence_forms.proofs.SideLemmas.{place-empty, place-set, sum_to-sets}

-- a difference times a number, over a sum
sum_of_differences : (n : ℕ) (u v x : ℕ → ℚ) → sum_to n (λ q. (u q -ℚ v q) *ℚ x q) ≡ sum_to n (λ q. u q *ℚ x q) -ℚ sum_to n (λ q. v q *ℚ x q)
sum_of_differences n u v x =
    sum_to-same n _ (λ q. (u q *ℚ x q) -ℚ (v q *ℚ x q)) (λ q l. ring rational_ring (u q ∷ v q ∷ x q ∷ []) ((A :- B) :* C) (A :* C :- B :* C) refl) ∙ sum_to-sub n (λ q. u q *ℚ x q) (λ q. v q *ℚ x q)

-- ---- rows
-- what belongs to the whole game is the empty sequence
whole_row : (d : Side) (x : ℕ → ℚ) → sum_to (sequences d) (λ q. sure (place d q) 0 *ℚ x q) ≡ x 0
whole_row d x =
    sum_to-sets d.count d.sets (λ q. sure (place d q) 0 *ℚ x q)
    ∙ ap₂ (λ u v. u +ℚ v) (ap (λ k. sure k 0 *ℚ x 0) (place-empty d.count d.sets)) (sum_to-zeros d.sets _ (λ j h. sum_to-zeros (d.count j) _ (λ a l. ap (λ k. sure k 0 *ℚ x (first d j + a)) (place-set d.count d.sets j a h l) ∙ ap (λ u. u *ℚ x (first d j + a)) (sure-other (suc j) 0 (omega arith)) ∙ zero-*ℚ (x (first d j + a)))))
    ∙ ring rational_ring (x 0 ∷ []) (num 1 :* A :+ num 0) A refl

-- two numbers and their successors
sure-suc : (i j : ℕ) → sure (suc i) (suc j) ≡ sure j i
sure-suc i j = grind (arith, tests)

-- what belongs to a set are its actions' sequences
set_part : (d : Side) (x : ℕ → ℚ) (j : ℕ) → j < d.sets → sum_to (sequences d) (λ q. sure (place d q) (suc j) *ℚ x q) ≡ sum_to (d.count j) (λ a. x (first d j + a))
set_part d x j h =
    sum_to-sets d.count d.sets (λ q. sure (place d q) (suc j) *ℚ x q)
    ∙ ap₂ (λ u v. u +ℚ v) (ap (λ k. sure k (suc j) *ℚ x 0) (place-empty d.count d.sets) ∙ ap (λ u. u *ℚ x 0) (sure-other 0 (suc j) (omega arith))) (sum_to-same d.sets _ (λ i. sure j i *ℚ sum_to (d.count i) (λ a. x (first d i + a))) (λ i g. sum_to-same (d.count i) _ (λ a. sure j i *ℚ x (first d i + a)) (λ a l. ap (λ u. u *ℚ x (first d i + a)) (ap (λ k. sure k (suc j)) (place-set d.count d.sets i a g l) ∙ sure-suc i j)) ∙ sum_to-scale (d.count i) (sure j i) (λ a. x (first d i + a))) ∙ sum_to-single d.sets j (λ i. sum_to (d.count i) (λ a. x (first d i + a))) h)
    ∙ ring rational_ring (x 0 ∷ sum_to (d.count j) (λ a. x (first d j + a)) ∷ []) (num 0 :* A :+ B) B refl

-- the row of the whole game
pub row-whole : (d : Side) (x : ℕ → ℚ) → row_total d x 0 ≡ x 0
row-whole d x =
    sum_of_differences (sequences d) (λ q. sure (place d q) 0) (before_row d 0) x
    ∙ ap₂ (λ u v. u -ℚ v) (whole_row d x) (sum_to-zeros (sequences d) _ (λ q l. zero-*ℚ (x q))) ∙ ring rational_ring (x 0 ∷ []) (A :- num 0) A refl

-- the row of a set
pub row-set : (d : Side) (x : ℕ → ℚ) (j : ℕ) → IsSide d → j < d.sets → row_total d x (suc j) ≡ sum_to (d.count j) (λ a. x (first d j + a)) -ℚ x (d.before j)
row-set d x j s h =
    sum_of_differences (sequences d) (λ q. sure (place d q) (suc j)) (before_row d (suc j)) x
    ∙ ap₂ (λ u v. u -ℚ v) (set_part d x j h) (sum_to-single (sequences d) (d.before j) x (s j h))

-- plans solve the rows, and what solves them is a plan
pub plans_solve : PlansSolveTheRows
plans_solve d x s = (to, from)
  where
    to : IsRealisationPlan d x → SolvesRows d x
    to p = record { not_negative = p.not_negative; rows = rows }
      where
        rows : (k : ℕ) → k < suc d.sets → row_total d x k ≡ right_side k
        rows zero h = row-whole d x ∙ p.empty_is_one
        rows (suc j) h = row-set d x j s (omega arith) ∙ (eq-sub (sum_to (d.count j) (λ a. x (first d j + a))) (x (d.before j))).0 (p.splits j (omega arith))

    from : SolvesRows d x → IsRealisationPlan d x
    from r = record {
      not_negative = r.not_negative;
      empty_is_one = sym (row-whole d x) ∙ r.rows 0 (omega arith);
      splits = λ j h. (eq-sub (sum_to (d.count j) (λ a. x (first d j + a))) (x (d.before j))).1 (sym (row-set d x j s h) ∙ r.rows (suc j) (omega arith));
    }

-- ---- columns
-- a sequence belongs to one of the sets or to the whole game
pub place-within : (count : ℕ → ℕ) (n q : ℕ) → place_to count n q < suc n
place-within count zero q = omega arith
place-within count (suc n) q = go (nat_lt q (first_after count n)) (place-within count n q)
  where
    go : (b : Bool) → place_to count n q < suc n → (if b then place_to count n q else suc n) < suc (suc n)
    go true h = omega arith
    go false h = omega arith

-- a column is a net price
pub columns_net : ColumnsAreNetPrices
columns_net d prices q l =
    sum_of_differences (suc d.sets) (λ k. sure (place d q) k) (λ k. before_row d k q) prices
    ∙ ap₂ (λ u v. u -ℚ v) (sum_to-single (suc d.sets) (place d q) prices (place-within d.count d.sets q)) (sum_to-first d.sets (λ k. before_row d k q *ℚ prices k) ∙ ap₂ (λ u v. u +ℚ v) (zero-*ℚ (prices 0)) (sum_to-same d.sets _ _ (λ j h. sym (price_if _ (prices (suc j))))) ∙ ring rational_ring (prices_after d prices q ∷ []) (num 0 :+ A) A refl)

-- the net prices of differences
net_difference : (d : Side) (P P' : ℕ → ℚ) (q : ℕ) → q < sequences d → net_price d (λ k. P k -ℚ P' k) q ≡ column_total d P q -ℚ column_total d P' q
net_difference d P P' q l =
    sym (columns_net d (λ k. P k -ℚ P' k) q l)
    ∙ sum_to-same (suc d.sets) _ (λ k. (set_row d k q *ℚ P k) -ℚ (set_row d k q *ℚ P' k)) (λ k h. ring rational_ring (set_row d k q ∷ P k ∷ P' k ∷ []) (A :* (B :- C)) (A :* B :- A :* C) refl)
    ∙ sum_to-sub (suc d.sets) (λ k. set_row d k q *ℚ P k) (λ k. set_row d k q *ℚ P' k)

-- two rows that leave nothing over and lack nothing
both_rows : (d : Side) (x : ℕ → ℚ) → AreNotNegative (sequences d) x → AreNotNegative (suc d.sets) (λ k. row_total d x k -ℚ right_side k) → AreNotNegative (suc d.sets) (λ k. right_side k -ℚ row_total d x k) → SolvesRows d x
both_rows d x n u v = record { not_negative = n; rows = λ k h. le_antisymm (row_total d x k) (right_side k) ((le-sub (row_total d x k) (right_side k)).1 (v k h)) ((le-sub (right_side k) (row_total d x k)).1 (u k h)) }

-- a slack says that a cost is at least the net price
slack_above : (cost P P' net : ℚ) → net ≡ P -ℚ P' → zero_ℚ ≤ℚ (cost -ℚ P) +ℚ P' → net ≤ℚ cost
slack_above cost P P' net e h = linear (cost ∷ P ∷ P' ∷ net ∷ []) ((at 3 ⟨=⟩ (at 1 ⟨-⟩ at 2)) ∷ (lit (pos 0) ⟨≤⟩ ((at 0 ⟨-⟩ at 1) ⟨+⟩ at 2)) ∷ []) (at 3 ⟨≤⟩ at 0) (λ one z u v. omega (arith, ints)) (e, (h, tt))

-- and how much it lies above
slack-is : (cost P P' net : ℚ) → net ≡ P -ℚ P' → cost -ℚ net ≡ (cost -ℚ P) +ℚ P'
slack-is cost P P' net e = ap (λ u. cost -ℚ u) e ∙ ring rational_ring (cost ∷ P ∷ P' ∷ []) (A :- (B :- C)) (A :- B :+ C) refl

-- solutions are complementary
pub solutions_complementary : SolutionsAreComplementary
solutions_complementary f g k x y P P' Q Q' rows columns s =
    record {
      row_plan = (plans_solve f.rows x rows).1 (both_rows f.rows x s.x_sign s.rows_enough s.rows_not_more);
      column_plan = (plans_solve f.columns y columns).1 (both_rows f.columns y s.y_sign s.columns_enough s.columns_not_more);
      row_costs = λ r l. slack_above (row_sum f (costs f 0 g) y r) _ _ _ (net_difference f.rows P P' r l) (s.row_slacks r l);
      column_costs = λ q l. slack_above (column_sum f (costs f 1 k) x q) _ _ _ (net_difference f.columns Q Q' q l) (s.column_slacks q l);
      rows_meet = λ r l. ap (λ u. x r *ℚ u) (slack-is (row_sum f (costs f 0 g) y r) _ _ _ (net_difference f.rows P P' r l)) ∙ s.rows_meet r l;
      columns_meet = λ q l. ap (λ u. y q *ℚ u) (slack-is (column_sum f (costs f 1 k) x q) _ _ _ (net_difference f.columns Q Q' q l)) ∙ s.columns_meet q l;
    }

-- a solved program proves the value
pub programs_prove : ProgramsAreValueProofs
programs_prove f least x y P Q v rows columns s =
    record {
      row_plan = (plans_solve f.rows x rows).1 s.x_rows;
      column_plan = (plans_solve f.columns y columns).1 s.y_rows;
      row_prices = s.P_sign;
      column_prices = s.Q_sign;
      same_first = s.same_first;
      value_is = s.value_is;
      row_gains = λ r l. subst (λ u. row_sum f (gains f least) y r ≤ℚ u) (columns_net f.rows P r l) (s.row_gains r l);
      column_gains = λ q l. subst (λ u. u ≤ℚ column_sum f (gains f least) x q) (columns_net f.columns Q q l) (s.column_gains q l);
    }
