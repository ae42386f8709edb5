-- a solution of the problem, block by block
use Rattle.std.proofs.Common.{ℕ, ◌<◌, ◌≡◌, ◌+◌, [], ◌∷◌, refl, sym, ap, ap₂, ◌∙◌, subst, arith}
use Rattle.rational.specs.Rational.{ℚ, ◌+ℚ◌, ◌*ℚ◌, ◌-ℚ◌, neg_ℚ, zero_ℚ, ◌≤ℚ◌}
use Rattle.rational.proofs.RationalRing.{rational_ring}
use Rattle.rational.proofs.Ring.{ring, num, ◌:+◌, ◌:*◌, ◌:-◌, :neg, A, B, C}
use Rattle.sequence_forms.specs.Forms.{SequenceForm}
use Rattle.sequence_forms.specs.Prices.{costs}
use Rattle.sequence_forms.specs.Matrices.{SolvesProblem, row_slack, column_slack}
use Rattle.lemke_pivot.specs.Vectors.{image, zeros}
use Rattle.lemke_pivot.proofs.VectorLemmas.{transpose, dot_comm}
use Rattle.lemke_pivot.specs.Problems.{Costs, costs_of, size, at_y, at_p, at_p', at_q, at_q', matrix, right_sides, IsSolution}
use Rattle.lemke_pivot.specs.ProblemLaws.{SolutionsHavePlans}
use Rattle.lemke_pivot.proofs.ProblemBlockLemmas.{six_x, six_y, six_p, six_p', six_q, six_q', row-x, row-y, row-p, row-p', row-q, row-q'}

module _ (s : Costs) (w z : ℕ → ℚ) (c : IsSolution (size s) (matrix s) (right_sides s) w z) where
  w_at_x : (i : ℕ) → i < s.X → w i ≡ (image s.Y s.one (at_y s z) i -ℚ image s.h (transpose s.E) (at_p s z) i) +ℚ image s.h (transpose s.E) (at_p' s z) i
  unfolding right_sides
  w_at_x i h =
      c.rows i (omega arith) ∙ ap₂ (λ a b. a +ℚ b) (six_x s zeros zeros (λ r. neg_ℚ (s.e r)) s.e (λ r. neg_ℚ (s.f r)) s.f i h) (row-x s z i h) ∙ ring rational_ring (image s.Y s.one (at_y s z) i ∷ image s.h (transpose s.E) (at_p s z) i ∷ image s.h (transpose s.E) (at_p' s z) i ∷ []) (num 0 :+ (A :- B :+ C)) (A :- B :+ C) refl

  w_at_y : (i : ℕ) → i < s.Y → at_y s w i ≡ (image s.X (transpose s.two) z i -ℚ image s.k (transpose s.F) (at_q s z) i) +ℚ image s.k (transpose s.F) (at_q' s z) i
  unfolding right_sides
  w_at_y i h =
      c.rows (s.X + i) (omega arith) ∙ ap₂ (λ a b. a +ℚ b) (six_y s zeros zeros (λ r. neg_ℚ (s.e r)) s.e (λ r. neg_ℚ (s.f r)) s.f i h) (row-y s z i h) ∙ ring rational_ring (image s.X (transpose s.two) z i ∷ image s.k (transpose s.F) (at_q s z) i ∷ image s.k (transpose s.F) (at_q' s z) i ∷ []) (num 0 :+ (A :- B :+ C)) (A :- B :+ C) refl

  w_at_p : (r : ℕ) → r < s.h → at_p s w r ≡ image s.X s.E z r -ℚ s.e r
  unfolding right_sides
  w_at_p r h = c.rows (s.X + (s.Y + r)) (omega arith) ∙ ap₂ (λ a b. a +ℚ b) (six_p s zeros zeros (λ r. neg_ℚ (s.e r)) s.e (λ r. neg_ℚ (s.f r)) s.f r h) (row-p s z r h) ∙ ring rational_ring (s.e r ∷ image s.X s.E z r ∷ []) (:neg A :+ B) (B :- A) refl

  w_at_p' : (r : ℕ) → r < s.h → at_p' s w r ≡ s.e r -ℚ image s.X s.E z r
  unfolding right_sides
  w_at_p' r h = c.rows (s.X + (s.Y + (s.h + r))) (omega arith) ∙ ap₂ (λ a b. a +ℚ b) (six_p' s zeros zeros (λ r. neg_ℚ (s.e r)) s.e (λ r. neg_ℚ (s.f r)) s.f r h) (row-p' s z r h) ∙ ring rational_ring (s.e r ∷ image s.X s.E z r ∷ []) (A :+ :neg B) (A :- B) refl

  w_at_q : (r : ℕ) → r < s.k → at_q s w r ≡ image s.Y s.F (at_y s z) r -ℚ s.f r
  unfolding right_sides
  w_at_q r h = c.rows (s.X + (s.Y + (s.h + (s.h + r)))) (omega arith) ∙ ap₂ (λ a b. a +ℚ b) (six_q s zeros zeros (λ r. neg_ℚ (s.e r)) s.e (λ r. neg_ℚ (s.f r)) s.f r h) (row-q s z r h) ∙ ring rational_ring (s.f r ∷ image s.Y s.F (at_y s z) r ∷ []) (:neg A :+ B) (B :- A) refl

  w_at_q' : (r : ℕ) → r < s.k → at_q' s w r ≡ s.f r -ℚ image s.Y s.F (at_y s z) r
  unfolding right_sides
  w_at_q' r h = c.rows (s.X + (s.Y + (s.h + (s.h + (s.k + r))))) (omega arith) ∙ ap₂ (λ a b. a +ℚ b) (six_q' s zeros zeros (λ r. neg_ℚ (s.e r)) s.e (λ r. neg_ℚ (s.f r)) s.f r h) (row-q' s z r h) ∙ ring rational_ring (s.f r ∷ image s.Y s.F (at_y s z) r ∷ []) (A :+ :neg B) (A :- B) refl

turned : (a b c : ℚ) → a *ℚ b ≡ zero_ℚ → a ≡ c → b *ℚ c ≡ zero_ℚ
turned a b c e f = ap (λ x. b *ℚ x) (sym f) ∙ ring rational_ring (a ∷ b ∷ []) (B :* A) (A :* B) refl ∙ e

module _ (f : SequenceForm) (greatest_one greatest_two : ℚ) (w z : ℕ → ℚ) where
  abbrev s : Costs
  s = costs_of f.rows f.columns (costs f 0 greatest_one) (costs f 1 greatest_two)

  module _ (c : IsSolution (size s) (matrix s) (right_sides s) w z) where
    at_row : (i : ℕ) → i < s.X → w i ≡ row_slack f greatest_one (at_y s z) (at_p s z) (at_p' s z) i
    at_row i h = w_at_x s w z c i h ∙ ap (λ a. (a -ℚ image s.h (transpose s.E) (at_p s z) i) +ℚ image s.h (transpose s.E) (at_p' s z) i) (dot_comm s.Y (s.one i) (at_y s z))

    at_column : (i : ℕ) → i < s.Y → at_y s w i ≡ column_slack f greatest_two z (at_q s z) (at_q' s z) i
    at_column i h = w_at_y s w z c i h ∙ ap (λ a. (a -ℚ image s.k (transpose s.F) (at_q s z) i) +ℚ image s.k (transpose s.F) (at_q' s z) i) (dot_comm s.X (transpose s.two i) z)

    solved : SolvesProblem f greatest_one greatest_two z (at_y s z) (at_p s z) (at_p' s z) (at_q s z) (at_q' s z)
    solved =
        record {
          x_sign = λ i h. c.z_sign i (omega arith);
          y_sign = λ i h. c.z_sign (s.X + i) (omega arith);
          P_sign = λ i h. c.z_sign (s.X + (s.Y + i)) (omega arith);
          P'_sign = λ i h. c.z_sign (s.X + (s.Y + (s.h + i))) (omega arith);
          Q_sign = λ i h. c.z_sign (s.X + (s.Y + (s.h + (s.h + i)))) (omega arith);
          Q'_sign = λ i h. c.z_sign (s.X + (s.Y + (s.h + (s.h + (s.k + i))))) (omega arith);
          row_slacks = λ i h. subst (λ a. zero_ℚ ≤ℚ a) (at_row i h) (c.w_sign i (omega arith));
          column_slacks = λ i h. subst (λ a. zero_ℚ ≤ℚ a) (at_column i h) (c.w_sign (s.X + i) (omega arith));
          rows_enough = λ i h. subst (λ a. zero_ℚ ≤ℚ a) (w_at_p s w z c i h) (c.w_sign (s.X + (s.Y + i)) (omega arith));
          rows_not_more = λ i h. subst (λ a. zero_ℚ ≤ℚ a) (w_at_p' s w z c i h) (c.w_sign (s.X + (s.Y + (s.h + i))) (omega arith));
          columns_enough = λ i h. subst (λ a. zero_ℚ ≤ℚ a) (w_at_q s w z c i h) (c.w_sign (s.X + (s.Y + (s.h + (s.h + i)))) (omega arith));
          columns_not_more = λ i h. subst (λ a. zero_ℚ ≤ℚ a) (w_at_q' s w z c i h) (c.w_sign (s.X + (s.Y + (s.h + (s.h + (s.k + i))))) (omega arith));
          rows_meet = λ i h. turned (w i) (z i) _ (c.meets i (omega arith)) (at_row i h);
          columns_meet = λ i h. turned (w (s.X + i)) (z (s.X + i)) _ (c.meets (s.X + i) (omega arith)) (at_column i h);
        }

pub solutions_have_plans : SolutionsHavePlans
solutions_have_plans f greatest_one greatest_two w z c = solved f greatest_one greatest_two w z c
