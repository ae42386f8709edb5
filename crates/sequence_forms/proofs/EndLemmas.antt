-- The ends of the linear program and of the complementarity problem, on trees and on tables.
use Rattle.std.proofs.Common.{ℕ, ◌<◌, ◌≡◌, Bool, true, false, Option, Some, None, [], ◌∷◌, refl, sym, ap, ◌∙◌, subst}
use Rattle.std.specs.Prelude.{◌==◌, ◌&&◌, if◌then◌else◌, slice_index}
use Rattle.rational.specs.Rational.{ℚ, ◌+ℚ◌, ◌*ℚ◌, ◌≤ℚ◌, zero_ℚ}
use Rattle.rational.proofs.RationalRing.{rational_ring}
use Rattle.rational.proofs.SumLemmas.{sum_to-same, sum_to-add, sum_to-scale}
use Rattle.rational.proofs.Ring.{ring, num, ◌:+◌, ◌:*◌, A, B, C}
use Rattle.sequence_forms.specs.Alike.{FormsAlike}
use Rattle.sequence_forms.specs.Sides.{IsSide}
use Rattle.sequence_forms.specs.Matrices.{SolvesProblem}
use Rattle.sequence_forms.specs.Prices.{HasConstantSum, IsValueProof}
use Rattle.sequence_forms.proofs.AlikeFormLemmas.{alike_back, same_plans, same_best_plans}
use Rattle.sequence_forms.specs.PlanBehaviour.{chosen_plan}
use Rattle.sequence_forms.specs.Forms.{SequenceForm, AreBestPlans, row_sum, at_leaf, row, column, chance_of_path, payoff_of_path, form_of, form_of_table, WeighsOne, AreOptimal}
use Rattle.sequence_forms.specs.PriceLaws.{LeavesSumInCells, PricesBoundReplies, ValueProofsHoldOnTrees, SolutionsAreEquilibria}
use Rattle.sequence_forms.specs.TableLaws.{ValueProofsHoldOnTables, SolutionsAreTableEquilibria}
use Rattle.sequence_forms.proofs.ChoiceLemmas.{chosen_is_plan}
use Rattle.sequence_forms.proofs.GatheredSumLemmas.{cell_sum-columns}
use Rattle.sequence_forms.proofs.MatrixLemmas.{solutions_complementary}
use Rattle.sequence_forms.proofs.PriceLemmas.{gain_below, prices_prove, complementary_best}
use Rattle.sequence_forms.proofs.SequenceLemmas.{side_of-is}
use Rattle.sequence_forms.proofs.TableLemmas.{tables_have_forms, table_plans_pay, best_plans_are_table_equilibria, sure_plan, sure_is_plan, first_replies_pay, second_replies_pay}
use Rattle.sequence_forms.proofs.TreeLaws.{plans_pay_cells, trees_weigh_one, replies_pay, best_plans_are_equilibria}

-- ---- trees
-- prices bound pure replies
pub prices_bound : PricesBoundReplies
prices_bound t x y prices choice h px py =
    let paid = λ (j : ℕ). replies_pay t x y choice j h px py in
    record {
      of_first = λ g c. subst (λ u. u ≤ℚ prices 0) (sym ((paid 0).of_first c)) (gain_below (form_of t).rows prices (row_sum (form_of t) ((form_of t).pays 0) y) (chosen_plan t 0 choice) (side_of-is t 0 h.is_tree) (chosen_is_plan t 0 choice h.is_tree h.first_recalls c) g);
      of_second = λ g c. subst (λ u. u ≤ℚ prices 0) (sym ((paid 1).of_second c ∙ cell_sum-columns (form_of t) ((form_of t).pays 1) x (chosen_plan t 1 choice))) (gain_below (form_of t).columns prices _ (chosen_plan t 1 choice) (side_of-is t 1 h.is_tree) (chosen_is_plan t 1 choice h.is_tree h.second_recalls c) g);
    }

-- one leaf's payoffs in its cell
leaf_sum : (o : Option ℕ) (b : Bool) (chance u v c : ℚ) → (o ≡ None → u +ℚ v ≡ c)
    → at_leaf o (if b then chance *ℚ u else zero_ℚ) +ℚ at_leaf o (if b then chance *ℚ v else zero_ℚ) ≡ c *ℚ at_leaf o (if b then chance else zero_ℚ)
leaf_sum None true chance u v c h = ring rational_ring (chance ∷ u ∷ v ∷ []) (A :* B :+ A :* C) ((B :+ C) :* A) refl ∙ ap (λ z. z *ℚ chance) (h refl)
leaf_sum None false chance u v c h = ring rational_ring (c ∷ []) (num 0 :+ num 0) (A :* num 0) refl
leaf_sum (Some s) b chance u v c h = ring rational_ring (c ∷ []) (num 0 :+ num 0) (A :* num 0) refl

-- a constant sum of the leaves is one of the cells
pub leaves_sum : LeavesSumInCells
leaves_sum t c h r q l m =
    sym (sum_to-add t.size _ _)
    ∙ sum_to-same t.size _ _ (λ k n. leaf_sum (t.set k) (r == row t k && q == column t k) (chance_of_path t k) (payoff_of_path t 0 k) (payoff_of_path t 1 k) c (h k n))
    ∙ sum_to-scale t.size c _

-- what a form that is like the tree's has of it
record TakenOver (f : SequenceForm) : Type 0 where
  pub rows : IsSide f.rows
  pub columns : IsSide f.columns
  pub weigh_one : WeighsOne f

taken_over : (f g : SequenceForm) → FormsAlike f g → IsSide g.rows → IsSide g.columns → WeighsOne g → TakenOver f
taken_over f g a rows columns one =
    let back = alike_back f g a in
    record {
      rows = (same_plans g.rows f.rows back.rows).side rows;
      columns = (same_plans g.columns f.columns back.columns).side columns;
      weigh_one = (same_best_plans g f back).weigh_one one;
    }

-- the end of the linear program, over forms that are alike
value_taken_over : (f g : SequenceForm) (least c : ℚ) (x y P Q : ℕ → ℚ) (v : ℚ) → FormsAlike f g → IsSide g.rows → IsSide g.columns → WeighsOne g → HasConstantSum g c → IsValueProof f least x y P Q v → AreOptimal g x y v
value_taken_over f g least c x y P Q v a rows columns one s p =
    let o = taken_over f g a rows columns one in
    (same_best_plans f g a).value x y v (prices_prove f least c x y P Q v o.rows o.columns o.weigh_one ((same_best_plans g f (alike_back f g a)).constant_sum c s) p)

-- and of the complementarity problem
best_taken_over : (f g : SequenceForm) (j k : ℚ) (x y P P' Q Q' : ℕ → ℚ) → FormsAlike f g → IsSide g.rows → IsSide g.columns → WeighsOne g → SolvesProblem f j k x y P P' Q Q' → AreBestPlans g x y
best_taken_over f g j k x y P P' Q Q' a rows columns one s =
    let o = taken_over f g a rows columns one in
    (same_best_plans f g a).best x y (complementary_best f j k x y _ _ o.rows o.columns o.weigh_one (solutions_complementary f j k x y P P' Q Q' o.rows o.columns s))

-- the end of the linear program
pub values_on_trees : ValueProofsHoldOnTrees
values_on_trees t f least c x y P Q v h a s p =
    let proved : AreOptimal (form_of t) x y v = value_taken_over f (form_of t) least c x y P Q v a (side_of-is t 0 h.is_tree) (side_of-is t 1 h.is_tree) (trees_weigh_one t h) (leaves_sum t c s) p in
    let best = proved.best in
    record {
      equilibrium = best_plans_are_equilibria t x y h best;
      value = plans_pay_cells t x y 0 h best.row_plan best.column_plan ∙ proved.value;
      first_gets = λ choice c. subst (λ u. v ≤ℚ u) (sym ((replies_pay t x y choice 0 h best.row_plan best.column_plan).of_second c)) (proved.row_gets (chosen_plan t 1 choice) (chosen_is_plan t 1 choice h.is_tree h.second_recalls c));
      second_leaves = λ choice c. subst (λ u. u ≤ℚ v) (sym ((replies_pay t x y choice 0 h best.row_plan best.column_plan).of_first c)) (proved.column_leaves (chosen_plan t 0 choice) (chosen_is_plan t 0 choice h.is_tree h.first_recalls c));
    }

-- the end of the complementarity problem
pub solutions_on_trees : SolutionsAreEquilibria
solutions_on_trees t f j k x y P P' Q Q' h a s =
    best_plans_are_equilibria t x y h (best_taken_over f (form_of t) j k x y P P' Q Q' a (side_of-is t 0 h.is_tree) (side_of-is t 1 h.is_tree) (trees_weigh_one t h) s)

-- ---- tables
-- the end of the linear program
pub values_on_tables : ValueProofsHoldOnTables
values_on_tables g m n f least c x y P Q v e a s p =
    let form = tables_have_forms g m n in
    let proved : AreOptimal (form_of_table g m n) x y v = value_taken_over f (form_of_table g m n) least c x y P Q v a form.rows form.columns form.weigh_one s p in
    record {
      equilibrium = best_plans_are_table_equilibria g m n x y e proved.best;
      value = table_plans_pay g m n x y 0 e ∙ proved.value;
      first_gets = λ s l. subst (λ u. v ≤ℚ u) (sym (second_replies_pay g m n x y s 0 e)) (proved.row_gets (sure_plan s) (sure_is_plan n s (subst (λ ns. s < slice_index ns 1) e l)));
      second_leaves = λ s l. subst (λ u. u ≤ℚ v) (sym (first_replies_pay g m n x y s 0 e)) (proved.column_leaves (sure_plan s) (sure_is_plan m s (subst (λ ns. s < slice_index ns 0) e l)));
    }

-- the end of the complementarity problem
pub solutions_on_tables : SolutionsAreTableEquilibria
solutions_on_tables g m n f j k x y P P' Q Q' e a s =
    let form = tables_have_forms g m n in
    best_plans_are_table_equilibria g m n x y e (best_taken_over f (form_of_table g m n) j k x y P P' Q Q' a form.rows form.columns form.weigh_one s)
