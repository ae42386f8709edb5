-- Sides and forms that are the same within their bounds.
use Rattle.std.proofs.Common.{ℕ, zero, suc, ◌+◌, ◌<◌, ◌≤◌, ◌≡◌, refl, sym, ap, ap₂, ◌∙◌, subst, subst₂, arith}
use Rattle.rational.specs.Rational.{ℚ, ◌+ℚ◌, ◌*ℚ◌, ◌≤ℚ◌}
use Rattle.rational.specs.Sum.{sum_to}
use Rattle.sequence_forms.specs.Alike.{SidesAlike, FormsAlike}
use Rattle.sequence_forms.specs.Sides.{Side, first_after, first, sequences, IsRealisationPlan}
use Rattle.sequence_forms.specs.Forms.{SequenceForm, cell_sum, AreBestPlans}
use Rattle.sequence_forms.specs.ListLaws.{AlikeSidesHaveSamePlans, AlikeFormsHaveSameBestPlans, AlikeIsMutual}
use Rattle.sequence_forms.proofs.GatheredSumLemmas.{cell_sum-same}

-- the first sequences are the same where the counts are
first_after-same : (count other : ℕ → ℕ) (n : ℕ) → ((j : ℕ) → j < n → count j ≡ other j) → first_after count n ≡ first_after other n
first_after-same count other zero h = refl
first_after-same count other (suc n) h = ap₂ (λ u v. u + v) (first_after-same count other n (λ j l. h j (omega arith))) (h n (omega arith))

firsts : (d e : Side) → SidesAlike d e → (j : ℕ) → j ≤ d.sets → first d j ≡ first e j
firsts d e a j h = first_after-same d.count e.count j (λ i l. a.count i (omega arith))

pub counts : (d e : Side) → SidesAlike d e → sequences d ≡ sequences e
counts d e a = firsts d e a d.sets (omega arith) ∙ ap (first e) a.sets

-- a number of sets of the one is one of the other
back : (d e : Side) (j : ℕ) → SidesAlike d e → j < e.sets → j < d.sets
back d e j a h = subst (λ n. j < n) (sym a.sets) h

-- the same plans
pub same_plans : AlikeSidesHaveSamePlans
same_plans d e a =
    record {
      sequences_are = counts d e a;
      first_is = λ j h. firsts d e a j (omega arith);
      side = λ s j h. let l = back d e j a h in subst₂ (λ u n. u < n) (a.before j l) (counts d e a) (s j l);
      plan = λ x p. record {
        not_negative = λ q h. p.not_negative q (subst (λ n. q < n) (sym (counts d e a)) h);
        empty_is_one = p.empty_is_one;
        splits = λ j h. let l = back d e j a h in splits x p j l;
      };
    }
  where
    splits : (x : ℕ → ℚ) → IsRealisationPlan d x → (j : ℕ) → j < d.sets → sum_to (e.count j) (λ b. x (first e j + b)) ≡ x (e.before j)
    splits x p j l = sym (ap₂ (λ n k. sum_to n (λ b. x (k + b))) (a.count j l) (firsts d e a j (omega arith))) ∙ p.splits j l ∙ ap x (a.before j l)

-- the other way round
sides_back : (d e : Side) → SidesAlike d e → SidesAlike e d
sides_back d e a = record { sets = sym a.sets; before = λ j h. sym (a.before j (back d e j a h)); count = λ j h. sym (a.count j (back d e j a h)) }

-- a row and a column of the one are those of the other
within : (d e : Side) (q : ℕ) → SidesAlike d e → q < sequences e → q < sequences d
within d e q a h = subst (λ n. q < n) (sym (counts d e a)) h

pub alike_back : (f g : SequenceForm) → FormsAlike f g → FormsAlike g f
alike_back f g a =
    record {
      rows = sides_back f.rows g.rows a.rows;
      columns = sides_back f.columns g.columns a.columns;
      weight = λ r q h l. sym (a.weight r q (within f.rows g.rows r a.rows h) (within f.columns g.columns q a.columns l));
      pays = λ i r q m h l. sym (a.pays i r q m (within f.rows g.rows r a.rows h) (within f.columns g.columns q a.columns l));
    }

-- the same sums of cells
sums : (f g : SequenceForm) (u v : ℕ → ℕ → ℚ) (x y : ℕ → ℚ) → FormsAlike f g → ((r q : ℕ) → r < sequences f.rows → q < sequences f.columns → u r q ≡ v r q) → cell_sum f u x y ≡ cell_sum g v x y
sums f g u v x y a h =
    cell_sum-same f u v x y h
    ∙ ap₂ (λ m n. sum_to m (λ r. x r *ℚ sum_to n (λ q. y q *ℚ v r q))) (counts f.rows g.rows a.rows) (counts f.columns g.columns a.columns)

-- the same payoffs
pub same_sums : (f g : SequenceForm) (i : ℕ) (x y : ℕ → ℚ) → FormsAlike f g → i < 2 → cell_sum f (f.pays i) x y ≡ cell_sum g (g.pays i) x y
same_sums f g i x y a h = sums f g (f.pays i) (g.pays i) x y a (λ r q l m. a.pays i r q h l m)

-- the same best plans
pub same_best_plans : AlikeFormsHaveSameBestPlans
same_best_plans f g a =
    record {
      weigh_one = λ one x y px py. sym (sums f g f.weight g.weight x y a a.weight) ∙ one x y (rows_back x px) (columns_back y py);
      constant_sum = λ c h r q l m. constant c h r q (within f.rows g.rows r a.rows l) (within f.columns g.columns q a.columns m);
      best = best;
      value = λ x y v p. record {
        best = best x y p.best;
        value = sym (paid 0 (omega arith) x y) ∙ p.value;
        row_gets = λ z pz. subst (λ u. v ≤ℚ u) (paid 0 (omega arith) x z) (p.row_gets z (columns_back z pz));
        column_leaves = λ z pz. subst (λ u. u ≤ℚ v) (paid 0 (omega arith) z y) (p.column_leaves z (rows_back z pz));
      };
    }
  where
    rows_back : (x : ℕ → ℚ) → IsRealisationPlan g.rows x → IsRealisationPlan f.rows x
    rows_back x p = (same_plans g.rows f.rows (sides_back f.rows g.rows a.rows)).plan x p

    columns_back : (y : ℕ → ℚ) → IsRealisationPlan g.columns y → IsRealisationPlan f.columns y
    columns_back y p = (same_plans g.columns f.columns (sides_back f.columns g.columns a.columns)).plan y p

    constant : (c : ℚ) → ((r q : ℕ) → r < sequences f.rows → q < sequences f.columns → f.pays 0 r q +ℚ f.pays 1 r q ≡ c *ℚ f.weight r q) → (r q : ℕ) → r < sequences f.rows → q < sequences f.columns → g.pays 0 r q +ℚ g.pays 1 r q ≡ c *ℚ g.weight r q
    constant c h r q l m =
        sym (ap₂ (λ u v. u +ℚ v) (a.pays 0 r q (omega arith) l m) (a.pays 1 r q (omega arith) l m)) ∙ h r q l m ∙ ap (λ u. c *ℚ u) (a.weight r q l m)

    paid : (i : ℕ) → i < 2 → (x y : ℕ → ℚ) → cell_sum f (f.pays i) x y ≡ cell_sum g (g.pays i) x y
    paid i h x y = same_sums f g i x y a h

    best : (x y : ℕ → ℚ) → AreBestPlans f x y → AreBestPlans g x y
    best x y p = record {
      row_plan = (same_plans f.rows g.rows a.rows).plan x p.row_plan;
      column_plan = (same_plans f.columns g.columns a.columns).plan y p.column_plan;
      best_row = λ z pz. subst₂ (λ u v. u ≤ℚ v) (paid 0 (omega arith) z y) (paid 0 (omega arith) x y) (p.best_row z (rows_back z pz));
      best_column = λ z pz. subst₂ (λ u v. u ≤ℚ v) (paid 1 (omega arith) x z) (paid 1 (omega arith) x y) (p.best_column z (columns_back z pz));
    }

-- a form is like itself
sides_same : (d : Side) → SidesAlike d d
sides_same d = record { sets = refl; before = λ j h. refl; count = λ j h. refl }

pub alike_itself : (f : SequenceForm) → FormsAlike f f
alike_itself f = record { rows = sides_same f.rows; columns = sides_same f.columns; weight = λ r q h l. refl; pays = λ i r q m h l. refl }

pub alike_mutual : AlikeIsMutual
alike_mutual = record { itself = alike_itself; other_way = alike_back }
