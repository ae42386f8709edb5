-- The plans of an optimum prove the value.
use Rattle.std.proofs.Common.{◌≡◌, sym, ap, ◌∙◌, subst, subst₂}
use Rattle.rational.specs.Rational.{◌+ℚ◌}
use Rattle.sequence_forms.specs.Sides.{IsOrderedSide}
use Rattle.sequence_forms.specs.Prices.{IsValueProof}
use Rattle.sequence_forms.proofs.EndLemmas.{values_on_trees, values_on_tables}
use Rattle.zero_sum_lp.specs.Paths.{IsAfter, IsOptimal}
use Rattle.zero_sum_lp.specs.Plans.{IsRaised, IsTrimmed}
use Rattle.zero_sum_lp.specs.Programs.{price_one, price_two, raw_one, raw_two}
use Rattle.zero_sum_lp.proofs.EndPriceLemmas.{value_proved}
use Rattle.lex_tableau.specs.Rows.{tableau}
use Rattle.sequence_data.specs.Data.{side_of}
use Rattle.rational.specs.Sum.{entry_at}
use Rattle.zero_sum_lp.specs.ExactPaths.{linear_program}
use Rattle.zero_sum_lp.specs.ValueLaws.{OptimalPlansProveTheValue, OptimalPlansSolveTrees, OptimalPlansSolveTables}
use Rattle.zero_sum_lp.proofs.OptimumLemmas.{program_starts}
use Rattle.zero_sum_lp.proofs.PathWalkLemmas.{kept, leads_after}
use Rattle.zero_sum_lp.proofs.PlanAnswerLemmas.{plans_made}

pub plans_prove : OptimalPlansProveTheValue
plans_prove f least p o pair h form opt plans =
    let rows : f.rows ≡ side_of o.first = form.rows ∙ ap side_of (sym opt.first) in
    let columns : f.columns ≡ side_of o.second = form.columns ∙ ap side_of (sym opt.second) in
    let made = plans_made o pair plans in
    let after : IsAfter (linear_program p.tableau) opt.path.count (tableau o.tableau) = leads_after p.tableau o.tableau opt.path.count (program_starts p h) opt.path.path in
    let optimal : IsOptimal p.tableau.rated (tableau o.tableau) = subst (λ m. IsOptimal m (tableau o.tableau)) (kept p.tableau o.tableau opt.path.count opt.path.path).1 opt.path.optimal in
    let raised : IsRaised f.rows (raw_one f.rows f.columns (tableau o.tableau)) (entry_at pair.one) = subst₂ (λ a b. IsRaised a (raw_one a b (tableau o.tableau)) (entry_at pair.one)) (sym rows) (sym columns) made.0 in
    let trimmed : IsTrimmed f.columns (raw_two f.rows f.columns (tableau o.tableau)) (entry_at pair.two) = subst₂ (λ a b. IsTrimmed b (raw_two a b (tableau o.tableau)) (entry_at pair.two)) (sym rows) (sym columns) made.1 in
    subst₂ (λ a b. IsValueProof f least (entry_at pair.one) (entry_at pair.two) (price_one a b (tableau o.tableau)) (price_two a b (tableau o.tableau)) (price_two a b (tableau o.tableau) 0 +ℚ least)) rows columns (value_proved f least (linear_program p.tableau) opt.path.count (tableau o.tableau) (subst IsOrderedSide (sym form.rows) h.first.ordered) (subst IsOrderedSide (sym form.columns) h.second.ordered) form.program after optimal (entry_at pair.one) (entry_at pair.two) form.gains_not_negative raised trimmed)

pub plans_solve_trees : OptimalPlansSolveTrees
plans_solve_trees t f least sum p o pair recall alike leaves h form opt plans =
    values_on_trees t f least sum (entry_at pair.one) (entry_at pair.two) _ _ _ recall alike leaves (plans_prove f least p o pair h form opt plans)

pub plans_solve_tables : OptimalPlansSolveTables
plans_solve_tables g m n f least sum p o pair strategies alike constant h form opt plans =
    values_on_tables g m n f least sum (entry_at pair.one) (entry_at pair.two) _ _ _ strategies alike constant (plans_prove f least p o pair h form opt plans)
