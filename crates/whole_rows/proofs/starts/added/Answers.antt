use Rattle.std.proofs.Common.{◌∙◌, ◌*ℤ◌, ap₂, pos, nat_abs, subst₂, sym}
use Rattle.std.specs.Int.{w128, ◌∣◌}
use Rattle.std.proofs.lemmas.Int.{to_z-of_z}
use Rattle.rational.specs.Gcd.{gcd}
use Rattle.rational.specs.GcdLaws.{gcd-is}
use Rattle.whole_rows.proofs.StartRowLemmas.{added_is}
use Rattle.whole_rows.proofs.FittingStepLemmas.{read_back}
use Rattle.whole_rows.proofs.RowValueLemmas.{quotient_unique}
use Rattle.whole_rows.proofs.starts.added.Goals as goal

pub exact_quotient-requires-clause-divides : goal.exact_quotient-requires-clause-divides
exact_quotient-requires-clause-divides c =
    subst₂ (λ d n. nat_abs d ∣ nat_abs n) (sym (to_z-of_z w128 c.common_part.result (record { sfits = c.common_part.type_inv }) ∙ c.common_part.ensures.value ∙ ap₂ (λ x y. pos (gcd (nat_abs x) (nat_abs y))) (to_z-of_z w128 c.args.common c.ranges.common) (to_z-of_z w128 c.args.den c.ranges.den))) (sym (to_z-of_z w128 c.args.den c.ranges.den)) (gcd-is (nat_abs c.args.common) (nat_abs c.args.den)).1

pub returns-clause-value : goal.returns-clause-value
returns-clause-value c =
    added_is c.args.common c.args.den c.common_part.result _ c.requires.den (c.common_part.ensures.value ∙ ap₂ (λ x y. pos (gcd (nat_abs x) (nat_abs y))) (to_z-of_z w128 c.args.common c.ranges.common) (to_z-of_z w128 c.args.den c.ranges.den))
    (quotient_unique _ c.args.den c.common_part.result c.common_part.ensures.positive
    (ap₂ (λ q d. q *ℤ d) (read_back c.exact_quotient.result c.exact_quotient.ensures.fits) (sym (to_z-of_z w128 c.common_part.result (record { sfits = c.common_part.type_inv }))) ∙ c.exact_quotient.ensures.value ∙ to_z-of_z w128 c.args.den c.ranges.den))
