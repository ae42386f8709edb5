use Rattle.std.proofs.Common.{◌∙◌, ap, ap₂, nat_abs, sym, subst₂, ◌*ℤ◌}
use Rattle.std.specs.Int.{w128, ◌∣◌}
use Rattle.std.proofs.lemmas.Int.{to_z-of_z}
use Rattle.whole_rows.proofs.FittingStepLemmas.{read_back}
use Rattle.whole_rows.proofs.RowValueLemmas.{nat_abs-signed, quotient_unique}
use Rattle.whole_rows.specs.Pivots.{signed_by}
use Rattle.whole_rows.proofs.pivots.factor.Goals as goal

pub exact_quotient-requires-clause-divides : goal.exact_quotient-requires-clause-divides
exact_quotient-requires-clause-divides c =
    subst₂ (λ d n. nat_abs d ∣ n) (sym (to_z-of_z w128 c.args.common c.ranges.common)) (sym (ap nat_abs (read_back c.times_sign.result c.times_sign.ensures.fits ∙ c.times_sign.ensures.value) ∙ ap₂ (λ p n. nat_abs (signed_by p n)) (to_z-of_z w128 c.args.p c.ranges.p) (to_z-of_z w128 c.args.n c.ranges.n) ∙ nat_abs-signed c.args.p c.args.n)) c.requires.divides

pub returns-clause-value : goal.returns-clause-value
returns-clause-value c =
    quotient_unique _ (signed_by c.args.p c.args.n) c.args.common c.requires.positive
    (ap₂ (λ q d. q *ℤ d) (read_back c.exact_quotient.result c.exact_quotient.ensures.fits) (sym (to_z-of_z w128 c.args.common c.ranges.common)) ∙ c.exact_quotient.ensures.value ∙ read_back c.times_sign.result c.times_sign.ensures.fits ∙ c.times_sign.ensures.value ∙ ap₂ signed_by (to_z-of_z w128 c.args.p c.ranges.p) (to_z-of_z w128 c.args.n c.ranges.n))
