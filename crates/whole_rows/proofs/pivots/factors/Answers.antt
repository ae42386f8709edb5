use Rattle.std.proofs.Common.{◌∙◌, ap₂, pos, nat_abs, subst₂, sym}
use Rattle.std.specs.Int.{w128, ◌∣◌}
use Rattle.std.proofs.lemmas.Int.{to_z-of_z}
use Rattle.rational.specs.Gcd.{gcd}
use Rattle.rational.specs.GcdLaws.{gcd-is}
use Rattle.whole_rows.proofs.pivots.factors.Goals as goal

pub factor-requires-clause-divides : goal.factor-requires-clause-divides
factor-requires-clause-divides c =
    subst₂ (λ d n. nat_abs d ∣ nat_abs n) (sym (to_z-of_z w128 c.common_part-common.result (record { sfits = c.common_part-common.type_inv }) ∙ c.common_part-common.ensures.value ∙ ap₂ (λ x y. pos (gcd (nat_abs x) (nat_abs y))) (to_z-of_z w128 c.args.p c.ranges.p) (to_z-of_z w128 c.args.k c.ranges.k))) (sym (to_z-of_z w128 c.args.p c.ranges.p)) (gcd-is (nat_abs c.args.p) (nat_abs c.args.k)).0

pub factor-requires-2-clause-divides : goal.factor-requires-2-clause-divides
factor-requires-2-clause-divides c =
    subst₂ (λ d n. nat_abs d ∣ nat_abs n) (sym (to_z-of_z w128 c.common_part-common.result (record { sfits = c.common_part-common.type_inv }) ∙ c.common_part-common.ensures.value ∙ ap₂ (λ x y. pos (gcd (nat_abs x) (nat_abs y))) (to_z-of_z w128 c.args.p c.ranges.p) (to_z-of_z w128 c.args.k c.ranges.k))) (sym (to_z-of_z w128 c.args.k c.ranges.k)) (gcd-is (nat_abs c.args.p) (nat_abs c.args.k)).1
