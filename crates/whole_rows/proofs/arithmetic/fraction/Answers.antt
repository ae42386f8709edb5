use Rattle.std.proofs.Common.{ap₂, ◌∙◌, ◌<◌, ◌^◌, subst, sym}
use Rattle.std.specs.Int.{w128}
use Rattle.std.proofs.lemmas.Int.{to_z-of_z}
use Rattle.rational.specs.Rational.{frac}
use Rattle.rational.proofs.PartLemmas.{pos_abs}
use Rattle.frac128.proofs.PartLemmas.{num_kept}
use Rattle.whole_rows.proofs.arithmetic.fraction.Goals as goal

pub over-requires-clause-positive : goal.over-requires-clause-positive
over-requires-clause-positive c =
    subst (λ n. 0 < n) (sym (num_kept c.args.den c.unsigned_abs.result c.ranges.den c.unsigned_abs.ensures.value)) (pos_abs c.args.den c.requires.positive)

pub over-requires-clause-den : goal.over-requires-clause-den
over-requires-clause-den c =
    subst (λ n. n < 2 ^ 127) (sym (num_kept c.args.den c.unsigned_abs.result c.ranges.den c.unsigned_abs.ensures.value)) c.requires.den_fits

pub returns : goal.returns
returns c =
    c.over.ensures ∙ ap₂ frac (to_z-of_z w128 c.args.num c.ranges.num) (num_kept c.args.den c.unsigned_abs.result c.ranges.den c.unsigned_abs.ensures.value)
