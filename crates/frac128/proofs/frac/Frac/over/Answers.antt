use Rattle.std.proofs.Common.{ap, sym, subst, ◌∙◌, ◌<◌, ◌^◌}
use Rattle.rational.specs.Rational.{frac}
use Rattle.frac128.proofs.ReductionLemmas.{sizes_fit}
use Rattle.frac128.proofs.PartLemmas.{num_kept}
use Rattle.frac128.proofs.SumSizeLemmas.{kept_size}
use Rattle.frac128.proofs.frac.Frac.over.Goals as goal

pub returns : goal.returns
returns c =
    c.in-Some.ensures.0 ∙ ap (λ n. frac n c.args.den) (kept_size c.args.num c.unsigned_abs.result c.ranges.num (num_kept c.args.num c.unsigned_abs.result c.ranges.num c.unsigned_abs.ensures.value))

pub unreachable-requires : goal.unreachable-requires
unreachable-requires c =
    c.in-None.ensures (sizes_fit _ c.unsigned_abs.result c.args.den c.requires.positive (subst (λ n. n < 2 ^ 127) (sym (num_kept c.args.num c.unsigned_abs.result c.ranges.num c.unsigned_abs.ensures.value)) c.requires.num) c.requires.den)
