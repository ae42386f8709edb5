use Rattle.frac128.proofs.ReductionLemmas.{common_pos, lowered_pos, lowered_lowest, lowered_value, answer_at}
use Rattle.rational.specs.Rational.{frac}
use Rattle.frac128.specs.Fraction.{with_sign}
use Rattle.frac128.proofs.frac.Frac.reduced.Goals as goal

pub divided-lowest_top-requires : goal.divided-lowest_top-requires
divided-lowest_top-requires c = common_pos c.args.top c.args.bottom c.gcd-common.result c.requires c.gcd-common.ensures

pub divided-lowest_bottom-requires : goal.divided-lowest_bottom-requires
divided-lowest_bottom-requires c = common_pos c.args.top c.args.bottom c.gcd-common.result c.requires c.gcd-common.ensures

pub from_sizes-requires-clause-positive : goal.from_sizes-requires-clause-positive
from_sizes-requires-clause-positive c = lowered_pos c.args.top c.args.bottom c.gcd-common.result c.divided-lowest_top.result c.divided-lowest_bottom.result (record { positive = c.requires; common = c.gcd-common.ensures; top = c.divided-lowest_top.ensures; bottom = c.divided-lowest_bottom.ensures })

pub from_sizes-requires-clause-lowest : goal.from_sizes-requires-clause-lowest
from_sizes-requires-clause-lowest c = lowered_lowest c.args.top c.args.bottom c.gcd-common.result c.divided-lowest_top.result c.divided-lowest_bottom.result (record { positive = c.requires; common = c.gcd-common.ensures; top = c.divided-lowest_top.ensures; bottom = c.divided-lowest_bottom.ensures })

pub returns : goal.returns
returns c =
    answer_at c.from_sizes.result (frac (with_sign c.args.negative c.divided-lowest_top.result) c.divided-lowest_bottom.result) (frac (with_sign c.args.negative c.args.top) c.args.bottom) (lowered_value c.args.negative c.args.top c.args.bottom c.gcd-common.result c.divided-lowest_top.result c.divided-lowest_bottom.result (record { positive = c.requires; common = c.gcd-common.ensures; top = c.divided-lowest_top.ensures; bottom = c.divided-lowest_bottom.ensures })) c.from_sizes.ensures
