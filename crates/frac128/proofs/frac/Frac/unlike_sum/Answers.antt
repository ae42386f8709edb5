use Rattle.std.proofs.Common.{ap, ◌∙◌, nat_abs}
use Rattle.rational.specs.Gcd.{gcd}
use Rattle.frac128.proofs.PartLemmas.{den_size, size_positive}
use Rattle.frac128.proofs.ReductionLemmas.{common_pos}
use Rattle.frac128.proofs.SumSizeLemmas.{summands_common_positive, own_positive, others_positive, other_den_in_range, own_apart, others_apart, kept_top, left_refused, right_refused, top_refused, sum_refused, sum_answer}
use Rattle.frac128.proofs.frac.Frac.unlike_sum.Goals as goal

pub divided-own-requires : goal.divided-own-requires
divided-own-requires c = common_pos c.unsigned_abs-den.result c.unsigned_abs-other_den.result c.gcd-common.result (size_positive c.args.other c.unsigned_abs-other_den.result (den_size c.args.other c.den-2.result c.unsigned_abs-other_den.result c.den-2.ensures.value c.den-2.ensures.fits c.unsigned_abs-other_den.ensures.value)) c.gcd-common.ensures

pub divided-others-requires : goal.divided-others-requires
divided-others-requires c = common_pos c.unsigned_abs-den.result c.unsigned_abs-other_den.result c.gcd-common.result (size_positive c.args.other c.unsigned_abs-other_den.result (den_size c.args.other c.den-2.result c.unsigned_abs-other_den.result c.den-2.ensures.value c.den-2.ensures.fits c.unsigned_abs-other_den.ensures.value)) c.gcd-common.ensures

pub returns-in_err-left : goal.returns-in_err-left
returns-in_err-left c = sum_refused c.args.self c.args.other c.from_residual.result c.from_residual.ensures (left_refused c.args.self c.args.other c.unsigned_abs-den.result c.unsigned_abs-other_den.result c.gcd-common.result c.divided-own.result c.divided-others.result c.num.result (record { den_is = den_size c.args.self c.den.result c.unsigned_abs-den.result c.den.ensures.value c.den.ensures.fits c.unsigned_abs-den.ensures.value; other_den_is = den_size c.args.other c.den-2.result c.unsigned_abs-other_den.result c.den-2.ensures.value c.den-2.ensures.fits c.unsigned_abs-other_den.ensures.value; common_is = c.gcd-common.ensures; own_is = c.divided-own.ensures; others_is = c.divided-others.ensures }) c.num.ensures.value c.num.ensures.fits c.in_err-left.ensures)

pub returns-in_err-right : goal.returns-in_err-right
returns-in_err-right c = sum_refused c.args.self c.args.other c.from_residual-in_err-right.result c.from_residual-in_err-right.ensures (right_refused c.args.self c.args.other c.unsigned_abs-den.result c.unsigned_abs-other_den.result c.gcd-common.result c.divided-own.result c.divided-others.result c.num-2.result (record { den_is = den_size c.args.self c.den.result c.unsigned_abs-den.result c.den.ensures.value c.den.ensures.fits c.unsigned_abs-den.ensures.value; other_den_is = den_size c.args.other c.den-2.result c.unsigned_abs-other_den.result c.den-2.ensures.value c.den-2.ensures.fits c.unsigned_abs-other_den.ensures.value; common_is = c.gcd-common.ensures; own_is = c.divided-own.ensures; others_is = c.divided-others.ensures }) c.num-2.ensures.value c.num-2.ensures.fits c.in_err-right.ensures)

pub returns-in_err-top : goal.returns-in_err-top
returns-in_err-top c = sum_refused c.args.self c.args.other c.from_residual-in_err-top.result c.from_residual-in_err-top.ensures (top_refused c.args.self c.args.other c.unsigned_abs-den.result c.unsigned_abs-other_den.result c.gcd-common.result c.divided-own.result c.divided-others.result c.num.result c.num-2.result c.in_ok-left.left c.in_ok-right.right (record { den_is = den_size c.args.self c.den.result c.unsigned_abs-den.result c.den.ensures.value c.den.ensures.fits c.unsigned_abs-den.ensures.value; other_den_is = den_size c.args.other c.den-2.result c.unsigned_abs-other_den.result c.den-2.ensures.value c.den-2.ensures.fits c.unsigned_abs-other_den.ensures.value; common_is = c.gcd-common.ensures; own_is = c.divided-own.ensures; others_is = c.divided-others.ensures }) c.num.ensures.value c.num.ensures.fits c.num-2.ensures.value c.num-2.ensures.fits c.in_ok-left.ensures c.in_ok-right.ensures c.in_err-top.ensures)

pub over_product-requires-clause-own_positive : goal.over_product-requires-clause-own_positive
over_product-requires-clause-own_positive c = own_positive c.args.self c.args.other c.unsigned_abs-den.result c.unsigned_abs-other_den.result c.gcd-common.result c.divided-own.result c.divided-others.result (record { den_is = den_size c.args.self c.den.result c.unsigned_abs-den.result c.den.ensures.value c.den.ensures.fits c.unsigned_abs-den.ensures.value; other_den_is = den_size c.args.other c.den-2.result c.unsigned_abs-other_den.result c.den-2.ensures.value c.den-2.ensures.fits c.unsigned_abs-other_den.ensures.value; common_is = c.gcd-common.ensures; own_is = c.divided-own.ensures; others_is = c.divided-others.ensures })

pub over_product-requires-clause-others_positive : goal.over_product-requires-clause-others_positive
over_product-requires-clause-others_positive c = others_positive c.args.self c.args.other c.unsigned_abs-den.result c.unsigned_abs-other_den.result c.gcd-common.result c.divided-own.result c.divided-others.result (record { den_is = den_size c.args.self c.den.result c.unsigned_abs-den.result c.den.ensures.value c.den.ensures.fits c.unsigned_abs-den.ensures.value; other_den_is = den_size c.args.other c.den-2.result c.unsigned_abs-other_den.result c.den-2.ensures.value c.den-2.ensures.fits c.unsigned_abs-other_den.ensures.value; common_is = c.gcd-common.ensures; own_is = c.divided-own.ensures; others_is = c.divided-others.ensures })

pub over_product-requires-clause-common_positive : goal.over_product-requires-clause-common_positive
over_product-requires-clause-common_positive c = summands_common_positive c.args.self c.args.other c.unsigned_abs-den.result c.unsigned_abs-other_den.result c.gcd-common.result c.divided-own.result c.divided-others.result (record { den_is = den_size c.args.self c.den.result c.unsigned_abs-den.result c.den.ensures.value c.den.ensures.fits c.unsigned_abs-den.ensures.value; other_den_is = den_size c.args.other c.den-2.result c.unsigned_abs-other_den.result c.den-2.ensures.value c.den-2.ensures.fits c.unsigned_abs-other_den.ensures.value; common_is = c.gcd-common.ensures; own_is = c.divided-own.ensures; others_is = c.divided-others.ensures })

pub over_product-requires-clause-own_apart : goal.over_product-requires-clause-own_apart
over_product-requires-clause-own_apart c = ap (λ x. gcd (nat_abs x) c.divided-own.result) (kept_top c.args.self c.args.other c.divided-own.result c.divided-others.result c.num.result c.num-2.result c.in_ok-left.left c.in_ok-right.right c.in_ok-top.top (record { num_is = c.num.ensures.value; num_fits = c.num.ensures.fits; other_num_is = c.num-2.ensures.value; other_num_fits = c.num-2.ensures.fits; left_is = c.in_ok-left.ensures.0; left_fits = c.in_ok-left.ensures.1; right_is = c.in_ok-right.ensures.0; right_fits = c.in_ok-right.ensures.1; top_is = c.in_ok-top.ensures.0; top_fits = c.in_ok-top.ensures.1 })) ∙ own_apart c.args.self c.args.other c.unsigned_abs-den.result c.unsigned_abs-other_den.result c.gcd-common.result c.divided-own.result c.divided-others.result (record { den_is = den_size c.args.self c.den.result c.unsigned_abs-den.result c.den.ensures.value c.den.ensures.fits c.unsigned_abs-den.ensures.value; other_den_is = den_size c.args.other c.den-2.result c.unsigned_abs-other_den.result c.den-2.ensures.value c.den-2.ensures.fits c.unsigned_abs-other_den.ensures.value; common_is = c.gcd-common.ensures; own_is = c.divided-own.ensures; others_is = c.divided-others.ensures })

pub over_product-requires-clause-others_apart : goal.over_product-requires-clause-others_apart
over_product-requires-clause-others_apart c = ap (λ x. gcd (nat_abs x) c.divided-others.result) (kept_top c.args.self c.args.other c.divided-own.result c.divided-others.result c.num.result c.num-2.result c.in_ok-left.left c.in_ok-right.right c.in_ok-top.top (record { num_is = c.num.ensures.value; num_fits = c.num.ensures.fits; other_num_is = c.num-2.ensures.value; other_num_fits = c.num-2.ensures.fits; left_is = c.in_ok-left.ensures.0; left_fits = c.in_ok-left.ensures.1; right_is = c.in_ok-right.ensures.0; right_fits = c.in_ok-right.ensures.1; top_is = c.in_ok-top.ensures.0; top_fits = c.in_ok-top.ensures.1 })) ∙ others_apart c.args.self c.args.other c.unsigned_abs-den.result c.unsigned_abs-other_den.result c.gcd-common.result c.divided-own.result c.divided-others.result (record { den_is = den_size c.args.self c.den.result c.unsigned_abs-den.result c.den.ensures.value c.den.ensures.fits c.unsigned_abs-den.ensures.value; other_den_is = den_size c.args.other c.den-2.result c.unsigned_abs-other_den.result c.den-2.ensures.value c.den-2.ensures.fits c.unsigned_abs-other_den.ensures.value; common_is = c.gcd-common.ensures; own_is = c.divided-own.ensures; others_is = c.divided-others.ensures })

pub over_product-requires-clause-other_den_in_range : goal.over_product-requires-clause-other_den_in_range
over_product-requires-clause-other_den_in_range c = other_den_in_range c.args.self c.args.other c.unsigned_abs-den.result c.unsigned_abs-other_den.result c.gcd-common.result c.divided-own.result c.divided-others.result (record { den_is = den_size c.args.self c.den.result c.unsigned_abs-den.result c.den.ensures.value c.den.ensures.fits c.unsigned_abs-den.ensures.value; other_den_is = den_size c.args.other c.den-2.result c.unsigned_abs-other_den.result c.den-2.ensures.value c.den-2.ensures.fits c.unsigned_abs-other_den.ensures.value; common_is = c.gcd-common.ensures; own_is = c.divided-own.ensures; others_is = c.divided-others.ensures }) c.num-2.ensures.fits

pub returns : goal.returns
returns c = sum_answer c.args.self c.args.other c.unsigned_abs-den.result c.unsigned_abs-other_den.result c.gcd-common.result c.divided-own.result c.divided-others.result c.num.result c.num-2.result c.in_ok-left.left c.in_ok-right.right c.in_ok-top.top c.over_product.result (record { den_is = den_size c.args.self c.den.result c.unsigned_abs-den.result c.den.ensures.value c.den.ensures.fits c.unsigned_abs-den.ensures.value; other_den_is = den_size c.args.other c.den-2.result c.unsigned_abs-other_den.result c.den-2.ensures.value c.den-2.ensures.fits c.unsigned_abs-other_den.ensures.value; common_is = c.gcd-common.ensures; own_is = c.divided-own.ensures; others_is = c.divided-others.ensures }) (record { num_is = c.num.ensures.value; num_fits = c.num.ensures.fits; other_num_is = c.num-2.ensures.value; other_num_fits = c.num-2.ensures.fits; left_is = c.in_ok-left.ensures.0; left_fits = c.in_ok-left.ensures.1; right_is = c.in_ok-right.ensures.0; right_fits = c.in_ok-right.ensures.1; top_is = c.in_ok-top.ensures.0; top_fits = c.in_ok-top.ensures.1 }) c.over_product.ensures
