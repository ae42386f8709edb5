use Rattle.frac128.proofs.PartLemmas.{den_size, size_positive}
use Rattle.frac128.proofs.ReductionLemmas.{answer_at}
use Rattle.frac128.proofs.SumSizeLemmas.{sum_answer, sum_refused}
use Rattle.frac128.proofs.LikeSumLemmas.{like_summands, like_tops, like_refused, like_value}
use Rattle.frac128.proofs.frac.Frac.like_sum.Goals as goal

pub returns-in_err-top : goal.returns-in_err-top
returns-in_err-top c = sum_refused c.args.self c.args.other c.from_residual.result c.from_residual.ensures (like_refused c.args.self c.args.other c.num.result c.num-2.result c.requires c.num.ensures.value c.num.ensures.fits c.num-2.ensures.value c.num-2.ensures.fits c.in_err-top.ensures)

pub reduced-requires : goal.reduced-requires
reduced-requires c = size_positive c.args.self c.unsigned_abs-2.result (den_size c.args.self c.den.result c.unsigned_abs-2.result c.den.ensures.value c.den.ensures.fits c.unsigned_abs-2.ensures.value)

pub returns : goal.returns
returns c =
    let den = den_size c.args.self c.den.result c.unsigned_abs-2.result c.den.ensures.value c.den.ensures.fits c.unsigned_abs-2.ensures.value in
    let value = like_value c.in_ok-top.top c.unsigned_abs.result c.unsigned_abs-2.result c.unsigned_abs.ensures.value in
    sum_answer c.args.self c.args.other c.unsigned_abs-2.result c.unsigned_abs-2.result c.unsigned_abs-2.result 1 1 c.num.result c.num-2.result c.num.result c.num-2.result c.in_ok-top.top c.reduced.result (like_summands c.args.self c.args.other c.unsigned_abs-2.result den c.requires) (like_tops c.args.self c.args.other c.num.result c.num-2.result c.in_ok-top.top c.num.ensures.value c.num.ensures.fits c.num-2.ensures.value c.num-2.ensures.fits c.in_ok-top.ensures.0 c.in_ok-top.ensures.1) (answer_at c.reduced.result _ _ value c.reduced.ensures)
