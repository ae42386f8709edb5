use Rattle.std.proofs.Common.{◌≡◌, ◌∙◌, List, Ok, Err, ◌++◌, ap, drop, length, subst, sym, take}
use Rattle.std.proofs.Math.Seq.{take-append_seam}
use Rattle.std.proofs.lemmas.Result.{err_from_is_err_and}
use Rattle.rational.specs.Rational.{ℚ}
use Rattle.sequence_data.specs.Data.{side_of}
use Rattle.rational.specs.Sum.{entry_at}
use Rattle.zero_sum_lp.specs.PlanStops.{raised_in}
use Rattle.zero_sum_lp.proofs.optimum.raised.Goals as goal

pub returns-in_err-raise : goal.returns-in_err-raise
returns-in_err-raise c =
    let p = err_from_is_err_and c.from_residual.result c.from_residual.ensures.1 in
    rw (p.1, p.2) (subst (λ (xs : List ℚ). raised_in (side_of c.args.side.now) (entry_at xs) (Err c.in_err-raise.field-0.0)) c.as_mut_slice.ensures.value c.in_err-raise.ensures.stage)

pub returns : goal.returns
returns c =
    let plan = c.raise.new.weights in
    let kept : take c.args.weights.len (plan ++ drop (length plan) c.args.weights.items) ≡ plan =
    ap (λ n. take n (plan ++ drop (length plan) c.args.weights.items)) (sym (c.raise.ensures.length ∙ c.as_mut_slice.ensures.len)) ∙ take-append_seam plan _ in
    subst (λ (ys : List ℚ). raised_in (side_of c.args.side.now) (entry_at c.args.weights.items) (Ok ys)) (sym kept)
    (subst (λ (xs : List ℚ). raised_in (side_of c.args.side.now) (entry_at xs) (Ok plan)) c.as_mut_slice.ensures.value c.in_ok-raise.ensures.stage)
