use Rattle.std.proofs.Common.{refl, arith}
use Rattle.std.proofs.lemmas.Result.{err_from_is_err_and}
use Rattle.basis_enum.proofs.walk.check_count.Goals as goal

pub returns-in_err-within-clause-stop : goal.returns-in_err-within-clause-stop
returns-in_err-within-clause-stop c =
    let p = err_from_is_err_and c.from_residual.result c.from_residual.ensures.1 in
    rw (p.1, p.2) (c.in_err-within.field-0.0, c.in_err-within.ensures, refl)

pub returns-clause-few : goal.returns-clause-few
returns-clause-few c = let few = c.in_ok-within.ensures in omega arith
