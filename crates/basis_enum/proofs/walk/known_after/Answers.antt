use Rattle.std.proofs.Common.{◌∙◌, inl, inr, refl, subst}
use Rattle.std.specs.List.{Contains}
use Rattle.std.proofs.lemmas.Result.{err_from_is_err_and}
use Rattle.basis_enum.proofs.walk.known_after.Goals as goal

pub returns-in_err-check_count-clause-stop : goal.returns-in_err-check_count-clause-stop
returns-in_err-check_count-clause-stop c =
    let p = err_from_is_err_and c.from_residual.result c.from_residual.ensures.1 in
    rw (p.1, p.2) (inr c.in_err-check_count.ensures.stop)

pub returns-in_err-new-clause-stop : goal.returns-in_err-new-clause-stop
returns-in_err-new-clause-stop c =
    let p = err_from_is_err_and c.from_residual-in_err-new.result c.from_residual-in_err-new.ensures.1 in
    rw (p.1, p.2) (inl refl)

pub merged-requires-clause-apart : goal.merged-requires-clause-apart
merged-requires-clause-apart c = λ b k n. c.requires.new b k (subst (λ xs. Contains xs b) (c.as_slice.ensures.value ∙ c.in_ok-new.ensures) n)

pub returns-in_err-merged-clause-stop : goal.returns-in_err-merged-clause-stop
returns-in_err-merged-clause-stop c =
    let p = err_from_is_err_and c.from_residual-in_err-merged.result c.from_residual-in_err-merged.ensures.1 in
    rw (p.1, p.2) (inl refl)
