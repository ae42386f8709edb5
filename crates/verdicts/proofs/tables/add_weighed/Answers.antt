use Rattle.std.proofs.Common.{sym, ◌∙◌}
use Rattle.std.proofs.lemmas.Bool.{false≢true}
use Rattle.std.proofs.lemmas.Result.{err_from_is_err_and}
use Rattle.verdicts.proofs.TableStepLemmas.{nothing-added, product-added, product-unfit}
use Rattle.verdicts.proofs.tables.add_weighed.Goals as goal

pub returns-then-is_zero : goal.returns-then-is_zero
returns-then-is_zero c = nothing-added c.args.sum c.args.weight c.args.number (c.is_zero.ensures.0 c.if-is_zero.true)

pub returns : goal.returns
returns c =
    product-added c.args.sum c.args.weight c.args.number c.in_ok-product.product c.add.result (λ e. false≢true (sym c.if-is_zero.false ∙ c.is_zero.ensures.1 e)) c.in_ok-product.ensures.value c.in_ok-product.ensures.fits
    c.add.ensures.value c.add.ensures.fits c.add.ensures.step c.add.ensures.unfit

pub returns-in_err-product : goal.returns-in_err-product
returns-in_err-product c =
    let p = err_from_is_err_and c.from_residual.result c.from_residual.ensures.1 in
    rw (p.1, p.2) (product-unfit c.args.sum c.args.weight c.args.number c.in_err-product.field-0.0 (λ e. false≢true (sym c.if-is_zero.false ∙ c.is_zero.ensures.1 e)) c.in_err-product.ensures.step c.in_err-product.ensures.unfit)
