use Rattle.std.proofs.lemmas.Result.{err_from_is_err_and}
use Rattle.whole_rows.specs.StartRows.{cells_from, common_to, denominator_steps, numerator_steps}
use Rattle.frac128.proofs.StepRunLemmas.{first_unfit-more}
use Rattle.whole_rows.proofs.StartRowLemmas.{start_row_fits, start_rest_unfit}
use Rattle.whole_rows.proofs.starts.write_start_row.Goals as goal

pub returns-clause-fits : goal.returns-clause-fits
returns-clause-fits c = start_row_fits (cells_from c.args.cells.now c.args.from) c.args.count c.write_over.result c.in_ok-common.ensures.value.2 c.write_over.ensures.fits

pub returns-clause-unfit : goal.returns-clause-unfit
returns-clause-unfit c = start_rest_unfit (cells_from c.args.cells.now c.args.from) c.args.count c.write_over.result c.in_ok-common.ensures.value.2 c.write_over.ensures.unfit

pub returns-in_err-common-clause-unfit : goal.returns-in_err-common-clause-unfit
returns-in_err-common-clause-unfit c =
    let p = err_from_is_err_and c.from_residual.result c.from_residual.ensures.1 in
    rw (p.1, p.2) (first_unfit-more (denominator_steps (cells_from c.args.cells.now c.args.from) c.args.count) (numerator_steps (cells_from c.args.cells.now c.args.from) (common_to (cells_from c.args.cells.now c.args.from) c.args.count) c.args.count) c.in_err-common.field-0.0 c.in_err-common.ensures.unfit)
