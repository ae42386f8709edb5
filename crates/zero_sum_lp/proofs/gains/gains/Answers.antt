use Rattle.std.proofs.Common.{inr, refl}
use Rattle.frac128.proofs.FirstUnfitLemmas.{fits_next, first_unfit_here, made_next}
use Rattle.zero_sum_lp.specs.FormPrograms.{cell_gain, gain_steps}
use Rattle.zero_sum_lp.proofs.gains.gains.Goals as goal

pub returns-in-Err-clause-stage : goal.returns-in-Err-clause-stage
returns-in-Err-clause-stage c =
    inr ((c.cell-item.result, c.in-Err.unfit), first_unfit_here (gain_steps c.args.least) c.args.cells.now c.loop-cell.cell-index c.cell-item.result c.loop-cell-test.true c.cell-item.is c.in-Err.unfit c.loop-cell.invariant.fit c.in-Err.ensures, refl)

pub loop-cell-preserved : goal.loop-cell-preserved
loop-cell-preserved c =
    record {
      made = made_next (gain_steps c.args.least) c.args.cells.now c.loop-cell.cell-index c.cell-item.result c.loop-cell-test.true c.cell-item.is (cell_gain c.args.least) c.loop-cell.gains.items c.push.new.self.items c.in-Ok.gain c.loop-cell.invariant.made c.in-Ok.ensures.0 c.in_ok-push-in-Ok.ensures.items;
      fit = fits_next (gain_steps c.args.least) c.args.cells.now c.loop-cell.cell-index c.cell-item.result c.loop-cell-test.true c.cell-item.is c.loop-cell.invariant.fit c.in-Ok.ensures.1;
    }
