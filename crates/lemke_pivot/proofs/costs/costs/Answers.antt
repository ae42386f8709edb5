use Rattle.std.proofs.Common.{inr}
use Rattle.sequence_data.specs.declared.types.Cell.{Cell}
use Rattle.frac128.proofs.FirstUnfitLemmas.{made_next}
use Rattle.lemke_pivot.specs.FormProblems.{cost_one, cost_two, cost_steps}
use Rattle.lemke_pivot.proofs.CostStepLemmas.{both_fit, unfit_one, unfit_two}
use Rattle.lemke_pivot.proofs.costs.costs.Goals as goal

pub returns-in-Err-clause-stage : goal.returns-in-Err-clause-stage
returns-in-Err-clause-stage c =
    inr ((record { player = 0; cell = c.cell-item.result }, c.in-Err.unfit), unfit_one c.args.greatest_one c.args.greatest_two c.args.cells.now c.loop-cell.cell-index c.cell-item.result c.loop-cell-test.true c.cell-item.is c.loop-cell.invariant.fit c.in-Err.unfit c.in-Err.ensures, c.refused.ensures)

pub returns-in-Err-cost-clause-stage : goal.returns-in-Err-cost-clause-stage
returns-in-Err-cost-clause-stage c =
    inr ((record { player = 1; cell = c.cell-item.result }, c.in-Err-cost.unfit), unfit_two c.args.greatest_one c.args.greatest_two c.args.cells.now c.loop-cell.cell-index c.cell-item.result c.loop-cell-test.true c.cell-item.is c.loop-cell.invariant.fit c.in-Err-cost.unfit c.in-Ok.ensures.1 c.in-Err-cost.ensures, c.refused-in-Err-cost.ensures)

pub loop-cell-preserved : goal.loop-cell-preserved
loop-cell-preserved c =
    record {
      one = made_next (λ (x : Cell). cost_steps c.args.greatest_one x.weight x.one) c.args.cells.now c.loop-cell.cell-index c.cell-item.result c.loop-cell-test.true c.cell-item.is (cost_one c.args.greatest_one) c.loop-cell.one.items c.push.new.self.items c.in-Ok.value c.loop-cell.invariant.one c.in-Ok.ensures.0 c.in_ok-push-in-Ok.ensures.items;
      two = made_next (λ (x : Cell). cost_steps c.args.greatest_two x.weight x.two) c.args.cells.now c.loop-cell.cell-index c.cell-item.result c.loop-cell-test.true c.cell-item.is (cost_two c.args.greatest_two) c.loop-cell.two.items c.push-in-Ok-cost.new.self.items c.in-Ok-cost.value c.loop-cell.invariant.two c.in-Ok-cost.ensures.0 c.in_ok-push-in-Ok-cost.ensures.items;
      fit = both_fit c.args.greatest_one c.args.greatest_two c.args.cells.now c.loop-cell.cell-index c.cell-item.result c.loop-cell-test.true c.cell-item.is c.loop-cell.invariant.fit c.in-Ok.ensures.1 c.in-Ok-cost.ensures.1;
    }
