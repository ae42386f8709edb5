use Rattle.std.proofs.Common.{[], inr, refl, subst, sym}
use Rattle.frac128.specs.Steps.{step_of, IsFirstUnfit}
use Rattle.frac128.specs.declared.steps.Op.TheVariants.{Add}
use Rattle.frac128.proofs.StepRunLemmas.{first_unfit-here, one-fits}
use Rattle.frac128.proofs.FirstUnfitLemmas.{fits_next, first_unfit_here, made_next}
use Rattle.zero_sum_lp.specs.FormPrograms.{sum_at, leaf_sum_steps}
use Rattle.zero_sum_lp.proofs.sums.sums.Goals as goal

pub returns-in-Err-clause-stage : goal.returns-in-Err-clause-stage
returns-in-Err-clause-stage c =
    inr ((c.leaf-item.result, c.in-Err.unfit), first_unfit_here leaf_sum_steps c.args.leaves.now c.loop-leaf.leaf-index c.leaf-item.result c.loop-leaf-test.true c.leaf-item.is c.in-Err.unfit c.loop-leaf.invariant.fit (subst (IsFirstUnfit (leaf_sum_steps c.leaf-item.result)) (sym c.in-Err.ensures.step) (first_unfit-here _ [] c.in-Err.ensures.unfit)), refl)

pub loop-leaf-preserved : goal.loop-leaf-preserved
loop-leaf-preserved c =
    record {
      made = made_next leaf_sum_steps c.args.leaves.now c.loop-leaf.leaf-index c.leaf-item.result c.loop-leaf-test.true c.leaf-item.is sum_at c.loop-leaf.sums.items c.push.new.self.items c.in-Ok.sum c.loop-leaf.invariant.made c.in-Ok.ensures.value c.in_ok-push-in-Ok.ensures.items;
      fit = fits_next leaf_sum_steps c.args.leaves.now c.loop-leaf.leaf-index c.leaf-item.result c.loop-leaf-test.true c.leaf-item.is c.loop-leaf.invariant.fit (one-fits (step_of Add c.leaf-item.result.one c.leaf-item.result.two) c.in-Ok.ensures.fits);
    }
