use Rattle.basis_enum.proofs.BasicValueLemmas.{value_more}
use Rattle.basis_enum.proofs.marking.values.Goals as goal

pub loop-variable-preserved : goal.loop-variable-preserved
loop-variable-preserved c =
    value_more c.args.tableau.now c.args.variables.now c.loop-variable.variable-index c.value.result
    c.loop-variable.values.items c.push.new.self.items c.value.ensures
    c.loop-variable-test.true c.loop-variable.invariant c.in_ok-push.ensures.items
