use Rattle.std.proofs.Common.{length, subst, sym}
use Rattle.reply_polytope.specs.Polytopes.{IsRatedSystem}
use Rattle.reply_polytope.specs.Shapes.{slack_system}
use Rattle.reply_polytope.proofs.SlackSystemLemmas.{rated_system}
use Rattle.reply_polytope.proofs.systems.slack_system.Goals as goal

pub returns : goal.returns
returns c =
    let numbers = c.args.numbers.now in
    let shape = c.args.shape.now in
    subst (IsRatedSystem (slack_system numbers shape)) (sym c.new.ensures.value)
    (rated_system (length numbers) numbers shape c.requires c.in_ok-basics.basics.items c.in_ok-nonbasics.nonbasics.items c.in_ok-cells.cells.items c.in_ok-basics.ensures c.in_ok-nonbasics.ensures c.in_ok-cells.ensures)
