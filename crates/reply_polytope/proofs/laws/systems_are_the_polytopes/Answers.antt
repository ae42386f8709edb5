use Rattle.reply_polytope.proofs.PolytopePointLaws.{systems-are}
use Rattle.reply_polytope.proofs.laws.systems_are_the_polytopes.Goals as goal

pub returns : goal.returns
returns c = systems-are c.solutions_are_the_polytopes.ensures
