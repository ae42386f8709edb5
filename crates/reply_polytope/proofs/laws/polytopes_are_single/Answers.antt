use Rattle.reply_polytope.proofs.SingleLemmas.{polytopes_single}
use Rattle.reply_polytope.proofs.laws.polytopes_are_single.Goals as goal

pub returns : goal.returns
returns c = polytopes_single
