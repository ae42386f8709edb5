use Rattle.std.proofs.Common.{Ok, length, refl, ap, arith}
use Rattle.std.proofs.lemmas.Iterator.{items_from_collect, YieldsList-from_range}
use Rattle.enumpure_trees.proofs.passing.all_players.Goals as goal

pub returns : goal.returns
returns c =
    items_from_collect {E = Unit {0}} (Ok c.in_ok-collect.field-0) c.in_ok-collect.ensures.ran (YieldsList-from_range 0 (length c.players.result.now) (length c.args.tree.now.players) refl (omega (arith, ap length c.players.ensures.players)))
