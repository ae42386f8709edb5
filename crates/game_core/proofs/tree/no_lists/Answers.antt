use Rattle.std.proofs.lemmas.List.{map_push}
use Rattle.game_core.proofs.PlayerSetLemmas.{AreOwnLists-one_more}
use Rattle.game_core.proofs.tree.no_lists.Goals as goal

pub loop-preserved : goal.loop-preserved
loop-preserved c = rw (c.in_ok-push.ensures.items, map_push) (rw c.new.ensures.items (AreOwnLists-one_more _ _ c.loop.invariant))
