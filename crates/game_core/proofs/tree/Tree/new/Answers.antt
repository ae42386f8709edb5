use Rattle.std.proofs.Common.{◌≡◌, length, arith}
use Rattle.game_core.proofs.PlayerSetLemmas.{owners_within}
use Rattle.game_core.proofs.tree.Tree.new.Goals as goal

pub own_lists-requires-clause-owners : goal.own_lists-requires-clause-owners
own_lists-requires-clause-owners c =
    let players : length c.args.players.items ≡ c.len.result = omega arith in
    rw (c.as_slice.ensures.value, ← players) (owners_within _ c.requires)
