use Rattle.std.proofs.Common.{◌≡◌, map}
use Rattle.std.specs.Prelude.{sum}
use Rattle.game_core.specs.TreeGame.{game_of_tree}
use Rattle.behaviour_profile.specs.EntryStarts.{AreStartsOf, sets_below}
use Rattle.behaviour_profile.proofs.starts.starts_of.Given as goal

-- the starts of the sets of the players so far are written
abbrev pub invariant-loop-player : goal.invariant-loop-player
invariant-loop-player l =
    let t = game_of_tree l.tree in
    let sets = sets_below t l.player in
    (l.next ≡ sum (map t.actions sets)) × AreStartsOf t sets l.starts.items
