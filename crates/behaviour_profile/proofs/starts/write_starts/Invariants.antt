use Rattle.std.proofs.Common.{◌≡◌, map}
use Rattle.std.specs.Prelude.{sum}
use Rattle.game_core.specs.TreeGame.{game_of_tree}
use Rattle.behaviour_profile.specs.EntryStarts.{AreStartsOf}
use Rattle.behaviour_profile.proofs.EntryStartLemmas.{sets_to}
use Rattle.behaviour_profile.proofs.starts.write_starts.Given as goal

-- the starts of the player's sets so far are written
abbrev pub invariant-loop-set : goal.invariant-loop-set
invariant-loop-set l =
    let t = game_of_tree l.tree in
    let sets = sets_to t l.player l.set-index in
    (l.next ≡ sum (map t.actions sets)) × AreStartsOf t sets l.starts
