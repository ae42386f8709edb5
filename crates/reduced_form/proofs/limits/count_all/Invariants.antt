use Rattle.game_core.specs.TreeGame.{game_of_tree}
use Rattle.reduced_form.proofs.FormCountLemmas.{AreCountedSoFar}
use Rattle.reduced_form.proofs.limits.count_all.Given as goal

abbrev pub invariant-loop-player : goal.invariant-loop-player
invariant-loop-player l = AreCountedSoFar (game_of_tree l.decisions) l.player l.payoffs l.counts.items
