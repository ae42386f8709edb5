use Rattle.std.proofs.Common.{◌≡◌}
use Rattle.game_core.specs.TreeGame.{game_of_tree}
use Rattle.sequence_form.specs.Sequences.{next_sequence}
use Rattle.sequence_form.proofs.counts.sequence_count.Given as goal

abbrev pub invariant-loop-set : goal.invariant-loop-set
invariant-loop-set l = l.count ≡ next_sequence (game_of_tree l.tree) l.player l.set
