use Rattle.std.proofs.Common.{◌≡◌, ◌+◌, map}
use Rattle.std.specs.List.{range_with_len}
use Rattle.game_core.specs.TreeGame.{game_of_tree}
use Rattle.sequence_form.specs.Sequences.{next_sequence}
use Rattle.sequence_form.proofs.sequences.first_sequences.Given as goal

abbrev pub invariant-loop-set : goal.invariant-loop-set
invariant-loop-set l = record {
  next_is : l.next ≡ next_sequence (game_of_tree l.tree) l.player l.set;
  are_firsts : l.firsts.items ≡ map (next_sequence (game_of_tree l.tree) l.player) (range_with_len 0 (l.set + 1));
}
