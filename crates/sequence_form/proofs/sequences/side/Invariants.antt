use Rattle.std.proofs.Common.{◌≡◌, map, take}
use Rattle.game_core.specs.TreeGame.{game_of_tree}
use Rattle.sequence_form.specs.Sequences.{own_set_row}
use Rattle.sequence_form.proofs.sequences.side.Given as goal

-- the rows of the own sets so far
abbrev pub invariant-loop-set : goal.invariant-loop-set
invariant-loop-set l = l.rows.items ≡ map (own_set_row (game_of_tree l.tree) l.player) (take l.set-index l.set-items)
