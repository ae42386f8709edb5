use Rattle.std.proofs.Common.{◌≡◌, map}
use Rattle.std.specs.List.{range_with_len}
use Rattle.sequence_form.specs.Forms.{profile_leaf}
use Rattle.sequence_form.proofs.table.profiles.Given as goal

abbrev pub invariant-loop-number : goal.invariant-loop-number
invariant-loop-number l = l.leaves.items ≡ map (profile_leaf l.table) (range_with_len 0 l.number)
