use Rattle.std.proofs.Common.{◌≡◌, length, map}
use Rattle.std.specs.List.{range_with_len}
use Rattle.subgames.specs.CutParts.{cut_information_set}
use Rattle.subgames.proofs.cut_parts.made_sets.Given as goal

abbrev pub invariant-loop-members : goal.invariant-loop-members
invariant-loop-members l =
    l.made.items ≡ map (cut_information_set l.tree l.sets l.names) (range_with_len 0 (length l.yielded))
