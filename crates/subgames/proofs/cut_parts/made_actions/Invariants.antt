use Rattle.std.proofs.Common.{◌≡◌, map, take}
use Rattle.subgames.specs.CutParts.{without_name}
use Rattle.subgames.proofs.cut_parts.made_actions.Given as goal

abbrev pub invariant-loop-number : goal.invariant-loop-number
invariant-loop-number l = l.made.items ≡ map without_name (take l.number l.actions)
