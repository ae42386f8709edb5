use Rattle.std.proofs.Common.{◌≡◌, ◌++◌, length}
use Rattle.game_text.specs.Reading.{spelled}
use Rattle.game_text.proofs.text.text.Given as goal

abbrev pub invariant-loop-byte : goal.invariant-loop-byte
invariant-loop-byte l = l.text.items ++ spelled l.rest ≡ spelled l.bytes

abbrev pub decreases-loop-byte : goal.decreases-loop-byte
decreases-loop-byte l = length l.rest
