use Rattle.std.proofs.Common.{◌≡◌, ◌≤◌, length}
use Rattle.game_text.specs.Reading.{from_closing_quote}
use Rattle.game_text.proofs.text.closing.Given as goal

abbrev pub invariant-loop-after : goal.invariant-loop-after
invariant-loop-after l = (from_closing_quote l.rest ≡ from_closing_quote l.bytes) × (length l.rest ≤ length l.bytes)

abbrev pub decreases-loop-after : goal.decreases-loop-after
decreases-loop-after l = length l.rest
