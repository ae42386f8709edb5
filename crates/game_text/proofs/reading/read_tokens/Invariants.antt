use Rattle.std.proofs.Common.{◌-◌, ◌≤◌, length}
use Rattle.game_text.specs.Tokens.{AreTokensBefore, FirstIs, IsBlank}
use Rattle.game_core.specs.Spacing.{AreSpaced}
use Rattle.game_text.proofs.reading.read_tokens.Given as goal

abbrev pub invariant-loop-rest : goal.invariant-loop-rest
invariant-loop-rest l = record {
  tokens : AreTokensBefore 0 l.bytes l.list.items l.rest;
  are_spaced : AreSpaced 0 (length l.bytes - length l.rest) l.list.items;
  within : length l.rest ≤ length l.bytes;
  no_blank : ¬ (FirstIs IsBlank l.rest);
}

abbrev pub decreases-loop-rest : goal.decreases-loop-rest
decreases-loop-rest l = length l.rest
