use Rattle.std.proofs.Common.{◌≡◌, ◌≤◌, length, map, take}
use Rattle.game_theory.specs.Lines.{lines_text}
use Rattle.game_core.specs.Limits.{most_text}
use Rattle.enummixed.specs.Order.{line_of}
use Rattle.enummixed.proofs.writing.write_lines.Given as goal

abbrev pub invariant-loop-pair : goal.invariant-loop-pair
invariant-loop-pair l = record {
  text : l.text.items ≡ lines_text (map (line_of (map (λ v. v.items) l.firsts) (map (λ v. v.items) l.seconds)) (take l.pair-index l.pairs));
  few : length l.text.items ≤ most_text;
}
