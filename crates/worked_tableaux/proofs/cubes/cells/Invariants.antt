use Rattle.std.proofs.Common.{◌≡◌, ◌+◌, ◌*◌, length}
use Rattle.std.specs.List.{All}
use Rattle.rational.specs.Rational.{zero_ℚ, ◌≤ℚ◌}
use Rattle.worked_tableaux.proofs.cubes.cells.Given as goal

abbrev pub invariant-loop-row : goal.invariant-loop-row
invariant-loop-row l =
    record {
      count : length l.cells.items ≡ l.row * (l.size + 1);
      above : All (λ q. zero_ℚ ≤ℚ q) l.cells.items;
    }

abbrev pub invariant-loop-column : goal.invariant-loop-column
invariant-loop-column l =
    record {
      count : length l.cells.items ≡ l.row * (l.size + 1) + l.column;
      above : All (λ q. zero_ℚ ≤ℚ q) l.cells.items;
    }
