use Rattle.std.proofs.Common.{ℕ, ◌+◌, ◌*◌, ◌<◌, ◌≡◌, [], ◌∷◌, length, get_or}
use Rattle.rational.specs.Rational.{zero_ℚ}
use Rattle.extreme_equilibria.specs.KeptTable.{kept_table}
use Rattle.game_core.specs.Table.{game_of}
use Rattle.kept_strategies.proofs.kept.payoffs_at.Given as goal

abbrev pub invariant-loop-column : goal.invariant-loop-column
invariant-loop-column l = record {
  count : length l.payoffs.items ≡ l.column-index * length l.first * 2;
  cells : (i k : ℕ) → i < 2 → k < l.column-index * length l.first → get_or l.payoffs.items (k * 2 + i) zero_ℚ ≡ (kept_table (game_of l.table) (l.first ∷ l.second ∷ [])).pays i k;
}

abbrev pub invariant-loop-row : goal.invariant-loop-row
invariant-loop-row l = record {
  count : length l.payoffs.items ≡ (l.column-index * length l.first + l.row-index) * 2;
  cells : (i k : ℕ) → i < 2 → k < l.column-index * length l.first + l.row-index → get_or l.payoffs.items (k * 2 + i) zero_ℚ ≡ (kept_table (game_of l.table) (l.first ∷ l.second ∷ [])).pays i k;
}
