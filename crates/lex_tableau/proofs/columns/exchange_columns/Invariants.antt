use Rattle.std.proofs.Common.{ℕ, ◌≡◌, ◌<◌, ◌≤◌, length, get_or, slice_set}
use Rattle.lex_tableau.specs.Columns.{IsColumnOf}
use Rattle.lex_tableau.proofs.columns.exchange_columns.Given as goal

abbrev pub invariant-loop-place : goal.invariant-loop-place
invariant-loop-place l =
    record {
      one_for_each : length l.columns ≡ length l.starts;
      written : (q : ℕ) → q < l.place → IsColumnOf (slice_set l.nonbasics l.col (get_or l.basics l.row 0)) (get_or l.starts q 0) (get_or l.columns q 0);
      others : (q : ℕ) → l.place ≤ q → q < length l.starts → IsColumnOf l.nonbasics (get_or l.starts q 0) (get_or l.columns q 0);
    }
