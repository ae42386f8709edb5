use Rattle.std.proofs.Common.{◌≡◌, ℕ, ◌<◌, ◌≤◌, ◌+◌, ◌⊎◌, pos, get_or}
use Rattle.frac128.specs.Fraction.{PartFits}
use Rattle.whole_rows.specs.Rows.{from_place}
use Rattle.whole_rows.specs.Pivots.{turned}
use Rattle.whole_rows.proofs.rows.write_turned.Given as goal

abbrev pub invariant-loop-place : goal.invariant-loop-place
invariant-loop-place l = record { kept : (k : ℕ) → (k < l.first) ⊎ (l.first + l.place ≤ k) → get_or l.spare k (pos 0) ≡ get_or l.initial.spare k (pos 0); written : (p : ℕ) → p < l.place → (from_place l.spare l.first p ≡ turned (from_place l.numbers l.first) l.column p) × PartFits (from_place l.spare l.first p) }
