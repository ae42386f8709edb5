use Rattle.std.proofs.Common.{◌≡◌, ℕ, ◌<◌, ◌≤◌, ◌+◌, ◌⊎◌, pos, get_or}
use Rattle.whole_rows.specs.Rows.{from_place}
use Rattle.whole_rows.proofs.rows.copy_row.Given as goal

abbrev pub invariant-loop-place : goal.invariant-loop-place
invariant-loop-place l = record { kept : (k : ℕ) → (k < l.own) ⊎ (l.own + l.place ≤ k) → get_or l.spare k (pos 0) ≡ get_or l.initial.spare k (pos 0); written : (p : ℕ) → p < l.place → from_place l.spare l.own p ≡ from_place l.numbers l.own p }
