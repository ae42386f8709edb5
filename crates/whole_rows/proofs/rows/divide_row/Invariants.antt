use Rattle.std.proofs.Common.{◌≡◌, ℕ, ◌<◌, ◌≤◌, ◌+◌, ◌⊎◌, ◌*ℤ◌, pos, get_or}
use Rattle.frac128.specs.Fraction.{PartFits}
use Rattle.whole_rows.specs.Rows.{from_place}
use Rattle.whole_rows.proofs.rows.divide_row.Given as goal

abbrev pub invariant-loop-place : goal.invariant-loop-place
invariant-loop-place l = record { kept : (k : ℕ) → (k < l.own) ⊎ (l.own + l.place ≤ k) → get_or l.numbers k (pos 0) ≡ get_or l.initial.numbers k (pos 0); divided : (p : ℕ) → p < l.place → (from_place l.numbers l.own p *ℤ l.by ≡ from_place l.initial.numbers l.own p) × PartFits (from_place l.numbers l.own p) }
