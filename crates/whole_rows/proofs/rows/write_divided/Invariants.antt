use Rattle.std.proofs.Common.{◌≡◌, ℕ, ◌<◌, ◌≤◌, ◌+◌, ◌⊎◌, ◌*ℤ◌, pos, get_or}
use Rattle.frac128.specs.Fraction.{PartFits}
use Rattle.whole_rows.specs.Rows.{from_place}
use Rattle.whole_rows.specs.Shorts.{FitsShort}
use Rattle.whole_rows.specs.Pivots.{place_number}
use Rattle.whole_rows.proofs.rows.write_divided.Given as goal

abbrev pub invariant-loop-place : goal.invariant-loop-place
invariant-loop-place l = record { kept : (k : ℕ) → (k < l.pair.own) ⊎ (l.pair.own + l.place ≤ k) → get_or l.spare k (pos 0) ≡ get_or l.initial.spare k (pos 0); divided : (p : ℕ) → p < l.place → (from_place l.spare l.pair.own p *ℤ pos l.by.value ≡ place_number (from_place l.pair.numbers.now l.pair.own) (from_place l.pair.numbers.now l.pair.first) l.pair.column l.u l.v p) × PartFits (from_place l.spare l.pair.own p); fits : (p : ℕ) → p < l.place → FitsShort (from_place l.pair.numbers.now l.pair.own) (from_place l.pair.numbers.now l.pair.first) l.pair.column p }
