use Rattle.std.proofs.Common.{◌≡◌, ℕ, ◌<◌, ◌≤◌, ◌+◌, ◌⊎◌, pos, get_or, All}
use Rattle.frac128.specs.Fraction.{PartFits}
use Rattle.whole_rows.specs.Rows.{from_place}
use Rattle.frac128.specs.Steps.{StepFits}
use Rattle.whole_rows.specs.Pivots.{steps_to, place_number}
use Rattle.whole_rows.proofs.rows.write_combination.Given as goal

abbrev pub invariant-loop-place : goal.invariant-loop-place
invariant-loop-place l = record { kept : (k : ℕ) → (k < l.pair.own) ⊎ (l.pair.own + l.place ≤ k) → get_or l.spare k (pos 0) ≡ get_or l.initial.spare k (pos 0); written : (p : ℕ) → p < l.place → (from_place l.spare l.pair.own p ≡ place_number (from_place l.pair.numbers.now l.pair.own) (from_place l.pair.numbers.now l.pair.first) l.pair.column l.u l.v p) × PartFits (from_place l.spare l.pair.own p); fits : All StepFits (steps_to (from_place l.pair.numbers.now l.pair.own) (from_place l.pair.numbers.now l.pair.first) l.pair.column l.u l.v l.place) }
