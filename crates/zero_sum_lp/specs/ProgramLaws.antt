-- The laws of the linear program of two players' plans. Each is proved by a function of
-- src/laws.rt.
use Rattle.std.specs.Prelude.{ℕ, ◌<◌}
use Rattle.rational.specs.Rational.{ℚ, ◌+ℚ◌, zero_ℚ, ◌≤ℚ◌}
use Rattle.linear_systems.specs.Tableau.{Tableau}
use Rattle.sequence_forms.specs.Forms.{SequenceForm}
use Rattle.sequence_forms.specs.Prices.{gains, IsValueProof}
use Rattle.sequence_forms.specs.Sides.{Side, sequences, IsOrderedSide}
use Rattle.zero_sum_lp.specs.Paths.{LinearProgram, IsFeasibleAndBounded, IsAfter, IsOptimal}
use Rattle.zero_sum_lp.specs.Plans.{IsRaised, IsTrimmed}
use Rattle.zero_sum_lp.specs.Programs.{IsProgramOf, price_one, price_two, raw_one, raw_two}

-- Its start is feasible and its objective is bounded, so that its path ends at an optimum.
abbrev pub ProgramsAreFeasibleAndBounded : Type 0
ProgramsAreFeasibleAndBounded =
    (rows columns : Side) (gain : ℕ → ℕ → ℚ) (g : LinearProgram) → IsOrderedSide rows
    → IsOrderedSide columns → IsProgramOf rows columns gain g → IsFeasibleAndBounded g

-- At an optimum of its path the plans made of the raw weights, with the prices, prove their value.
abbrev pub OptimaProveTheValue : Type 0
OptimaProveTheValue =
    (f : SequenceForm) (least : ℚ) (g : LinearProgram) (n : ℕ) (t : Tableau) (x y : ℕ → ℚ)
    → IsOrderedSide f.rows → IsOrderedSide f.columns
    → ((r q : ℕ) → r < sequences f.rows → q < sequences f.columns → zero_ℚ ≤ℚ gains f least r q)
    → IsProgramOf f.rows f.columns (gains f least) g → IsAfter g n t → IsOptimal g.rated t
    → IsRaised f.rows (raw_one f.rows f.columns t) x
    → IsTrimmed f.columns (raw_two f.rows f.columns t) y
    → IsValueProof f least x y (price_one f.rows f.columns t) (price_two f.rows f.columns t)
    (price_two f.rows f.columns t 0 +ℚ least)
