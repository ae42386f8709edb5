-- What a pivot makes of the fractions of a row.
use Rattle.std.specs.Prelude.{ℕ, ℤ, ◌<◌, ◌≡◌, ◌≢◌}
use Rattle.rational.specs.Rational.{◌*ℚ◌, ◌-ℚ◌, neg_ℚ, inv_ℚ}
use Rattle.whole_rows.specs.Rows.{fraction, IsRow}

-- new is a row that stands for what the pivot makes of another row; b is the pivot's row and c the
-- place of its column
pub record IsPivotedRow (size : ℕ) (row b : ℕ → ℤ) (c : ℕ) (new : ℕ → ℤ) : Type 0 where
  pub is_row : IsRow size new
  pub at_column : fraction new c ≡ neg_ℚ (fraction row c *ℚ inv_ℚ (fraction b c))
  pub elsewhere : (p : ℕ) → 0 < p → p < size → p ≢ c
      → fraction new p
      ≡ fraction row p -ℚ (fraction row c *ℚ (fraction b p *ℚ inv_ℚ (fraction b c)))

-- new is a row that stands for what the pivot makes of its own row
pub record IsPivotRow (size : ℕ) (b : ℕ → ℤ) (c : ℕ) (new : ℕ → ℤ) : Type 0 where
  pub is_row : IsRow size new
  pub at_column : fraction new c ≡ inv_ℚ (fraction b c)
  pub elsewhere : (p : ℕ) → 0 < p → p < size → p ≢ c
      → fraction new p ≡ fraction b p *ℚ inv_ℚ (fraction b c)

-- new is the row divided by the greatest common divisor of its numbers
pub record IsPrimitivePart (size : ℕ) (row new : ℕ → ℤ) : Type 0 where
  pub is_row : IsRow size new
  pub same : (p : ℕ) → p < size → fraction new p ≡ fraction row p
