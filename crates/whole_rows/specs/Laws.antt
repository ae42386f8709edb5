-- The law of rows, as a statement. It is proved by a function of src/lib.rt.
use Rattle.std.specs.Prelude.{ℕ, ℤ, ◌<◌, ◌≡◌}
use Rattle.whole_rows.specs.Rows.{IsRow, fraction}

-- Rows that stand for the same fractions are equal.
abbrev pub RowsAreDetermined : Type 0
RowsAreDetermined =
    (size : ℕ) (x y : ℕ → ℤ) → 0 < size → IsRow size x → IsRow size y
    → ((p : ℕ) → 0 < p → p < size → fraction x p ≡ fraction y p) → (p : ℕ) → p < size → x p ≡ y p
