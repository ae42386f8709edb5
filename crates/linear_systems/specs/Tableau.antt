-- Tableaux: row i says that its basic variable and the sum of its cells times the nonbasic
-- variables are its right side (the condensed tableau: Tucker 1963)
use Rattle.std.specs.Prelude.{ℕ, ◌<◌, ◌≡◌, eqb, cond}
use Rattle.rational.specs.Rational.{ℚ, ◌+ℚ◌, ◌*ℚ◌, ◌-ℚ◌, neg_ℚ, inv_ℚ}
use Rattle.rational.specs.Sum.{sum_to, change}

-- a tableau: how many rows and columns, their variables, cells and right sides
pub record Tableau : Type 0 where
  pub rows : ℕ
  pub width : ℕ
  pub basic : ℕ → ℕ
  pub nonbasic : ℕ → ℕ
  pub cell : ℕ → ℕ → ℚ
  pub right : ℕ → ℚ

-- the left side of row i, where variable v has the value x v
unfoldable pub left : Tableau → (ℕ → ℚ) → ℕ → ℚ
left t x i = x (t.basic i) +ℚ sum_to t.width (λ j. t.cell i j *ℚ x (t.nonbasic j))

-- the values x solve each row of t
abbrev pub Solves : Tableau → (ℕ → ℚ) → Type 0
Solves t x = (i : ℕ) → i < t.rows → left t x i ≡ t.right i

-- the pivot on row r and column c
abbrev pub pivot : Tableau → ℕ → ℕ → Tableau
pivot t r c =
    let q = inv_ℚ (t.cell r c) in
    record {
      rows = t.rows;
      width = t.width;
      basic = λ i. cond (eqb i r) (t.nonbasic c) (t.basic i);
      nonbasic = λ j. cond (eqb j c) (t.basic r) (t.nonbasic j);
      cell = λ i.
          cond (eqb i r) (change (λ j. t.cell r j *ℚ q) c q)
          (change (λ j. t.cell i j -ℚ (t.cell i c *ℚ (t.cell r j *ℚ q))) c
          (neg_ℚ (t.cell i c *ℚ q)));
      right = λ i. cond (eqb i r) (t.right r *ℚ q) (t.right i -ℚ (t.cell i c *ℚ (t.right r *ℚ q)));
    }
