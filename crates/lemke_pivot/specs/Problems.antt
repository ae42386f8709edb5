-- Linear complementarity problems w = b + M z, and the one of two players' sides and costs. Source:
-- Cottle, Pang and Stone 1992; Koller, Megiddo and von Stengel 1996.
use Rattle.std.specs.Prelude.{ℕ, suc, ◌<◌, ◌≡◌, ◌+◌}
use Rattle.rational.specs.Rational.{ℚ, ◌+ℚ◌, ◌*ℚ◌, neg_ℚ, zero_ℚ, ◌≤ℚ◌, ◌<ℚ◌}
use Rattle.sequence_forms.specs.Sides.{Side, sequences}
use Rattle.sequence_forms.specs.Matrices.{set_row, right_side, AreNotNegative}
use Rattle.sequence_data.specs.Sizes.{block_rows}
use Rattle.lemke_pivot.specs.Vectors.{dot, image, bilinear, zeros, joined}

-- a solution of w = b + M z with n rows
pub record IsSolution (n : ℕ) (M : ℕ → ℕ → ℚ) (b w z : ℕ → ℚ) : Type 0 where
  pub rows : (i : ℕ) → i < n → w i ≡ b i +ℚ image n M z i
  pub w_sign : AreNotNegative n w
  pub z_sign : AreNotNegative n z
  pub meets : (i : ℕ) → i < n → w i *ℚ z i ≡ zero_ℚ

-- A ray: a point (w, z, z0) and a direction (v, u, u0) of w = b + M z + d z0, where d is all ones.
-- Source: Lemke 1965.
pub record IsRay (n : ℕ) (M : ℕ → ℕ → ℚ) (b w z v u : ℕ → ℚ) (z0 u0 : ℚ) : Type 0 where
  pub point : (i : ℕ) → i < n → w i ≡ b i +ℚ image n M z i +ℚ z0
  pub way : (i : ℕ) → i < n → v i ≡ image n M u i +ℚ u0
  pub w_sign : AreNotNegative n w
  pub z_sign : AreNotNegative n z
  pub v_sign : AreNotNegative n v
  pub u_sign : AreNotNegative n u
  pub z0_above : zero_ℚ <ℚ z0
  pub u0_sign : zero_ℚ ≤ℚ u0
  pub u_some : ((i : ℕ) → i < n → u i ≡ zero_ℚ) → ⊥
  pub wz : (i : ℕ) → i < n → w i *ℚ z i ≡ zero_ℚ
  pub wu : (i : ℕ) → i < n → w i *ℚ u i ≡ zero_ℚ
  pub vz : (i : ℕ) → i < n → v i *ℚ z i ≡ zero_ℚ
  pub vu : (i : ℕ) → i < n → v i *ℚ u i ≡ zero_ℚ

-- What excludes a secondary ray: M is copositive, that is z M z is not negative where z is not; and
-- where u and M u are not negative and u M u is 0, M is skew at u and b u is not negative. Source:
-- Koller, Megiddo and von Stengel 1996; Cottle, Pang and Stone 1992.
pub record ExcludesRays (n : ℕ) (M : ℕ → ℕ → ℚ) (b : ℕ → ℚ) : Type 0 where
  pub square : (z : ℕ → ℚ) → AreNotNegative n z → zero_ℚ ≤ℚ bilinear n n M z z
  pub skew : (u : ℕ → ℚ) → AreNotNegative n u → AreNotNegative n (image n M u)
      → bilinear n n M u u ≡ zero_ℚ → (t : ℕ → ℚ)
      → bilinear n n M u t +ℚ bilinear n n M t u ≡ zero_ℚ
  pub side : (u : ℕ → ℚ) → AreNotNegative n u → AreNotNegative n (image n M u)
      → bilinear n n M u u ≡ zero_ℚ → zero_ℚ ≤ℚ dot n b u

-- ---- two players
-- Costs of X rows and Y columns, which are the players' sequences; E and e are the h rows of the
-- first player's plans, F and f the k rows of the second's.
pub record Costs : Type 0 where
  pub X : ℕ
  pub Y : ℕ
  pub h : ℕ
  pub k : ℕ
  pub one : ℕ → ℕ → ℚ
  pub two : ℕ → ℕ → ℚ
  pub E : ℕ → ℕ → ℚ
  pub F : ℕ → ℕ → ℚ
  pub e : ℕ → ℚ
  pub f : ℕ → ℚ

-- those of two sides
abbrev pub costs_of : Side → Side → (ℕ → ℕ → ℚ) → (ℕ → ℕ → ℚ) → Costs
costs_of rows columns one two =
    record {
      X = sequences rows;
      Y = sequences columns;
      h = suc rows.sets;
      k = suc columns.sets;
      one = one;
      two = two;
      E = set_row rows;
      F = set_row columns;
      e = right_side;
      f = right_side;
    }

-- The rows and the variables of the problem stand in six blocks: the plans x and y, prices P and P'
-- of the first side, and Q and Q' of the second.
abbrev pub size : Costs → ℕ
size s = block_rows s.X s.Y s.h s.k

-- six functions, each on the places of its block
abbrev pub in_blocks : {A : Type 0} → Costs → (ℕ → A) → (ℕ → A) → (ℕ → A) → (ℕ → A) → (ℕ → A)
    → (ℕ → A) → ℕ → A
in_blocks s x y p p' q q' =
    joined s.X x (joined s.Y y (joined s.h p (joined s.h p' (joined s.k q q'))))

-- the block of y in a vector, which begins with that of x
abbrev pub at_y : Costs → (ℕ → ℚ) → ℕ → ℚ
at_y s z j = z (s.X + j)

-- the block of P
abbrev pub at_p : Costs → (ℕ → ℚ) → ℕ → ℚ
at_p s z r = z (s.X + (s.Y + r))

-- the block of P'
abbrev pub at_p' : Costs → (ℕ → ℚ) → ℕ → ℚ
at_p' s z r = z (s.X + (s.Y + (s.h + r)))

-- the block of Q
abbrev pub at_q : Costs → (ℕ → ℚ) → ℕ → ℚ
at_q s z r = z (s.X + (s.Y + (s.h + (s.h + r))))

-- the block of Q'
abbrev pub at_q' : Costs → (ℕ → ℚ) → ℕ → ℚ
at_q' s z r = z (s.X + (s.Y + (s.h + (s.h + (s.k + r)))))

-- the rows of M in the block of x
abbrev pub rows_x : Costs → ℕ → ℕ → ℚ
rows_x s i = in_blocks s zeros (s.one i) (λ r. neg_ℚ (s.E r i)) (λ r. s.E r i) zeros zeros

-- those of y
abbrev pub rows_y : Costs → ℕ → ℕ → ℚ
rows_y s j = in_blocks s (λ i. s.two i j) zeros zeros zeros (λ r. neg_ℚ (s.F r j)) (λ r. s.F r j)

-- those of P
abbrev pub rows_p : Costs → ℕ → ℕ → ℚ
rows_p s r = in_blocks s (s.E r) zeros zeros zeros zeros zeros

-- those of P'
abbrev pub rows_p' : Costs → ℕ → ℕ → ℚ
rows_p' s r = in_blocks s (λ i. neg_ℚ (s.E r i)) zeros zeros zeros zeros zeros

-- those of Q
abbrev pub rows_q : Costs → ℕ → ℕ → ℚ
rows_q s r = in_blocks s zeros (s.F r) zeros zeros zeros zeros

-- those of Q'
abbrev pub rows_q' : Costs → ℕ → ℕ → ℚ
rows_q' s r = in_blocks s zeros (λ j. neg_ℚ (s.F r j)) zeros zeros zeros zeros

-- the matrix M, block by block
unfoldable pub matrix : Costs → ℕ → ℕ → ℚ
matrix s = in_blocks s (rows_x s) (rows_y s) (rows_p s) (rows_p' s) (rows_q s) (rows_q' s)

-- the right sides b, block by block
unfoldable pub right_sides : Costs → ℕ → ℚ
right_sides s = in_blocks s zeros zeros (λ r. neg_ℚ (s.e r)) s.e (λ r. neg_ℚ (s.f r)) s.f
