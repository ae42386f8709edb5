-- The rows of a problem's matrix that stand against their sign.
use Rattle.std.proofs.Common.{ℕ, ◌<◌, ◌≤◌, ◌≡◌, ◌-◌, ltb, cond, false, sym, ap, ◌∙◌, arith, tests}
use Rattle.rational.specs.Rational.{ℚ, neg_ℚ}
use Rattle.lemke_pivot.specs.Problems.{Costs, matrix, rows_p, rows_p', rows_q, rows_q', rows_x, rows_y}
use Rattle.lemke_pivot.specs.Vectors.{joined}
use Rattle.lemke_pivot.proofs.ProblemBlockLemmas.{neg-rows_p, neg-rows_q}
use Rattle.lemke_pivot.proofs.VectorLemmas.{joined_low}

not_below : (i a : ℕ) → (i < a → ⊥) → ltb i a ≡ false
not_below i a h = grind (arith, tests)

past : (a : ℕ) (f g : ℕ → ℕ → ℚ) (i : ℕ) → (i < a → ⊥) → joined a f g i ≡ g (i - a)
past a f g i h = ap (λ b. cond b (f i) (g (i - a))) (not_below i a h)

module _ (s : Costs) (i : ℕ) (no_x : i < s.X → ⊥) (no_y : i - s.X < s.Y → ⊥) (no_p : i - s.X - s.Y < s.h → ⊥) where
  abbrev from_q : ℕ → ℕ → ℚ
  from_q = joined s.k (rows_q s) (rows_q' s)

  abbrev from_p' : ℕ → ℕ → ℚ
  from_p' = joined s.h (rows_p' s) from_q

  abbrev from_p : ℕ → ℕ → ℚ
  from_p = joined s.h (rows_p s) from_p'

  after_p : matrix s i ≡ from_p' (i - s.X - s.Y - s.h)
  unfolding matrix
  after_p = past s.X (rows_x s) (joined s.Y (rows_y s) from_p) i no_x ∙ past s.Y (rows_y s) from_p (i - s.X) no_y ∙ past s.h (rows_p s) from_p' (i - s.X - s.Y) no_p

  row_p' : i - s.X - s.Y - s.h < s.h → matrix s i ≡ rows_p' s (i - s.X - s.Y - s.h)
  row_p' l = after_p ∙ joined_low s.h (rows_p' s) from_q (i - s.X - s.Y - s.h) l

  row_q' : (i - s.X - s.Y - s.h < s.h → ⊥) → (i - s.X - s.Y - s.h - s.h < s.k → ⊥) → matrix s i ≡ rows_q' s (i - s.X - s.Y - s.h - s.h - s.k)
  row_q' no_p' no_q = after_p ∙ past s.h (rows_p' s) from_q (i - s.X - s.Y - s.h) no_p' ∙ past s.k (rows_q s) (rows_q' s) (i - s.X - s.Y - s.h - s.h) no_q

-- as the code reads the sizes
module _ (s : Costs) (x y h k i j : ℕ) (ex : x ≡ s.X) (ey : y ≡ s.Y) (eh : h ≡ s.h) (ek : k ≡ s.k) (no_x : x ≤ i) (no_y : y ≤ i - x) (no_p : h ≤ i - x - y) (v w : ℚ) (v_is : v ≡ neg_ℚ w) where
  past_x : i < s.X → ⊥
  past_x a = omega (arith, a, ex, no_x)

  past_y : i - s.X < s.Y → ⊥
  past_y a = omega (arith, a, ex, ey, no_y)

  past_p : i - s.X - s.Y < s.h → ⊥
  past_p a = omega (arith, a, ex, ey, eh, no_p)

  pub less_p : i - x - y - h < h → w ≡ rows_p s (i - x - y - h) j → v ≡ matrix s i j
  less_p l w_is =
      let place : i - x - y - h ≡ i - s.X - s.Y - s.h = omega (arith, ex, ey, eh) in
      v_is ∙ ap neg_ℚ (w_is ∙ ap (λ r. rows_p s r j) place) ∙ neg-rows_p s (i - s.X - s.Y - s.h) j ∙ sym (ap (λ (f : ℕ → ℚ). f j) (row_p' s i past_x past_y past_p (omega (arith, l, ex, ey, eh))))

  pub less_q : h ≤ i - x - y - h → k ≤ i - x - y - h - h → w ≡ rows_q s (i - x - y - h - h - k) j → v ≡ matrix s i j
  less_q no_p' no_q w_is =
      let place : i - x - y - h - h - k ≡ i - s.X - s.Y - s.h - s.h - s.k = omega (arith, ex, ey, eh, ek) in
      v_is ∙ ap neg_ℚ (w_is ∙ ap (λ r. rows_q s r j) place) ∙ neg-rows_q s (i - s.X - s.Y - s.h - s.h - s.k) j
      ∙ sym (ap (λ (f : ℕ → ℚ). f j) (row_q' s i past_x past_y past_p (λ a. omega (arith, a, ex, ey, eh, no_p')) (λ a. omega (arith, a, ex, ey, eh, ek, no_q))))
