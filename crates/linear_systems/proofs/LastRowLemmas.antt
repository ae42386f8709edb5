-- A row that is not rated is the start's, and the rated rows of the start by its coefficients of their basic variables.
use Rattle.std.proofs.Common.{ℕ, ◌<◌, ◌≤◌, ◌≡◌, refl, ap, ap₂, ◌∙◌, [], ◌∷◌, arith}
use Rattle.rational.specs.Rational.{ℚ, ◌+ℚ◌, ◌*ℚ◌, ◌-ℚ◌}
use Rattle.rational.specs.Sum.{sum_to}
use Rattle.linear_systems.specs.Tableau.{Tableau}
use Rattle.rational.proofs.RationalRing.{rational_ring}
use Rattle.rational.proofs.Ring.{◌times◌is◌, combine, ring, num, ◌:+◌, ◌:-◌}
use Rattle.rational.proofs.Ring as R
use Rattle.rational.proofs.SumLemmas.{sum_to-same}
use Rattle.linear_systems.specs.Rows.{coefficient, row}
use Rattle.linear_systems.specs.RowEquivalence.{IsRowEquivalent, IsStart}
use Rattle.linear_systems.proofs.RowLemmas.{coefficient_row, coefficient_basic}
use Rattle.linear_systems.proofs.SpanLemmas.{spanned_is}

pub last_row : (N m : ℕ) (s t : Tableau) (l : ℕ) (x : ℕ → ℚ) (y : ℚ) → IsStart N m s → m ≤ l → l < s.rows → IsRowEquivalent N m s t → row t x y l ≡ row s x y l +ℚ sum_to m (λ q. coefficient t l (s.basic q) *ℚ row s x y q)
last_row N m s t l x y st ml hl p =
    let rated : m ≤ s.rows = st.rated in
    let same : row t x y l -ℚ row s x y l ≡ sum_to m (λ q. coefficient t l (s.basic q) *ℚ row s x y q) =
    spanned_is m s (λ x y. row t x y l -ℚ row s x y l) st.proper st.rated (p.rest l ml hl) x y
    ∙ sum_to-same m _ _ (λ q hq. ap (λ u. u *ℚ row s x y q) (ap₂ (λ a b. a -ℚ b) (coefficient_row t l (s.basic q)) (coefficient_row s l (s.basic q) ∙ coefficient_basic s l q st.proper hl (omega arith) (omega arith)) ∙ ring rational_ring (coefficient t l (s.basic q) ∷ []) (R.A :- num 0) R.A refl)) in
    combine rational_ring (row t x y l ∷ row s x y l ∷ sum_to m (λ q. coefficient t l (s.basic q) *ℚ row s x y q) ∷ []) ((num 1 times R.A :- R.B is R.C) ∷ []) R.A (R.B :+ R.C) refl (same, tt)
