-- tableaux of one system with the same basic variables have the same rows
use Rattle.std.proofs.Common.{ℕ, ◌<◌, ◌≤◌, ◌≡◌, ◌≢◌, refl, sym, ap, ap₂, ◌∙◌, [], ◌∷◌, arith}
use Rattle.rational.proofs.SumLemmas.{sum_to-zeros, sum_to-only}
use Rattle.rational.specs.Rational.{ℚ, ◌+ℚ◌, ◌*ℚ◌, ◌-ℚ◌, neg_ℚ, zero_ℚ, one_ℚ}
use Rattle.linear_systems.specs.Tableau.{Tableau}
use Rattle.rational.proofs.RationalRing.{rational_ring}
use Rattle.rational.proofs.Ring.{◌times◌is◌, combine, ring, num, ◌:+◌, ◌:*◌, ◌:-◌, :neg, A, B, C}
use Rattle.linear_systems.specs.Rows.{unit_at, coefficient, key, row}
use Rattle.linear_systems.specs.RowEquivalence.{IsCombination, IsRowEquivalent, IsStart, HasSameBasis}
use Rattle.linear_systems.proofs.RowLemmas.{coefficient_row, coefficient_own, coefficient_basic, coefficient_cell, key_row, key_at, key_factor}
use Rattle.linear_systems.proofs.SpanLemmas.{spanned_is, spanned_trans, spanned_mix, spanned_same}

-- a basic variable of t has coefficient 0 in the rows of u that are not its own
elsewhere : (N m : ℕ) (s t u : Tableau) (i q : ℕ) → IsStart N m s → IsRowEquivalent N m s u → HasSameBasis m t u → i < s.rows → q < m → u.basic i ≢ t.basic q → coefficient u i (t.basic q) ≡ zero_ℚ
elsewhere N m s t u i q st p same hi hq ne =
    let rows : u.rows ≡ s.rows = p.rows in
    let rated : m ≤ s.rows = st.rated in
    let o : same.other q < m = same.within q hq in
    ap (coefficient u i) (same.basic q hq) ∙ coefficient_basic u i (same.other q) p.proper (omega arith) (omega arith) (λ e. ne (ap u.basic e ∙ sym (same.basic q hq)))

pub same_row : (N m : ℕ) (s t u : Tableau) (i k : ℕ) (x : ℕ → ℚ) (y : ℚ) → IsStart N m s → IsRowEquivalent N m s t → IsRowEquivalent N m s u → HasSameBasis m t u → i < m → k < m → u.basic i ≡ t.basic k → row u x y i ≡ row t x y k
same_row N m s t u i k x y st p q same hi hk e =
    let t_rows : t.rows ≡ s.rows = p.rows in
    let u_rows : u.rows ≡ s.rows = q.rows in
    let rated : m ≤ s.rows = st.rated in
    spanned_is m t (λ x y. row u x y i) p.proper (omega arith) (spanned_trans m t s (λ x y. row u x y i) p.back (q.from i hi)) x y
    ∙ sum_to-only m k _ hk (λ j hj ne. ap (λ v. v *ℚ row t x y j) (coefficient_row u i (t.basic j) ∙ elsewhere N m s t u i j st q same (omega arith) hj (λ f. ne (p.proper.basic_once j k (omega arith) (omega arith) (sym f ∙ e)))) ∙ ring rational_ring (row t x y j ∷ []) (num 0 :* A) (num 0) refl)
    ∙ ap (λ v. v *ℚ row t x y k) (coefficient_row u i (t.basic k) ∙ ap (coefficient u i) (sym e) ∙ coefficient_own u i q.proper (omega arith))
    ∙ ring rational_ring (row t x y k ∷ []) (num 1 :* A) A refl

-- rows that are not rated agree too
pub same_rest : (N m : ℕ) (s t u : Tableau) (k : ℕ) (x : ℕ → ℚ) (y : ℚ) → IsStart N m s → IsRowEquivalent N m s t → IsRowEquivalent N m s u → HasSameBasis m t u → m ≤ k → k < s.rows → row u x y k ≡ row t x y k
same_rest N m s t u k x y st p q same mk hk =
    let t_rows : t.rows ≡ s.rows = p.rows in
    let u_rows : u.rows ≡ s.rows = q.rows in
    let rated : m ≤ s.rows = st.rated in
    let gap : IsCombination m t (λ x y. row u x y k +ℚ (neg_ℚ one_ℚ *ℚ row t x y k)) = spanned_trans m t s _ p.back (spanned_same m s (λ x y. (row u x y k -ℚ row s x y k) +ℚ (neg_ℚ one_ℚ *ℚ (row t x y k -ℚ row s x y k))) _ (λ x y. ring rational_ring (row u x y k ∷ row s x y k ∷ row t x y k ∷ []) ((A :- B) :+ :neg (num 1) :* (C :- B)) (A :+ :neg (num 1) :* C) refl) (spanned_mix m s (λ x y. row u x y k -ℚ row s x y k) (λ x y. row t x y k -ℚ row s x y k) (neg_ℚ one_ℚ) (q.rest k mk hk) (p.rest k mk hk))) in
    let zero_gap : row u x y k +ℚ (neg_ℚ one_ℚ *ℚ row t x y k) ≡ zero_ℚ = spanned_is m t (λ x y. row u x y k +ℚ (neg_ℚ one_ℚ *ℚ row t x y k)) p.proper (omega arith) gap x y ∙ sum_to-zeros m _ (λ j hj. ap₂ (λ a b. (a +ℚ (neg_ℚ one_ℚ *ℚ b)) *ℚ row t x y j) (coefficient_row u k (t.basic j) ∙ elsewhere N m s t u k j st q same hk hj (λ f. (let ne : k ≢ j = omega arith in ne (p.proper.basic_once k j (omega arith) (omega arith) (p.stays k mk hk ∙ sym (q.stays k mk hk) ∙ f))))) (coefficient_row t k (t.basic j) ∙ coefficient_basic t k j p.proper (omega arith) (omega arith) (omega arith)) ∙ ring rational_ring (row t x y j ∷ []) ((num 0 :+ :neg (num 1) :* num 0) :* A) (num 0) refl) in
    combine rational_ring (row u x y k ∷ row t x y k ∷ []) ((num 1 times A :+ :neg (num 1) :* B is num 0) ∷ []) A B refl (zero_gap, tt)

-- cell by cell
pub same_cell : (N m : ℕ) (s t u : Tableau) (i k j l : ℕ) → IsStart N m s → IsRowEquivalent N m s t → IsRowEquivalent N m s u → HasSameBasis m t u → i < m → k < m → u.basic i ≡ t.basic k → j < s.width → l < s.width → u.nonbasic j ≡ t.nonbasic l → u.cell i j ≡ t.cell k l
same_cell N m s t u i k j l st p q same hi hk e hj hl f =
    let t_rows : t.rows ≡ s.rows = p.rows in
    let u_rows : u.rows ≡ s.rows = q.rows in
    let t_width : t.width ≡ s.width = p.width in
    let u_width : u.width ≡ s.width = q.width in
    let rated : m ≤ s.rows = st.rated in
    sym (coefficient_row u i (u.nonbasic j) ∙ coefficient_cell u i j q.proper (omega arith) (omega arith))
    ∙ same_row N m s t u i k (unit_at (u.nonbasic j)) zero_ℚ st p q same hi hk e
    ∙ coefficient_row t k (u.nonbasic j) ∙ ap (coefficient t k) f ∙ coefficient_cell t k l p.proper (omega arith) (omega arith)

pub same_key : (N m : ℕ) (s t u : Tableau) (b : ℕ → ℕ) (i k j : ℕ) → IsStart N m s → IsRowEquivalent N m s t → IsRowEquivalent N m s u → HasSameBasis m t u → i < m → k < m → u.basic i ≡ t.basic k → key b u i j ≡ key b t k j
same_key N m s t u b i k j st p q same hi hk e =
    sym (key_row b u i j) ∙ same_row N m s t u i k (key_at b j) (key_factor j) st p q same hi hk e ∙ key_row b t k j

pub same_right : (N m : ℕ) (s t u : Tableau) (i k : ℕ) → IsStart N m s → IsRowEquivalent N m s t → IsRowEquivalent N m s u → HasSameBasis m t u → i < m → k < m → u.basic i ≡ t.basic k → u.right i ≡ t.right k
same_right N m s t u i k st p q same hi hk e = same_key N m s t u s.basic i k 0 st p q same hi hk e

pub same_rest_key : (N m : ℕ) (s t u : Tableau) (b : ℕ → ℕ) (k j : ℕ) → IsStart N m s → IsRowEquivalent N m s t → IsRowEquivalent N m s u → HasSameBasis m t u → m ≤ k → k < s.rows → key b u k j ≡ key b t k j
same_rest_key N m s t u b k j st p q same mk hk =
    sym (key_row b u k j) ∙ same_rest N m s t u k (key_at b j) (key_factor j) st p q same mk hk ∙ key_row b t k j
