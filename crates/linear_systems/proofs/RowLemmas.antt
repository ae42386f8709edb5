-- The rows of a tableau as functions of all variables, and what a pivot makes of them
use Rattle.std.proofs.Common.{ℕ, suc, zero, ◌<◌, ◌≡◌, ◌≢◌, refl, sym, ap, ap₂, ◌∙◌, [], ◌∷◌, inl, inr}
use Rattle.std.proofs.lemmas.Bool.{cases_eq}
use Rattle.rational.proofs.Field.{le_of_lt, le_refl}
use Rattle.rational.proofs.Rules.{times_one, times_zero}
use Rattle.rational.specs.Rational.{ℚ, ◌+ℚ◌, ◌*ℚ◌, ◌-ℚ◌, inv_ℚ, zero_ℚ, one_ℚ, ◌≤ℚ◌}
use Rattle.rational.specs.Sum.{sum_to}
use Rattle.linear_systems.specs.Tableau.{Tableau, left, pivot}
use Rattle.rational.proofs.RationalRing.{rational_ring}
use Rattle.rational.proofs.Ring.{ring, num, ◌:+◌, ◌:*◌, ◌:-◌, A, B, C, D, E, F, G}
use Rattle.rational.proofs.SumLemmas.{sum_to-same, sum_to-zeros, sum_to-only}
use Rattle.rational.proofs.InverseLemmas.{zero_lt_one}
use Rattle.linear_systems.proofs.PivotLemmas.{eqb_same, eqb_apart, pivot_row, other_row, right_same, right_other}
use Rattle.linear_systems.specs.Rows.{unit_at, coefficient, key, row, HasDistinctVariables, Alike}

pub row_same : (t : Tableau) (x : ℕ → ℚ) (y : ℚ) (r c : ℕ) → c < t.width → t.cell r c ≢ zero_ℚ → row (pivot t r c) x y r ≡ row t x y r *ℚ inv_ℚ (t.cell r c)
row_same t x y r c h ne =
    ap₂ (λ a b. a +ℚ (y *ℚ b)) (pivot_row t x r c h ne) (right_same t r c) ∙ ring rational_ring (left t x r ∷ inv_ℚ (t.cell r c) ∷ y ∷ t.right r ∷ []) (A :* B :+ C :* (D :* B)) ((A :+ C :* D) :* B) refl

pub row_other : (t : Tableau) (x : ℕ → ℚ) (y : ℚ) (r c i : ℕ) → i ≢ r → c < t.width → t.cell r c ≢ zero_ℚ → row (pivot t r c) x y i ≡ row t x y i -ℚ (t.cell i c *ℚ (row t x y r *ℚ inv_ℚ (t.cell r c)))
row_other t x y r c i ir h ne =
    ap₂ (λ a b. a +ℚ (y *ℚ b)) (other_row t x r c i ir h ne) (right_other t r c i ir)
    ∙ ring rational_ring (left t x i ∷ t.cell i c ∷ left t x r ∷ inv_ℚ (t.cell r c) ∷ y ∷ t.right i ∷ t.right r ∷ []) (A :- B :* (C :* D) :+ E :* (F :- B :* (G :* D))) (A :+ E :* F :- B :* ((C :+ E :* G) :* D)) refl

pub row_alike : (t u : Tableau) (x : ℕ → ℚ) (y : ℚ) (i : ℕ) → Alike t u → i < t.rows → row t x y i ≡ row u x y i
unfolding left
row_alike t u x y i a h =
    ap₂ (λ p q. p +ℚ (y *ℚ q)) (ap₂ (λ p q. p +ℚ q) (ap x (a.basic i h)) (sum_to-same t.width _ _ (λ j k. ap₂ (λ p q. p *ℚ q) (a.cell i j h k) (ap x (a.nonbasic j k))) ∙ ap (λ n. sum_to n (λ j. u.cell i j *ℚ x (u.nonbasic j))) a.width)) (a.right i h)

-- ---- sums with one entry that counts
pub unit_self : (v : ℕ) → unit_at v v ≡ one_ℚ
unit_self v = rw (eqb_same v)

pub unit_other : (v w : ℕ) → w ≢ v → unit_at v w ≡ zero_ℚ
unit_other v w h = rw (eqb_apart w v h)

-- a unit has no negative entry
pub unit_nonneg : (v w : ℕ) → zero_ℚ ≤ℚ unit_at v w
unit_nonneg v w = elim (cases_eq w v) [ inl e ↦ rw (e, unit_self v) (le_of_lt zero_ℚ one_ℚ zero_lt_one) | inr n ↦ rw (unit_other v w n) (le_refl zero_ℚ) ]

-- ---- the coefficient of a variable
pub coefficient_own : (t : Tableau) (i : ℕ) → HasDistinctVariables t → i < t.rows → coefficient t i (t.basic i) ≡ one_ℚ
unfolding left
coefficient_own t i p h =
    ap₂ (λ x y. x +ℚ y) (unit_self (t.basic i)) (sum_to-zeros t.width _ (λ j k. times_zero (t.cell i j) _ (unit_other (t.basic i) (t.nonbasic j) (λ e. p.apart i j h k (sym e)))))
    ∙ ring rational_ring [] (num 1 :+ num 0) (num 1) refl

pub coefficient_basic : (t : Tableau) (i k : ℕ) → HasDistinctVariables t → i < t.rows → k < t.rows → i ≢ k → coefficient t i (t.basic k) ≡ zero_ℚ
unfolding left
coefficient_basic t i k p hi hk ne =
    ap₂ (λ x y. x +ℚ y) (unit_other (t.basic k) (t.basic i) (λ e. ne (p.basic_once i k hi hk e))) (sum_to-zeros t.width _ (λ j l. times_zero (t.cell i j) _ (unit_other (t.basic k) (t.nonbasic j) (λ e. p.apart k j hk l (sym e)))))
    ∙ ring rational_ring [] (num 0 :+ num 0) (num 0) refl

pub coefficient_cell : (t : Tableau) (i j : ℕ) → HasDistinctVariables t → i < t.rows → j < t.width → coefficient t i (t.nonbasic j) ≡ t.cell i j
unfolding left
coefficient_cell t i j p hi hj =
    ap₂ (λ x y. x +ℚ y) (unit_other (t.nonbasic j) (t.basic i) (p.apart i j hi hj)) (sum_to-only t.width j _ hj (λ k l ne. times_zero (t.cell i k) _ (unit_other (t.nonbasic j) (t.nonbasic k) (λ e. ne (p.nonbasic_once k j l hj e)))) ∙ times_one (t.cell i j) _ (unit_self (t.nonbasic j)))
    ∙ ring rational_ring (t.cell i j ∷ []) (num 0 :+ A) A refl

-- a variable that the tableau does not have
pub coefficient_absent : (t : Tableau) (i v : ℕ) → t.basic i ≢ v → ((j : ℕ) → j < t.width → t.nonbasic j ≢ v) → coefficient t i v ≡ zero_ℚ
unfolding left
coefficient_absent t i v h g =
    ap₂ (λ x y. x +ℚ y) (unit_other v (t.basic i) h) (sum_to-zeros t.width _ (λ j k. times_zero (t.cell i j) _ (unit_other v (t.nonbasic j) (g j k)))) ∙ ring rational_ring [] (num 0 :+ num 0) (num 0) refl

-- ---- the key as values of the row
abbrev pub key_at : (ℕ → ℕ) → ℕ → ℕ → ℚ
key_at b zero v = zero_ℚ
key_at b (suc p) v = unit_at (b p) v

abbrev pub key_factor : ℕ → ℚ
key_factor zero = one_ℚ
key_factor (suc p) = zero_ℚ

pub left_zero : (t : Tableau) (i : ℕ) → left t (λ v. zero_ℚ) i ≡ zero_ℚ
unfolding left
left_zero t i =
    ap (λ x. zero_ℚ +ℚ x) (sum_to-zeros t.width _ (λ j k. times_zero (t.cell i j) zero_ℚ refl)) ∙ ring rational_ring [] (num 0 :+ num 0) (num 0) refl

pub key_row : (b : ℕ → ℕ) (t : Tableau) (i p : ℕ) → row t (key_at b p) (key_factor p) i ≡ key b t i p
key_row b t i zero = ap (λ x. x +ℚ (one_ℚ *ℚ t.right i)) (left_zero t i) ∙ ring rational_ring (t.right i ∷ []) (num 0 :+ num 1 :* A) A refl
key_row b t i (suc p) = ring rational_ring (coefficient t i (b p) ∷ t.right i ∷ []) (A :+ num 0 :* B) A refl

pub coefficient_row : (t : Tableau) (i v : ℕ) → row t (unit_at v) zero_ℚ i ≡ coefficient t i v
coefficient_row t i v = ring rational_ring (coefficient t i v ∷ t.right i ∷ []) (A :+ num 0 :* B) A refl

-- the key after a pivot
pub key_same : (b : ℕ → ℕ) (t : Tableau) (r c p : ℕ) → c < t.width → t.cell r c ≢ zero_ℚ → key b (pivot t r c) r p ≡ key b t r p *ℚ inv_ℚ (t.cell r c)
key_same b t r c p h ne =
    sym (key_row b (pivot t r c) r p) ∙ row_same t (key_at b p) (key_factor p) r c h ne ∙ ap (λ x. x *ℚ inv_ℚ (t.cell r c)) (key_row b t r p)

pub key_other : (b : ℕ → ℕ) (t : Tableau) (r c i p : ℕ) → i ≢ r → c < t.width → t.cell r c ≢ zero_ℚ → key b (pivot t r c) i p ≡ key b t i p -ℚ (t.cell i c *ℚ (key b t r p *ℚ inv_ℚ (t.cell r c)))
key_other b t r c i p ir h ne =
    sym (key_row b (pivot t r c) i p) ∙ row_other t (key_at b p) (key_factor p) r c i ir h ne ∙ ap₂ (λ x y. x -ℚ (t.cell i c *ℚ (y *ℚ inv_ℚ (t.cell r c)))) (key_row b t i p) (key_row b t r p)

pub key_alike : (b : ℕ → ℕ) (t u : Tableau) (i p : ℕ) → Alike t u → i < t.rows → key b t i p ≡ key b u i p
key_alike b t u i p a h = sym (key_row b t i p) ∙ row_alike t u (key_at b p) (key_factor p) i a h ∙ key_row b u i p
