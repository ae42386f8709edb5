-- A weight for each variable, and what is left of their sum when each basic variable's weight is taken away by its row
use Rattle.std.proofs.Common.{ℕ, pos, suc, ◌<◌, ◌≡◌, refl, sym, ap, ap₂, ◌∙◌, subst, [], ◌∷◌, arith}
use Rattle.std.proofs.lemmas.Int.{ints}
use Rattle.rational.proofs.Rules.{times_one, times_zero}
use Rattle.rational.proofs.InverseLemmas.{ne_zero_of_pos, inv_pos}
use Rattle.rational.specs.Rational.{ℚ, ◌+ℚ◌, ◌*ℚ◌, ◌-ℚ◌, neg_ℚ, inv_ℚ, zero_ℚ, one_ℚ, ◌<ℚ◌}
use Rattle.rational.specs.Sum.{sum_to}
use Rattle.rational.proofs.RationalRing.{rational_ring}
use Rattle.rational.proofs.Ring.{ring, combine, ◌times◌is◌, num, ◌:+◌, ◌:*◌, ◌:-◌, :neg, A, B, C, D, E}
use Rattle.rational.proofs.Linear.{linear, minus, at, lit, ◌⟨<⟩◌}
use Rattle.rational.proofs.Field.{pos-mul, *ℚ-inv}
use Rattle.rational.proofs.SumLemmas.{sum_to-same, sum_to-add, sum_to-scale, sum_to-exchange, sum_to-only}
use Rattle.linear_systems.specs.Tableau.{Tableau, left}
use Rattle.linear_systems.specs.Lex.{IsLexLess}
use Rattle.linear_systems.specs.Rows.{unit_at, coefficient, key, row}
use Rattle.linear_systems.specs.RowEquivalence.{IsCombination, IsRowEquivalent}
use Rattle.linear_systems.proofs.LexLemmas.{lex_same, lex_scale}
use Rattle.linear_systems.proofs.RowLemmas.{unit_self, unit_other, coefficient_own, coefficient_basic, coefficient_cell, coefficient_row, key_row, key_at, key_factor}
use Rattle.linear_systems.proofs.SpanLemmas.{spanned_same, spanned_mix, spanned_trans, spanned_is}
use Rattle.linear_systems.specs.LexFeasible.{IsLexFeasible, IsBasic, IsNeighbour}

-- the sum of the weighted values, less what the rows say of the weighted basic variables
abbrev pub reduced : ℕ → (ℕ → ℚ) → Tableau → (ℕ → ℚ) → ℚ → ℚ
reduced N w t x y = sum_to N (λ v. w v *ℚ x v) -ℚ sum_to t.rows (λ i. w (t.basic i) *ℚ row t x y i)

-- at a single variable
pub reduced_at : (N : ℕ) (w : ℕ → ℚ) (t : Tableau) (v : ℕ) → v < N → reduced N w t (unit_at v) zero_ℚ ≡ w v -ℚ sum_to t.rows (λ i. w (t.basic i) *ℚ coefficient t i v)
reduced_at N w t v h =
    ap₂ (λ a b. a -ℚ b) (sum_to-only N v _ h (λ u hu ne. times_zero (w u) _ (unit_other v u ne)) ∙ times_one (w v) _ (unit_self v)) (sum_to-same t.rows _ _ (λ i hi. ap (λ a. w (t.basic i) *ℚ a) (coefficient_row t i v)))

-- which is 0 where the variable is basic
pub reduced_basic : (N : ℕ) (w : ℕ → ℚ) (s t : Tableau) (k : ℕ) → IsRowEquivalent N s.rows s t → k < t.rows → reduced N w t (unit_at (t.basic k)) zero_ℚ ≡ zero_ℚ
reduced_basic N w s t k p hk =
    let rows : t.rows ≡ s.rows = p.rows in
    reduced_at N w t (t.basic k) (p.basic_below k (omega arith))
    ∙ ap (λ a. w (t.basic k) -ℚ a) (sum_to-only t.rows k _ hk (λ i hi ne. times_zero (w (t.basic i)) _ (coefficient_basic t i k p.proper hi hk ne)) ∙ times_one (w (t.basic k)) _ (coefficient_own t k p.proper hk))
    ∙ ring rational_ring (w (t.basic k) ∷ []) (A :- A) (num 0) refl

pub reduced_of : (N : ℕ) (w : ℕ → ℚ) (s u : Tableau) (v : ℕ) → IsRowEquivalent N s.rows s u → IsBasic u v → reduced N w u (unit_at v) zero_ℚ ≡ zero_ℚ
reduced_of N w s u v p b = subst (λ v. reduced N w u (unit_at v) zero_ℚ ≡ zero_ℚ) b.here (reduced_basic N w s u b.row p b.within)

-- of two reached tableaux, the difference is a combination of the rows of the first
gap : (N : ℕ) (w : ℕ → ℚ) (s t u : Tableau) → IsRowEquivalent N s.rows s t → IsRowEquivalent N s.rows s u → IsCombination s.rows t (λ x y. reduced N w u x y -ℚ reduced N w t x y)
gap N w s t u p q =
    let own : IsCombination s.rows t (λ x y. sum_to t.rows (λ i. w (t.basic i) *ℚ row t x y i)) = subst (λ m. IsCombination m t (λ x y. sum_to t.rows (λ i. w (t.basic i) *ℚ row t x y i))) p.rows (record { by = λ i. w (t.basic i); same = λ x y. refl }) in
    let other : IsCombination s.rows u (λ x y. sum_to u.rows (λ i. w (u.basic i) *ℚ row u x y i)) = subst (λ m. IsCombination m u (λ x y. sum_to u.rows (λ i. w (u.basic i) *ℚ row u x y i))) q.rows (record { by = λ i. w (u.basic i); same = λ x y. refl }) in
    spanned_same s.rows t (λ x y. sum_to t.rows (λ i. w (t.basic i) *ℚ row t x y i) +ℚ (neg_ℚ one_ℚ *ℚ sum_to u.rows (λ i. w (u.basic i) *ℚ row u x y i))) _ (λ x y. ring rational_ring (sum_to N (λ v. w v *ℚ x v) ∷ sum_to t.rows (λ i. w (t.basic i) *ℚ row t x y i) ∷ sum_to u.rows (λ i. w (u.basic i) *ℚ row u x y i) ∷ []) (B :+ :neg (num 1) :* C) ((A :- C) :- (A :- B)) refl)
    (spanned_mix s.rows t (λ x y. sum_to t.rows (λ i. w (t.basic i) *ℚ row t x y i)) (λ x y. sum_to u.rows (λ i. w (u.basic i) *ℚ row u x y i)) (neg_ℚ one_ℚ) own (spanned_trans s.rows t s _ p.back (spanned_trans s.rows s u _ q.from other)))

-- from a tableau to a neighbour it grows by a multiple of the row
pub gap_is : (N : ℕ) (w : ℕ → ℚ) (s t u : Tableau) (r c : ℕ) (x : ℕ → ℚ) (y : ℚ) → IsRowEquivalent N s.rows s t → IsRowEquivalent N s.rows s u → r < s.rows → IsNeighbour t r c u → reduced N w u x y -ℚ reduced N w t x y ≡ reduced N w u (unit_at (t.basic r)) zero_ℚ *ℚ row t x y r
gap_is N w s t u r c x y p q hr near =
    let rows : t.rows ≡ s.rows = p.rows in
    let at : (k : ℕ) → k < s.rows → reduced N w u (unit_at (t.basic k)) zero_ℚ -ℚ reduced N w t (unit_at (t.basic k)) zero_ℚ ≡ reduced N w u (unit_at (t.basic k)) zero_ℚ = λ k hk. ap (λ a. reduced N w u (unit_at (t.basic k)) zero_ℚ -ℚ a) (reduced_basic N w s t k p (omega arith)) ∙ ring rational_ring (reduced N w u (unit_at (t.basic k)) zero_ℚ ∷ []) (A :- num 0) A refl in
    spanned_is s.rows t (λ x y. reduced N w u x y -ℚ reduced N w t x y) p.proper (omega arith) (gap N w s t u p q) x y
    ∙ sum_to-only s.rows r _ hr (λ k hk ne. ap (λ a. a *ℚ row t x y k) (at k hk ∙ reduced_of N w s u (t.basic k) q (near.stayed k (omega arith) ne)) ∙ ring rational_ring (row t x y k ∷ []) (num 0 :* A) (num 0) refl)
    ∙ ap (λ a. a *ℚ row t x y r) (at r hr)

-- the key of what is left
abbrev pub reduced_key : ℕ → (ℕ → ℚ) → Tableau → Tableau → ℕ → ℚ
reduced_key N w s t p = reduced N w t (key_at s.basic p) (key_factor p)

-- it grows lexicographically where the column has a negative one
pub improves : (N : ℕ) (w : ℕ → ℚ) (s t u : Tableau) (r c : ℕ) → IsLexFeasible N s t → IsLexFeasible N s u → r < s.rows → c < s.width → zero_ℚ <ℚ t.cell r c → IsNeighbour t r c u → reduced N w t (unit_at (t.nonbasic c)) zero_ℚ <ℚ zero_ℚ → IsLexLess (suc s.rows) (reduced_key N w s t) (reduced_key N w s u)
improves N w s t u r c p q hr hc hpos near neg =
    let rows : t.rows ≡ s.rows = p.reached.rows in
    let width : t.width ≡ s.width = p.reached.width in
    let factor = reduced N w u (unit_at (t.basic r)) zero_ℚ in
    let e = t.nonbasic c in
    let cost = reduced N w t (unit_at e) zero_ℚ in
    let growth : reduced N w u (unit_at e) zero_ℚ -ℚ cost ≡ factor *ℚ row t (unit_at e) zero_ℚ r = gap_is N w s t u r c (unit_at e) zero_ℚ p.reached q.reached hr near in
    let entry : row t (unit_at e) zero_ℚ r ≡ t.cell r c = coefficient_row t r e ∙ coefficient_cell t r c p.reached.proper (omega arith) (omega arith) in
    let scale : zero_ℚ <ℚ (neg_ℚ cost *ℚ inv_ℚ (t.cell r c)) = pos-mul (neg_ℚ cost) (inv_ℚ (t.cell r c)) (linear (cost ∷ []) ((at 0 ⟨<⟩ lit (pos 0)) ∷ []) (lit (pos 0) ⟨<⟩ minus (at 0)) (λ one z u v. omega (arith, ints)) (neg, tt)) (inv_pos (t.cell r c) hpos) in
    let same : neg_ℚ cost *ℚ inv_ℚ (t.cell r c) ≡ factor = combine rational_ring (cost ∷ inv_ℚ (t.cell r c) ∷ factor ∷ t.cell r c ∷ reduced N w u (unit_at e) zero_ℚ ∷ []) ((B times (E :- A) is (C :* D)) ∷ (:neg B times E is num 0) ∷ (C times D :* B is num 1) ∷ []) (:neg A :* B) C refl (growth ∙ ap (λ a. factor *ℚ a) entry, (reduced_of N w s u e q.reached near.entered, (*ℚ-inv (t.cell r c) (ne_zero_of_pos (t.cell r c) hpos), tt))) in
    record { by = lex_same (suc s.rows) (λ k. factor *ℚ key s.basic t r k) _ (λ k hk. ap (λ a. factor *ℚ a) (sym (key_row s.basic t r k)) ∙ sym (gap_is N w s t u r c (key_at s.basic k) (key_factor k) p.reached q.reached hr near)) (lex_scale (suc s.rows) factor (key s.basic t r) (subst (λ a. zero_ℚ <ℚ a) same scale) (p.keys r hr)) }

-- ---- the left side of a row, variable by variable
pick : (N b : ℕ) (x : ℕ → ℚ) → b < N → sum_to N (λ v. x v *ℚ unit_at v b) ≡ x b
pick N b x h = sum_to-only N b _ h (λ v hv ne. times_zero (x v) _ (unit_other v b (λ e. ne (sym e)))) ∙ times_one (x b) _ (unit_self b)

pub left_expand : (N : ℕ) (t : Tableau) (x : ℕ → ℚ) (i : ℕ) → t.basic i < N → ((j : ℕ) → j < t.width → t.nonbasic j < N) → sum_to N (λ v. x v *ℚ coefficient t i v) ≡ left t x i
unfolding left
left_expand N t x i hb hn =
    sum_to-same N _ (λ v. (x v *ℚ unit_at v (t.basic i)) +ℚ sum_to t.width (λ j. t.cell i j *ℚ (x v *ℚ unit_at v (t.nonbasic j)))) (λ v hv. ring rational_ring (x v ∷ unit_at v (t.basic i) ∷ sum_to t.width (λ j. t.cell i j *ℚ unit_at v (t.nonbasic j)) ∷ []) (A :* (B :+ C)) (A :* B :+ A :* C) refl ∙ ap (λ a. (x v *ℚ unit_at v (t.basic i)) +ℚ a) (sym (sum_to-scale t.width (x v) (λ j. t.cell i j *ℚ unit_at v (t.nonbasic j))) ∙ sum_to-same t.width _ _ (λ j hj. ring rational_ring (x v ∷ t.cell i j ∷ unit_at v (t.nonbasic j) ∷ []) (A :* (B :* C)) (B :* (A :* C)) refl)))
    ∙ sum_to-add N (λ v. x v *ℚ unit_at v (t.basic i)) (λ v. sum_to t.width (λ j. t.cell i j *ℚ (x v *ℚ unit_at v (t.nonbasic j))))
    ∙ ap₂ (λ a b. a +ℚ b) (pick N (t.basic i) x hb) (sum_to-exchange N t.width (λ v j. t.cell i j *ℚ (x v *ℚ unit_at v (t.nonbasic j))) ∙ sum_to-same t.width _ _ (λ j hj. sum_to-scale N (t.cell i j) (λ v. x v *ℚ unit_at v (t.nonbasic j)) ∙ ap (λ a. t.cell i j *ℚ a) (pick N (t.nonbasic j) x (hn j hj))))

-- the sum over the variables of what is left at each, by a solution
pub costs_sum : (N : ℕ) (w : ℕ → ℚ) (s t : Tableau) (p : ℕ → ℚ) → IsRowEquivalent N s.rows s t → ((i : ℕ) → i < t.rows → left t p i ≡ t.right i) → sum_to N (λ v. p v *ℚ reduced N w t (unit_at v) zero_ℚ) ≡ sum_to N (λ v. w v *ℚ p v) -ℚ sum_to t.rows (λ i. w (t.basic i) *ℚ t.right i)
costs_sum N w s t p q solves =
    let rows : t.rows ≡ s.rows = q.rows in
    let width : t.width ≡ s.width = q.width in
    sum_to-same N _ (λ v. (w v *ℚ p v) +ℚ (neg_ℚ one_ℚ *ℚ sum_to t.rows (λ i. w (t.basic i) *ℚ (p v *ℚ coefficient t i v)))) (λ v hv. ap (λ a. p v *ℚ a) (reduced_at N w t v hv) ∙ ring rational_ring (p v ∷ w v ∷ sum_to t.rows (λ i. w (t.basic i) *ℚ coefficient t i v) ∷ []) (A :* (B :- C)) (B :* A :+ :neg (num 1) :* (A :* C)) refl ∙ ap (λ a. (w v *ℚ p v) +ℚ (neg_ℚ one_ℚ *ℚ a)) (sym (sum_to-scale t.rows (p v) (λ i. w (t.basic i) *ℚ coefficient t i v)) ∙ sum_to-same t.rows _ _ (λ i hi. ring rational_ring (p v ∷ w (t.basic i) ∷ coefficient t i v ∷ []) (A :* (B :* C)) (B :* (A :* C)) refl)))
    ∙ sum_to-add N (λ v. w v *ℚ p v) (λ v. neg_ℚ one_ℚ *ℚ sum_to t.rows (λ i. w (t.basic i) *ℚ (p v *ℚ coefficient t i v)))
    ∙ ap (λ a. sum_to N (λ v. w v *ℚ p v) +ℚ a) (sum_to-scale N (neg_ℚ one_ℚ) (λ v. sum_to t.rows (λ i. w (t.basic i) *ℚ (p v *ℚ coefficient t i v))) ∙ ap (λ a. neg_ℚ one_ℚ *ℚ a) (sum_to-exchange N t.rows (λ v i. w (t.basic i) *ℚ (p v *ℚ coefficient t i v)) ∙ sum_to-same t.rows _ _ (λ i hi. sum_to-scale N (w (t.basic i)) (λ v. p v *ℚ coefficient t i v) ∙ ap (λ a. w (t.basic i) *ℚ a) (left_expand N t p i (q.basic_below i (omega arith)) (λ j hj. q.nonbasic_below j (omega arith)) ∙ solves i hi))))
    ∙ ring rational_ring (sum_to N (λ v. w v *ℚ p v) ∷ sum_to t.rows (λ i. w (t.basic i) *ℚ t.right i) ∷ []) (A :+ :neg (num 1) :* B) (A :- B) refl
