-- what pivots keep
use Rattle.std.proofs.Common.{ℕ, ◌<◌, ◌≤◌, ◌≡◌, ◌≢◌, refl, sym, ap, ◌∙◌, subst, [], ◌∷◌, arith, ◌⊎◌, inl, inr}
use Rattle.std.proofs.lemmas.Bool.{cases_eq}
use Rattle.rational.specs.Rational.{◌+ℚ◌, ◌*ℚ◌, ◌-ℚ◌, neg_ℚ, inv_ℚ, zero_ℚ}
use Rattle.linear_systems.specs.Tableau.{Tableau, pivot}
use Rattle.rational.proofs.RationalRing.{rational_ring}
use Rattle.rational.proofs.Ring.{◌times◌is◌, combine, ring, num, ◌:+◌, ◌:*◌, ◌:-◌, :neg, A, B, C, D, E, F}
use Rattle.rational.proofs.Field.{*ℚ-inv}
use Rattle.linear_systems.specs.Rows.{row, HasDistinctVariables, Alike}
use Rattle.linear_systems.specs.RowEquivalence.{IsCombination, IsVariableOf, in_row, in_column, IsRowEquivalent, IsStart}
use Rattle.linear_systems.proofs.PivotLemmas.{eqb_same, eqb_apart}
use Rattle.linear_systems.proofs.RowLemmas.{row_same, row_other, row_alike}
use Rattle.linear_systems.proofs.SpanLemmas.{spanned_same, spanned_none, spanned_row, spanned_mix, spanned_scale, spanned_trans}

-- ---- the variables
changed_once : (n r w : ℕ) (f g : ℕ → ℕ) → g r ≡ w → ((i : ℕ) → i ≢ r → g i ≡ f i) → ((i k : ℕ) → i < n → k < n → f i ≡ f k → i ≡ k) → ((i : ℕ) → i < n → f i ≢ w) → (i k : ℕ) → i < n → k < n → g i ≡ g k → i ≡ k
changed_once n r w f g same other once new i k hi hk e = go (cases_eq i r) (cases_eq k r)
  where
    go : (i ≡ r) ⊎ (i ≢ r) → (k ≡ r) ⊎ (k ≢ r) → i ≡ k
    go (inl a) (inl b) = a ∙ sym b
    go (inl a) (inr b) = absurd (new k hk (sym (other k b) ∙ sym e ∙ ap g a ∙ same))
    go (inr a) (inl b) = absurd (new i hi (sym (other i a) ∙ e ∙ ap g b ∙ same))
    go (inr a) (inr b) = once i k hi hk (sym (other i a) ∙ e ∙ other k b)

changed_apart : (n m r c : ℕ) (f g h l : ℕ → ℕ) → r < n → c < m → g r ≡ h c → ((i : ℕ) → i ≢ r → g i ≡ f i) → l c ≡ f r → ((j : ℕ) → j ≢ c → l j ≡ h j) → ((i k : ℕ) → i < n → k < n → f i ≡ f k → i ≡ k) → ((i k : ℕ) → i < m → k < m → h i ≡ h k → i ≡ k) → ((i j : ℕ) → i < n → j < m → f i ≢ h j) → (i j : ℕ) → i < n → j < m → g i ≢ l j
changed_apart n m r c f g h l hr hc gr go_ lc lo once_f once_h apart i j hi hj e = go (cases_eq i r) (cases_eq j c)
  where
    go : (i ≡ r) ⊎ (i ≢ r) → (j ≡ c) ⊎ (j ≢ c) → ⊥
    go (inl a) (inl b) = apart r c hr hc (sym lc ∙ ap l (sym b) ∙ sym e ∙ ap g a ∙ gr)
    go (inl a) (inr b) = b (once_h j c hj hc (sym (lo j b) ∙ sym e ∙ ap g a ∙ gr))
    go (inr a) (inl b) = a (once_f i r hi hr (sym (go_ i a) ∙ e ∙ ap l b ∙ lc))
    go (inr a) (inr b) = apart i j hi hj (sym (go_ i a) ∙ e ∙ lo j b)

changed_below : (n N r w : ℕ) (f g : ℕ → ℕ) → g r ≡ w → ((i : ℕ) → i ≢ r → g i ≡ f i) → w < N → ((i : ℕ) → i < n → f i < N) → (i : ℕ) → i < n → g i < N
changed_below n N r w f g same other hw h i hi =
    elim (cases_eq i r) [ inl a ↦ subst (λ k. k < N) (sym (ap g a ∙ same)) hw | inr a ↦ subst (λ k. k < N) (sym (other i a)) (h i hi) ]

basic_same : (t : Tableau) (r c : ℕ) → (pivot t r c).basic r ≡ t.nonbasic c
basic_same t r c = rw (eqb_same r)

basic_other : (t : Tableau) (r c i : ℕ) → i ≢ r → (pivot t r c).basic i ≡ t.basic i
basic_other t r c i h = rw (eqb_apart i r h)

nonbasic_same : (t : Tableau) (r c : ℕ) → (pivot t r c).nonbasic c ≡ t.basic r
nonbasic_same t r c = rw (eqb_same c)

nonbasic_other : (t : Tableau) (r c j : ℕ) → j ≢ c → (pivot t r c).nonbasic j ≡ t.nonbasic j
nonbasic_other t r c j h = rw (eqb_apart j c h)

pub proper_pivot : (t : Tableau) (r c : ℕ) → r < t.rows → c < t.width → HasDistinctVariables t → HasDistinctVariables (pivot t r c)
proper_pivot t r c hr hc p =
    record {
      basic_once = changed_once t.rows r (t.nonbasic c) t.basic (pivot t r c).basic (basic_same t r c) (basic_other t r c) p.basic_once (λ i h. p.apart i c h hc);
      nonbasic_once = changed_once t.width c (t.basic r) t.nonbasic (pivot t r c).nonbasic (nonbasic_same t r c) (nonbasic_other t r c) p.nonbasic_once (λ j h e. p.apart r j hr h (sym e));
      apart = changed_apart t.rows t.width r c t.basic (pivot t r c).basic t.nonbasic (pivot t r c).nonbasic hr hc (basic_same t r c) (basic_other t r c) (nonbasic_same t r c) (nonbasic_other t r c) p.basic_once p.nonbasic_once p.apart;
    }

pub stands_pivot : (t : Tableau) (r c v : ℕ) → r < t.rows → c < t.width → IsVariableOf t v → IsVariableOf (pivot t r c) v
stands_pivot t r c v hr hc (in_row i hi e) =
    elim (cases_eq i r) [ inl q ↦ in_column c hc (nonbasic_same t r c ∙ ap t.basic (sym q) ∙ e) | inr n ↦ in_row i hi (basic_other t r c i n ∙ e) ]
stands_pivot t r c v hr hc (in_column j hj e) =
    elim (cases_eq j c) [ inl q ↦ in_row r hr (basic_same t r c ∙ ap t.nonbasic (sym q) ∙ e) | inr n ↦ in_column j hj (nonbasic_other t r c j n ∙ e) ]

pub stands_alike : (t u : Tableau) (v : ℕ) → Alike t u → IsVariableOf t v → IsVariableOf u v
stands_alike t u v l (in_row i hi e) = in_row i (subst (λ n. i < n) l.rows hi) (sym (l.basic i hi) ∙ e)
stands_alike t u v l (in_column j hj e) = in_column j (subst (λ n. j < n) l.width hj) (sym (l.nonbasic j hj) ∙ e)

-- ---- the rows
pivoted_from : (m : ℕ) (t : Tableau) (r c : ℕ) → r < m → c < t.width → t.cell r c ≢ zero_ℚ → (k : ℕ) → k < m → IsCombination m t (λ x y. row (pivot t r c) x y k)
pivoted_from m t r c hr hc ne k hk =
    elim (cases_eq k r) [
      | inl e ↦ subst (λ i. IsCombination m t (λ x y. row (pivot t r c) x y i)) (sym e) (spanned_same m t (λ x y. inv_ℚ (t.cell r c) *ℚ row t x y r) _ (λ x y. ring rational_ring (inv_ℚ (t.cell r c) ∷ row t x y r ∷ []) (A :* B) (B :* A) refl ∙ sym (row_same t x y r c hc ne)) (spanned_scale m t (λ x y. row t x y r) (inv_ℚ (t.cell r c)) (spanned_row m t r hr)))
      | inr n ↦ spanned_same m t (λ x y. row t x y k +ℚ (neg_ℚ (t.cell k c *ℚ inv_ℚ (t.cell r c)) *ℚ row t x y r)) _ (λ x y. ring rational_ring (row t x y k ∷ t.cell k c ∷ inv_ℚ (t.cell r c) ∷ row t x y r ∷ []) (A :+ :neg (B :* C) :* D) (A :- B :* (D :* C)) refl ∙ sym (row_other t x y r c k n hc ne)) (spanned_mix m t (λ x y. row t x y k) (λ x y. row t x y r) (neg_ℚ (t.cell k c *ℚ inv_ℚ (t.cell r c))) (spanned_row m t k hk) (spanned_row m t r hr))
    ]

pivoted_back : (m : ℕ) (t : Tableau) (r c : ℕ) → r < m → c < t.width → t.cell r c ≢ zero_ℚ → (k : ℕ) → k < m → IsCombination m (pivot t r c) (λ x y. row t x y k)
pivoted_back m t r c hr hc ne k hk =
    elim (cases_eq k r) [
      | inl e ↦ subst (λ i. IsCombination m (pivot t r c) (λ x y. row t x y i)) (sym e) (spanned_same m (pivot t r c) (λ x y. t.cell r c *ℚ row (pivot t r c) x y r) _ (λ x y. combine rational_ring (t.cell r c ∷ inv_ℚ (t.cell r c) ∷ row t x y r ∷ row (pivot t r c) x y r ∷ []) ((A times D is (C :* B)) ∷ (C times A :* B is num 1) ∷ []) (A :* D) C refl (row_same t x y r c hc ne, (*ℚ-inv (t.cell r c) ne, tt))) (spanned_scale m (pivot t r c) (λ x y. row (pivot t r c) x y r) (t.cell r c) (spanned_row m (pivot t r c) r hr)))
      | inr n ↦ spanned_same m (pivot t r c) (λ x y. row (pivot t r c) x y k +ℚ (t.cell k c *ℚ row (pivot t r c) x y r)) _ (λ x y. combine rational_ring (t.cell k c ∷ inv_ℚ (t.cell r c) ∷ row t x y r ∷ row (pivot t r c) x y r ∷ row t x y k ∷ row (pivot t r c) x y k ∷ []) ((num 1 times F is (E :- A :* (C :* B))) ∷ (A times D is (C :* B)) ∷ []) (F :+ A :* D) E refl (row_other t x y r c k n hc ne, (row_same t x y r c hc ne, tt))) (spanned_mix m (pivot t r c) (λ x y. row (pivot t r c) x y k) (λ x y. row (pivot t r c) x y r) (t.cell k c) (spanned_row m (pivot t r c) k hk) (spanned_row m (pivot t r c) r hr))
    ]

-- ---- reached tableaux
pub reached_start : (N m : ℕ) (s : Tableau) → IsStart N m s → IsRowEquivalent N m s s
reached_start N m s a =
    record {
      rows = refl;
      width = refl;
      proper = a.proper;
      variables = λ v h. h;
      from = λ k h. spanned_row m s k h;
      back = λ k h. spanned_row m s k h;
      rest = λ k _ h. spanned_same m s (λ x y. zero_ℚ) _ (λ x y. ring rational_ring (row s x y k ∷ []) (num 0) (A :- A) refl) (spanned_none m s);
      stays = λ k _ h. refl;
      basic_below = a.basic_below;
      nonbasic_below = a.nonbasic_below;
    }

pub reached_pivot : (N m : ℕ) (s t : Tableau) (r c : ℕ) → m ≤ s.rows → r < m → c < t.width → t.cell r c ≢ zero_ℚ → IsRowEquivalent N m s t → IsRowEquivalent N m s (pivot t r c)
reached_pivot N m s t r c hm hr hc ne a =
    let same_rows : t.rows ≡ s.rows = a.rows in
    let same_width : t.width ≡ s.width = a.width in
    let hrt : r < t.rows = omega arith in
    record {
      rows = a.rows;
      width = a.width;
      proper = proper_pivot t r c hrt hc a.proper;
      variables = λ v h. stands_pivot t r c v hrt hc (a.variables v h);
      from = λ k h. spanned_trans m s t (λ x y. row (pivot t r c) x y k) a.from (pivoted_from m t r c hr hc ne k h);
      back = λ k h. spanned_trans m (pivot t r c) t (λ x y. row s x y k) (pivoted_back m t r c hr hc ne) (a.back k h);
      rest = λ k hk h. spanned_same m s (λ x y. (row t x y k -ℚ row s x y k) +ℚ (neg_ℚ (t.cell k c *ℚ inv_ℚ (t.cell r c)) *ℚ row t x y r)) _ (λ x y. combine rational_ring (t.cell k c ∷ inv_ℚ (t.cell r c) ∷ row t x y r ∷ row t x y k ∷ row s x y k ∷ row (pivot t r c) x y k ∷ []) ((:neg (num 1) times F is (D :- A :* (C :* B))) ∷ []) (D :- E :+ :neg (A :* B) :* C) (F :- E) refl (row_other t x y r c k (omega arith) hc ne, tt)) (spanned_mix m s (λ x y. row t x y k -ℚ row s x y k) (λ x y. row t x y r) (neg_ℚ (t.cell k c *ℚ inv_ℚ (t.cell r c))) (a.rest k hk h) (a.from r hr));
      stays = λ k hk h. basic_other t r c k (omega arith) ∙ a.stays k hk h;
      basic_below = changed_below s.rows N r (t.nonbasic c) t.basic (pivot t r c).basic (basic_same t r c) (basic_other t r c) (a.nonbasic_below c (omega arith)) a.basic_below;
      nonbasic_below = changed_below s.width N c (t.basic r) t.nonbasic (pivot t r c).nonbasic (nonbasic_same t r c) (nonbasic_other t r c) (a.basic_below r (omega arith)) a.nonbasic_below;
    }

-- a tableau in memory need agree with the reached one only where it has cells
pub reached_alike : (N m : ℕ) (s t u : Tableau) → m ≤ s.rows → Alike t u → IsRowEquivalent N m s t → IsRowEquivalent N m s u
reached_alike N m s t u hm l a =
    let same_rows : t.rows ≡ s.rows = a.rows in
    let same_width : t.width ≡ s.width = a.width in
    let u_rows : t.rows ≡ u.rows = l.rows in
    let u_width : t.width ≡ u.width = l.width in
    record {
      rows = sym l.rows ∙ a.rows;
      width = sym l.width ∙ a.width;
      proper = record {
        basic_once = λ i k hi hk e. a.proper.basic_once i k (omega arith) (omega arith) (l.basic i (omega arith) ∙ e ∙ sym (l.basic k (omega arith)));
        nonbasic_once = λ i k hi hk e. a.proper.nonbasic_once i k (omega arith) (omega arith) (l.nonbasic i (omega arith) ∙ e ∙ sym (l.nonbasic k (omega arith)));
        apart = λ i j hi hj e. a.proper.apart i j (omega arith) (omega arith) (l.basic i (omega arith) ∙ e ∙ sym (l.nonbasic j (omega arith)));
      };
      variables = λ v h. stands_alike t u v l (a.variables v h);
      from = λ k h. spanned_same m s (λ x y. row t x y k) _ (λ x y. row_alike t u x y k l (omega arith)) (a.from k h);
      back = λ k h. spanned_trans m u t (λ x y. row s x y k) (λ i hi. spanned_same m u (λ x y. row u x y i) _ (λ x y. sym (row_alike t u x y i l (omega arith))) (spanned_row m u i hi)) (a.back k h);
      rest = λ k hk h. spanned_same m s (λ x y. row t x y k -ℚ row s x y k) _ (λ x y. ap (λ v. v -ℚ row s x y k) (row_alike t u x y k l (omega arith))) (a.rest k hk h);
      stays = λ k hk h. sym (l.basic k (omega arith)) ∙ a.stays k hk h;
      basic_below = λ i h. subst (λ v. v < N) (l.basic i (omega arith)) (a.basic_below i h);
      nonbasic_below = λ j h. subst (λ v. v < N) (l.nonbasic j (omega arith)) (a.nonbasic_below j h);
    }
