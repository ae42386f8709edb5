-- lexicographic pivots: the bases that they lead to, that each is undone by entering the variable that left, and that the basis and the
-- entering variable determine the leaving one
use Rattle.std.proofs.Common.{ℕ, suc, ◌<◌, ◌≡◌, ◌≢◌, ◌⊎◌, inl, inr, Bool, true, false, [], ◌∷◌, refl, sym, ap, ap₂, ◌∙◌, subst, arith, true≢false}
use Rattle.std.proofs.lemmas.Bool.{cases_eq}
use Rattle.rational.specs.Rational.{ℚ, ◌+ℚ◌, ◌*ℚ◌, ◌-ℚ◌, neg_ℚ, inv_ℚ, zero_ℚ, ◌<ℚ◌}
use Rattle.rational.proofs.RationalRing.{rational_ring}
use Rattle.rational.proofs.Ring.{ring, combine, ◌times◌is◌, var, num, ◌:+◌, ◌:*◌, ◌:-◌, :neg, A, B, C, D, E, F, G, H}
use Rattle.rational.proofs.Field.{*ℚ-inv, lt_irrefl}
use Rattle.linear_systems.specs.Tableau.{Tableau, pivot}
use Rattle.linear_systems.specs.Lex.{IsLexPositive, IsLexLess}
use Rattle.linear_systems.specs.Rows.{key, HasDistinctVariables, IsLexicographicRow}
use Rattle.linear_systems.specs.RowEquivalence.{IsRowEquivalent, IsStart, HasSameBasis}
use Rattle.rational.proofs.InverseLemmas.{inv_pos, ne_zero_of_pos}
use Rattle.linear_systems.proofs.LexLemmas.{lex_same, lex_scale, lex_add, less_trans, less_apart}
use Rattle.linear_systems.proofs.RowLemmas.{key_same, key_other}
use Rattle.linear_systems.proofs.RowEquivalenceLemmas.{proper_pivot}
use Rattle.linear_systems.proofs.BasisLemmas.{same_key, same_cell}
use Rattle.linear_systems.proofs.PivotLemmas.{basic_r, basic_other, nonbasic_c, cell_rc, cell_c}
use Rattle.lemke_pivot.specs.Values.{is_basic}
use Rattle.lemke_pivot.proofs.EdgeLemmas.{swap, swap_in, swap_out, swap_other}
use Rattle.lemke_pivot.proofs.ValueLemmas.{row_of, basic_yes, basic_no, basic_which, nonbasic_no}

-- no row of numbers and its opposite are both lexicographically positive
pub lex_opposite : (n : ℕ) (f g : ℕ → ℚ) → ((j : ℕ) → j < n → g j ≡ neg_ℚ (f j)) → IsLexPositive n f → IsLexPositive n g → ⊥
lex_opposite n f g e p q = let s = lex_add n f g p q in
    lt_irrefl zero_ℚ (subst (λ x. zero_ℚ <ℚ x) (ap (λ x. f s.place +ℚ x) (e s.place s.within) ∙ ring rational_ring (f s.place ∷ []) (A :+ :neg A) (num 0) refl) s.above)

-- ---- the variables of a pivot
module _ (t : Tableau) (r c : ℕ) where
  -- the entering variable is basic now, and the leaving one is not
  pub basic_swap : HasDistinctVariables t → r < t.rows → c < t.width → (v : ℕ) → is_basic (pivot t r c) v ≡ swap (is_basic t) (t.nonbasic c) (t.basic r) v
  basic_swap N hr hc v = go (cases_eq v (t.nonbasic c)) (cases_eq v (t.basic r))
    where
      rest : v ≢ t.nonbasic c → v ≢ t.basic r → (b : Bool) → is_basic t v ≡ b → is_basic (pivot t r c) v ≡ b
      rest n m true e = let w = basic_which t v e in ap (is_basic (pivot t r c)) (sym w.1 ∙ sym (basic_other t r c (row_of t v) (λ q. m (sym w.1 ∙ ap t.basic q)))) ∙ basic_yes (pivot t r c) (row_of t v) w.0
      rest n m false e = basic_no (pivot t r c) v (λ i h q. elim (cases_eq i r) [ inl p ↦ n (sym q ∙ ap (pivot t r c).basic p ∙ basic_r t r c) | inr p ↦ true≢false (sym (ap (is_basic t) (sym q ∙ basic_other t r c i p) ∙ basic_yes t i h) ∙ e) ])

      go : (v ≡ t.nonbasic c) ⊎ (v ≢ t.nonbasic c) → (v ≡ t.basic r) ⊎ (v ≢ t.basic r) → is_basic (pivot t r c) v ≡ swap (is_basic t) (t.nonbasic c) (t.basic r) v
      go (inl e) d = ap (is_basic (pivot t r c)) (e ∙ sym (basic_r t r c)) ∙ basic_yes (pivot t r c) r hr ∙ sym (ap (swap (is_basic t) (t.nonbasic c) (t.basic r)) e ∙ swap_in (is_basic t) (t.nonbasic c) (t.basic r))
      go (inr n) (inl e) = ap (is_basic (pivot t r c)) (e ∙ sym (nonbasic_c t r c)) ∙ nonbasic_no (pivot t r c) (proper_pivot t r c hr hc N) c hc ∙ sym (ap (swap (is_basic t) (t.nonbasic c) (t.basic r)) e ∙ swap_out (is_basic t) (t.nonbasic c) (t.basic r) (λ q. n (e ∙ q)))
      go (inr n) (inr m) = rest n m (is_basic t v) refl ∙ sym (swap_other (is_basic t) (t.nonbasic c) (t.basic r) v n m)

-- entering the variable that left leads back
pub undone : (n : ℕ) (b : ℕ → ℕ) (t : Tableau) (c r : ℕ) → c < t.width → IsLexicographicRow n b t c r → ((i : ℕ) → i < n → IsLexPositive (suc n) (key b t i)) → IsLexicographicRow n b (pivot t r c) c r
undone n b t c r hc L p =
    record {
      within = L.within;
      positive = subst (λ x. zero_ℚ <ℚ x) (sym (cell_rc t r c)) (inv_pos (t.cell r c) L.positive);
      least = least;
    }
  where
    q : ℚ
    q = inv_ℚ (t.cell r c)

    ne : t.cell r c ≢ zero_ℚ
    ne = ne_zero_of_pos (t.cell r c) L.positive

    least : (i : ℕ) → i < n → i ≢ r → zero_ℚ <ℚ (pivot t r c).cell i c → IsLexLess (suc n) (λ k. key b (pivot t r c) r k *ℚ inv_ℚ ((pivot t r c).cell r c)) (λ k. key b (pivot t r c) i k *ℚ inv_ℚ ((pivot t r c).cell i c))
    least i h d up =
        let e = (pivot t r c).cell i c in let f = (pivot t r c).cell r c in
        record {
          by = lex_same (suc n) (λ k. inv_ℚ e *ℚ key b t i k) _ (λ k _. combine rational_ring (key b t i k ∷ key b t r k ∷ t.cell i c ∷ inv_ℚ (t.cell r c) ∷ e ∷ inv_ℚ e ∷ inv_ℚ f ∷ key b (pivot t r c) i k ∷ key b (pivot t r c) r k ∷ f ∷ []) ((:neg F times H is (A :- C :* (B :* D))) ∷ (G times var 8 is B :* D) ∷ (B :* F times E is :neg (C :* D)) ∷ (:neg B times E :* F is num 1) ∷ (B times var 9 :* G is num 1) ∷ (:neg B :* G times var 9 is D) ∷ []) (F :* A) (H :* F :- var 8 :* G) refl (key_other b t r c i k d hc ne, (key_same b t r c k hc ne, (cell_c t r c i d, (*ℚ-inv e (ne_zero_of_pos e up), (*ℚ-inv f (ne_zero_of_pos f (subst (λ x. zero_ℚ <ℚ x) (sym (cell_rc t r c)) (inv_pos (t.cell r c) L.positive))), (cell_rc t r c, tt)))))))
              (lex_scale (suc n) (inv_ℚ e) (key b t i) (inv_pos e up) (p i h));
        }

-- reached tableaux with the same basic variables choose the same variable to leave
pub same_leaves : (N n : ℕ) (start t s : Tableau) (b : ℕ → ℕ) → start.rows ≡ n → IsStart N n start → IsRowEquivalent N n start t → IsRowEquivalent N n start s → ((v : ℕ) → is_basic t v ≡ is_basic s v) → (c d r q : ℕ) → c < t.width → d < s.width → t.nonbasic c ≡ s.nonbasic d → IsLexicographicRow n b t c r → IsLexicographicRow n b s d q → t.basic r ≡ s.basic q
same_leaves N n start t s b all st R S same c d r q hc hd e L K = go (cases_eq k q)
  where
    t_rows : t.rows ≡ n
    t_rows = R.rows ∙ all

    s_rows : s.rows ≡ n
    s_rows = S.rows ∙ all

    -- where each basic variable of s stands in t
    same_basis : HasSameBasis n s t
    same_basis = record { other = λ i. row_of t (s.basic i); within = λ i h. subst (λ m. row_of t (s.basic i) < m) t_rows (found i h).0; basic = λ i h. sym (found i h).1 }
      where
        found : (i : ℕ) → i < n → (row_of t (s.basic i) < t.rows) × (t.basic (row_of t (s.basic i)) ≡ s.basic i)
        found i h = basic_which t (s.basic i) (same (s.basic i) ∙ basic_yes s i (omega (arith, s_rows)))

    k : ℕ
    k = row_of s (t.basic r)

    r_in : r < n
    r_in = L.within

    at_k : (k < n) × (s.basic k ≡ t.basic r)
    at_k = let w = basic_which s (t.basic r) (sym (same (t.basic r)) ∙ basic_yes t r (omega (arith, t_rows, r_in))) in (subst (λ m. k < m) s_rows w.0, w.1)

    i : ℕ
    i = same_basis.other q

    keys : (i k : ℕ) → i < n → k < n → t.basic i ≡ s.basic k → (m : ℕ) → key b t i m ≡ key b s k m
    keys i k h l f m = same_key N n start s t b i k m st S R same_basis h l f

    cells : (i k : ℕ) → i < n → k < n → t.basic i ≡ s.basic k → t.cell i c ≡ s.cell k d
    cells i k h l f = same_cell N n start s t i k c d st S R same_basis h l f (subst (λ m. c < m) R.width hc) (subst (λ m. d < m) S.width hd) e

    go : (k ≡ q) ⊎ (k ≢ q) → t.basic r ≡ s.basic q
    go (inl f) = sym at_k.1 ∙ ap s.basic f
    go (inr ne) = absurd (less_apart (suc n) _ _ (less_trans (suc n) _ _ _ (L.least i i_in i_not (subst (λ x. zero_ℚ <ℚ x) (sym (cells i q i_in K.within (sym at_i))) K.positive)) back) (λ m h. refl))
      where
        i_in : i < n
        i_in = same_basis.within q K.within

        at_i : s.basic q ≡ t.basic i
        at_i = same_basis.basic q K.within

        i_not : i ≢ r
        i_not f = ne (S.proper.basic_once k q (omega (arith, s_rows, at_k.0)) (let h : q < n = K.within in omega (arith, s_rows, h)) (at_k.1 ∙ ap t.basic (sym f) ∙ sym at_i))

        there : IsLexLess (suc n) (λ m. key b s q m *ℚ inv_ℚ (s.cell q d)) (λ m. key b s k m *ℚ inv_ℚ (s.cell k d))
        there = K.least k at_k.0 ne (subst (λ x. zero_ℚ <ℚ x) (cells r k r_in at_k.0 (sym at_k.1)) L.positive)

        back : IsLexLess (suc n) (λ m. key b t i m *ℚ inv_ℚ (t.cell i c)) (λ m. key b t r m *ℚ inv_ℚ (t.cell r c))
        back = record { by = lex_same (suc n) _ _ (λ m _. ap₂ (λ x y. x -ℚ y) (ap₂ (λ x y. x *ℚ inv_ℚ y) (sym (keys r k r_in at_k.0 (sym at_k.1) m)) (sym (cells r k r_in at_k.0 (sym at_k.1)))) (ap₂ (λ x y. x *ℚ inv_ℚ y) (sym (keys i q i_in K.within (sym at_i) m)) (sym (cells i q i_in K.within (sym at_i))))) there.by }
