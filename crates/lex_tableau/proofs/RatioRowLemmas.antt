-- Lemmas for the lexicographic row in code.
use Rattle.std.proofs.Common.{[], ◌∷◌, ◌*ℤ◌, ◌<ℤ◌, ◌≤ℤ◌, ℕ, ℤ, suc, zero, pos, negsuc, nat_abs, ◌<◌, ◌≡◌, ◌≢◌, ◌+◌, ◌-◌, refl, sym, ap, ap₂, ◌∙◌, subst, subst₂, List, length, get_or, arith, inl, inr, Option, Some, None, int_cmp, true, false}
use Rattle.std.specs.declared.cmp.Ordering.{Ordering}
use Rattle.std.specs.declared.cmp.Ordering.TheVariants.{Less, Equal, Greater}
use Rattle.std.specs.Ordering.{MatchOrdering, is_ne}
use Rattle.std.specs.Cmp.{int_ranks}
use Rattle.std.proofs.Math.Numerals.{suc-eq-add-one}
use Rattle.std.proofs.lemmas.Int.{ints}
use Rattle.rational.proofs.InverseLemmas.{ne_zero_of_pos}
use Rattle.rational.specs.Rational.{ℚ, frac, whole, zero_ℚ, inv_ℚ, ◌<ℚ◌, ◌≤ℚ◌, ◌*ℚ◌, ◌-ℚ◌}
use Rattle.rational.proofs.RationalRing.{rational_ring}
use Rattle.rational.proofs.Field.{not_lt_of_le, *ℚ-inv}
use Rattle.rational.proofs.Linear.{linear, at, lit, ◌⟨-⟩◌, ◌⟨<⟩◌}
use Rattle.rational.proofs.PartLemmas.{frac-lt, frac-eq, frac-le, pos_abs}
use Rattle.rational.proofs.IntegerRing.{integer_ring}
use Rattle.rational.proofs.Ring.{ring, combine, ◌times◌is◌, num, var, ◌:-◌, ◌:*◌, A}
use Rattle.linear_systems.specs.Tableau.{Tableau}
use Rattle.linear_systems.specs.Lex.{IsLexLess}
use Rattle.linear_systems.specs.Rows.{coefficient, key, HasDistinctVariables}
use Rattle.linear_systems.proofs.RowLemmas.{coefficient_own, coefficient_cell, coefficient_absent}
use Rattle.linear_systems.proofs.LexRowLemmas.{lex_first, lex_pass, lex_take, below_cases, quotients_apart}
use Rattle.lex_tableau.specs.Rows.{WholeTableau, row_of, tableau, IsTableau, IsRowEquivalentToStart}
use Rattle.lex_tableau.specs.Columns.{IsColumnOf}
use Rattle.lex_tableau.specs.Keys.{IsKeyNumber, IsPositiveIn}
use Rattle.lex_tableau.specs.Ratio.{variable_at, quotient_of, Compares, LexCompares, IsBest}
use Rattle.whole_rows.proofs.RowValueLemmas.{fraction_over, over_entry, whole_ne, pos_ne, frac_over}

-- ---- the numbers of a key
key_past : (b : ℕ → ℕ) (t : Tableau) (i p : ℕ) → p ≢ 0 → coefficient t i (b (p - 1)) ≡ key b t i p
key_past b t i zero h = absurd (h refl)
key_past b t i (suc p) h = ap (λ n. coefficient t i (b n)) (less p)
  where
    less : (p : ℕ) → suc p - 1 ≡ p
    less p = omega arith

module _ (n : WholeTableau) (i p : ℕ) (t : IsTableau n) (hi : i < length n.basics) (hp : p ≢ 0) where
  abbrev lead : ℤ
  lead = row_of n i 0

  positive : pos 0 <ℤ lead
  positive = (t.rows i hi).positive

  distinct : HasDistinctVariables (tableau n)
  distinct = t.reached.reached.proper

  pub key_own : get_or n.basics i 0 ≡ get_or n.starts (p - 1) 0 → IsKeyNumber n i p lead
  key_own e =
      fraction_over (row_of n i) 0 positive ∙ *ℚ-inv (whole lead) (whole_ne lead (pos_ne lead positive))
      ∙ sym (coefficient_own (tableau n) i distinct hi) ∙ ap (coefficient (tableau n) i) e ∙ key_past (variable_at n.starts) (tableau n) i p hp

  pub key_column : (k : ℕ) → 0 < k → IsColumnOf n.nonbasics (get_or n.starts (p - 1) 0) k → IsKeyNumber n i p (row_of n i k)
  key_column zero l h = absurd (omega arith)
  key_column (suc j) l h =
      ap (λ k. frac (row_of n i k) (nat_abs lead)) (suc-eq-add-one j) ∙ sym (coefficient_cell (tableau n) i j distinct hi h.0)
      ∙ ap (coefficient (tableau n) i) h.1 ∙ key_past (variable_at n.starts) (tableau n) i p hp

  pub key_absent : get_or n.basics i 0 ≢ get_or n.starts (p - 1) 0 → IsColumnOf n.nonbasics (get_or n.starts (p - 1) 0) 0 → IsKeyNumber n i p (pos 0)
  key_absent o g =
      frac_over (pos 0) (nat_abs lead) (pos_abs lead positive) ∙ ring rational_ring (inv_ℚ (whole (pos (nat_abs lead))) ∷ []) (num 0 :* A) (num 0) refl
      ∙ sym (coefficient_absent (tableau n) i (get_or n.starts (p - 1) 0) o g) ∙ key_past (variable_at n.starts) (tableau n) i p hp

-- ---- quotients
-- the quotient of two fractions over one positive number
quotient_is : (k t b : ℤ) → pos 0 <ℤ b → pos 0 <ℤ t → frac k (nat_abs b) *ℚ inv_ℚ (frac t (nat_abs b)) ≡ frac k (nat_abs t)
quotient_is k t b hb ht =
    ap₂ (λ x y. x *ℚ inv_ℚ y) (over k b hb) (over t b hb)
    ∙ ap (λ q. (whole k *ℚ inv_ℚ (whole b)) *ℚ q) (over_entry (whole t) (whole b) (whole_ne t (pos_ne t ht)) (whole_ne b (pos_ne b hb)))
    ∙ combine rational_ring (whole k ∷ inv_ℚ (whole b) ∷ inv_ℚ (whole t) ∷ whole b ∷ []) ((var 0 :* var 2 times var 3 :* var 1 is num 1) ∷ []) ((var 0 :* var 1) :* (var 2 :* var 3)) (var 0 :* var 2) refl (*ℚ-inv (whole b) (whole_ne b (pos_ne b hb)), tt)
    ∙ sym (over k t ht)
  where
    over : (n d : ℤ) → pos 0 <ℤ d → frac n (nat_abs d) ≡ whole n *ℚ inv_ℚ (whole d)
    over n (pos d) h = frac_over n d (omega (arith, ints))
    over n (negsuc d) h = absurd (omega (arith, ints))

compares_frac : (n m : ℤ) (d e : ℕ) (o : Ordering) → 0 < d → 0 < e → o ≡ int_cmp (n *ℤ pos e) (m *ℤ pos d) → Compares (frac n d) (frac m e) o
compares_frac n m d e o hd he same = subst (Compares (frac n d) (frac m e)) (sym same) (go (int_cmp (n *ℤ pos e) (m *ℤ pos d)) (int_ranks (n *ℤ pos e) (m *ℤ pos d)))
  where
    go : (o : Ordering) → MatchOrdering o ((n *ℤ pos e) <ℤ (m *ℤ pos d)) (n *ℤ pos e ≡ m *ℤ pos d) ((m *ℤ pos d) <ℤ (n *ℤ pos e)) → Compares (frac n d) (frac m e) o
    go Less h = (frac-lt n m d e hd he).1 h
    go Equal h = (frac-eq n m d e hd he).1 h
    go Greater h = (frac-lt m n e d he hd).1 h

pub compared : (n : WholeTableau) (c i r p : ℕ) (k l : ℤ) (o : Ordering) → IsTableau n → i < length n.basics → r < length n.basics → IsPositiveIn n i c → IsPositiveIn n r c → IsKeyNumber n i p k → IsKeyNumber n r p l
    → o ≡ int_cmp (k *ℤ pos (nat_abs (row_of n r (c + 1)))) (l *ℤ pos (nat_abs (row_of n i (c + 1))))
    → Compares (quotient_of n.starts (tableau n) c i p) (quotient_of n.starts (tableau n) c r p) o
compared n c i r p k l o t li lr hi hr ki kr same =
    subst (λ q. Compares q (quotient_of n.starts (tableau n) c r p) o) (sym (quotient k i li hi) ∙ ap (λ q. q *ℚ inv_ℚ ((tableau n).cell i c)) ki)
    (subst (λ q. Compares (frac k (nat_abs (row_of n i (c + 1)))) q o) (sym (quotient l r lr hr) ∙ ap (λ q. q *ℚ inv_ℚ ((tableau n).cell r c)) kr)
    (compares_frac k l (nat_abs (row_of n i (c + 1))) (nat_abs (row_of n r (c + 1))) o (pos_abs (row_of n i (c + 1)) hi) (pos_abs (row_of n r (c + 1)) hr) same))
  where
    quotient : (k : ℤ) (i : ℕ) → i < length n.basics → IsPositiveIn n i c → frac k (nat_abs (row_of n i 0)) *ℚ inv_ℚ ((tableau n).cell i c) ≡ frac k (nat_abs (row_of n i (c + 1)))
    quotient k i h u = quotient_is k (row_of n i (c + 1)) (row_of n i 0) (t.rows i h).positive u

-- at the first place where two rows differ
less_at : (n p : ℕ) (f g : ℕ → ℚ) → p < n → ((q : ℕ) → q < p → f q ≡ g q) → f p <ℚ g p → IsLexLess n f g
less_at n p f g h e l =
    record {
      by = record {
        place = p;
        within = h;
        before = λ q k. ap (λ x. g q -ℚ x) (e q k) ∙ ring rational_ring (g q ∷ []) (A :- A) (num 0) refl;
        above = linear (f p ∷ g p ∷ []) ((at 0 ⟨<⟩ at 1) ∷ []) (lit (pos 0) ⟨<⟩ (at 1 ⟨-⟩ at 0)) (λ one z u v. omega (arith, ints)) (l, tt);
      };
    }

pub order_at : (n p : ℕ) (f g : ℕ → ℚ) (order : Ordering) → p < n → ((q : ℕ) → q < p → f q ≡ g q) → Compares (f p) (g p) order → is_ne order ≡ true → LexCompares n f g order
order_at n p f g Less h e l differ = less_at n p f g h e l
order_at n p f g Equal h e l differ = absurd (let no : false ≡ true = differ in cc)
order_at n p f g Greater h e l differ = less_at n p g f h (λ q k. sym (e q k)) l

-- ---- the signs of cells
module _ (n : WholeTableau) (i c : ℕ) (t : IsTableau n) (h : i < length n.basics) where
  abbrev number : ℤ
  number = row_of n i (c + 1)

  abbrev below : ℕ
  below = nat_abs (row_of n i 0)

  some : 0 < below
  some = pos_abs (row_of n i 0) (t.rows i h).positive

  none_below : pos 0 ≡ pos 0 *ℤ pos below
  none_below = ring integer_ring (pos below ∷ []) (num 0) (num 0 :* A) refl

  over_one : number ≡ number *ℤ pos 1
  over_one = ring integer_ring (number ∷ []) A (A :* num 1) refl

  pub cell_positive : IsPositiveIn n i c → zero_ℚ <ℚ (tableau n).cell i c
  cell_positive u = (frac-lt (pos 0) number 1 below (omega arith) some).1 (subst₂ (λ x y. x <ℤ y) none_below over_one u)

  pub cell_not_positive : number ≤ℤ pos 0 → (tableau n).cell i c ≤ℚ zero_ℚ
  cell_not_positive u = (frac-le number (pos 0) below 1 some (omega arith)).1 (subst₂ (λ x y. x ≤ℤ y) over_one none_below u)

  pub number_positive : zero_ℚ <ℚ (tableau n).cell i c → IsPositiveIn n i c
  number_positive u = subst₂ (λ x y. x <ℤ y) (sym none_below) (sym over_one) ((frac-lt (pos 0) number 1 below (omega arith) some).0 u)

-- ---- one more row
module _ (k m : ℕ) (ss : List ℕ) (t : Tableau) (c : ℕ) where
  pub best_passed : (o : Option ℕ) → t.cell k c ≤ℚ zero_ℚ → IsBest k m ss t c o → IsBest (suc k) m ss t c o
  best_passed None h b = λ i hi. elim (below_cases i k hi) [ inl e ↦ subst (λ i. t.cell i c ≤ℚ zero_ℚ) (sym e) h | inr l ↦ b i l ]
  best_passed (Some r) h b = lex_pass k m (variable_at ss) t c r b (λ u. absurd (not_lt_of_le (t.cell k c) zero_ℚ h u))

  pub best_first : zero_ℚ <ℚ t.cell k c → IsBest k m ss t c None → IsBest (suc k) m ss t c (Some k)
  best_first h b = lex_first k m (variable_at ss) t c b h

  pub best_taken : (r : ℕ) → zero_ℚ <ℚ t.cell k c → IsBest k m ss t c (Some r) → IsLexLess (suc m) (quotient_of ss t c k) (quotient_of ss t c r) → IsBest (suc k) m ss t c (Some k)
  best_taken r h b l = lex_take k m (variable_at ss) t c r b h l

  pub best_kept : (r : ℕ) (o : Ordering) → IsRowEquivalentToStart m ss t → k < m → (o ≡ Less → ⊥) → zero_ℚ <ℚ t.cell k c → IsBest k m ss t c (Some r) → LexCompares (suc m) (quotient_of ss t c k) (quotient_of ss t c r) o → IsBest (suc k) m ss t c (Some r)
  best_kept r Less p hk n h b l = absurd (n refl)
  best_kept r Greater p hk n h b l = lex_pass k m (variable_at ss) t c r b (λ _. l)
  best_kept r Equal p hk n h b l =
      let w : r < k = b.within in
      absurd (quotients_apart p.bound m p.start t k r (t.cell k c) (t.cell r c) p.begins p.reached hk (omega arith) (omega arith) (ne_zero_of_pos (t.cell k c) h)
      (λ q hq. ap (λ v. coefficient t k v *ℚ inv_ℚ (t.cell k c)) (p.basics q hq) ∙ l (suc q) (omega arith) ∙ ap (λ v. coefficient t r v *ℚ inv_ℚ (t.cell r c)) (sym (p.basics q hq))))
