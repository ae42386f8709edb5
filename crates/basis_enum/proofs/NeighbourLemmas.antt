-- The variables of a tableau and of its neighbours
use Rattle.std.proofs.Common.{ℕ, ◌<◌, ◌≤◌, ◌≡◌, ◌≢◌, ◌+◌, ◌^◌, sym, ap, ◌∙◌, subst, ◌⊎◌, inl, inr, List, length, get_or, slice_set}
use Rattle.std.proofs.lemmas.Bool.{cases_eq}
use Rattle.std.proofs.lemmas.List.{get_or-set_same, get_or-set_other, length-set}
use Rattle.std.specs.List.{Contains}
use Rattle.std.proofs.lemmas.List.Sums.{sum_by-set}
use Rattle.lists.proofs.ElementLemmas.{index_of}
use Rattle.linear_systems.specs.RowEquivalence.{in_row, in_column}
use Rattle.lex_tableau.specs.Rows.{WholeTableau, IsTableau}
use Rattle.basis_enum.specs.Bases.{digit, basis_of, neighbour_of, AreVariables, HaveDigits}
use Rattle.basis_enum.proofs.DigitLemmas.{basis_below}

pub nonbasics_are : (t : WholeTableau) → IsTableau t → HaveDigits t → AreVariables t.nonbasics
nonbasics_are t h d =
    record {
      above = λ v c. let p = index_of t.nonbasics v c in (d v (in_column p.0 p.1 p.2)).0;
      most = λ v c. let p = index_of t.nonbasics v c in (d v (in_column p.0 p.1 p.2)).1;
      once = λ i j a b e. h.reached.reached.proper.nonbasic_once i j a b e;
    }

-- a place of the list after an exchange
pub exchanged_at : (xs : List ℕ) (c x i : ℕ) → c < length xs → i < length xs → ((i ≡ c) × (get_or (slice_set xs c x) i 0 ≡ x)) ⊎ ((i ≢ c) × (get_or (slice_set xs c x) i 0 ≡ get_or xs i 0))
exchanged_at xs c x i hc hi = elim (cases_eq i c) [ inl e ↦ inl (e, ap (λ k. get_or (slice_set xs c x) k 0) e ∙ get_or-set_same xs c x 0 hc) | inr ne ↦ inr (ne, get_or-set_other xs c i x 0 ne) ]

pub exchanged_are : (t : WholeTableau) (r c : ℕ) → IsTableau t → HaveDigits t → r < length t.basics → c < length t.nonbasics → AreVariables (slice_set t.nonbasics c (get_or t.basics r 0))
exchanged_are t r c h d hr hc = record { above = λ v k. (bounds v k).0; most = λ v k. (bounds v k).1; once = once }
  where
    size : length (slice_set t.nonbasics c (get_or t.basics r 0)) ≡ length t.nonbasics
    size = length-set t.nonbasics c (get_or t.basics r 0)

    bounds : (v : ℕ) → Contains (slice_set t.nonbasics c (get_or t.basics r 0)) v → (0 < v) × (v ≤ 128)
    bounds v k = let p = index_of _ v k in elim (exchanged_at t.nonbasics c (get_or t.basics r 0) p.0 hc (subst (λ n. p.0 < n) size p.1)) [
      | inl e ↦ d v (in_row r hr (sym e.1 ∙ p.2))
      | inr e ↦ d v (in_column p.0 (subst (λ n. p.0 < n) size p.1) (sym e.1 ∙ p.2))
    ]

    once : (i j : ℕ) → i < length (slice_set t.nonbasics c (get_or t.basics r 0)) → j < length (slice_set t.nonbasics c (get_or t.basics r 0)) → get_or (slice_set t.nonbasics c (get_or t.basics r 0)) i 0 ≡ get_or (slice_set t.nonbasics c (get_or t.basics r 0)) j 0 → i ≡ j
    once i j hi hj e = go (exchanged_at t.nonbasics c (get_or t.basics r 0) i hc (subst (λ n. i < n) size hi)) (exchanged_at t.nonbasics c (get_or t.basics r 0) j hc (subst (λ n. j < n) size hj))
      where
        go : ((i ≡ c) × (get_or (slice_set t.nonbasics c (get_or t.basics r 0)) i 0 ≡ get_or t.basics r 0)) ⊎ ((i ≢ c) × (get_or (slice_set t.nonbasics c (get_or t.basics r 0)) i 0 ≡ get_or t.nonbasics i 0)) → ((j ≡ c) × (get_or (slice_set t.nonbasics c (get_or t.basics r 0)) j 0 ≡ get_or t.basics r 0)) ⊎ ((j ≢ c) × (get_or (slice_set t.nonbasics c (get_or t.basics r 0)) j 0 ≡ get_or t.nonbasics j 0)) → i ≡ j
        go (inl a) (inl b) = a.0 ∙ sym b.0
        go (inl a) (inr b) = absurd (h.reached.reached.proper.apart r j hr (subst (λ n. j < n) size hj) (sym a.1 ∙ e ∙ b.1))
        go (inr a) (inl b) = absurd (h.reached.reached.proper.apart r i hr (subst (λ n. i < n) size hi) (sym b.1 ∙ sym e ∙ a.1))
        go (inr a) (inr b) = h.reached.reached.proper.nonbasic_once i j (subst (λ n. i < n) size hi) (subst (λ n. j < n) size hj) (sym a.1 ∙ e ∙ b.1)

-- the number of a neighbour
pub neighbour_is : (t : WholeTableau) (r c : ℕ) → c < length t.nonbasics → neighbour_of t r c + digit (get_or t.nonbasics c 0) ≡ basis_of t.nonbasics + digit (get_or t.basics r 0)
neighbour_is t r c hc = sum_by-set digit t.nonbasics c (get_or t.basics r 0) 0 hc

pub neighbour_below : (t : WholeTableau) (r c : ℕ) → IsTableau t → HaveDigits t → r < length t.basics → c < length t.nonbasics → neighbour_of t r c < 2 ^ 128
neighbour_below t r c h d hr hc = basis_below _ (exchanged_are t r c h d hr hc)
