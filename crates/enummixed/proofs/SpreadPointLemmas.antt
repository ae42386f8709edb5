-- Points spread over all strategies, entry by entry and point by point
use Rattle.std.proofs.Common.{ℕ, ◌+◌, ◌<◌, ◌≡◌, List, [], ◌∷◌, ◌++◌, length, get_or, set, sym, ap, ◌∙◌, subst, subst₂, arith, below_more}
use Rattle.std.specs.Prelude.{Contains}
use Rattle.std.specs.List.Sorted.{IsStrictlyIncreasing}
use Rattle.std.proofs.lemmas.List.{get_or-set_same, get_or-set_other, get_or_append_left, get_or_push, length_push}
use Rattle.std.proofs.lemmas.List.Elements.{Contains-get_or}
use Rattle.std.proofs.lemmas.List.Kept.{AllPairs-from_increasing}
use Rattle.rational.specs.Rational.{ℚ, zero_ℚ}
use Rattle.enummixed.specs.Spread.{IsSpreadOrEmpty}

-- one more entry at its place
module _ (places : List ℕ) (ascending : IsStrictlyIncreasing places) (point wide : List ℚ) (k place : ℕ) (entry : ℚ)
    (l : k < length places) (is : place ≡ get_or places k 0) (entry_is : entry ≡ get_or point k zero_ℚ) (inside : place < length wide) where
  pub placed-next : ((j : ℕ) → j < k → get_or wide (get_or places j 0) zero_ℚ ≡ get_or point j zero_ℚ) → (j : ℕ) → j < k + 1 → get_or (set wide place entry) (get_or places j 0) zero_ℚ ≡ get_or point j zero_ℚ
  placed-next before = below_more (λ j. get_or (set wide place entry) (get_or places j 0) zero_ℚ ≡ get_or point j zero_ℚ) k
      (λ j h. get_or-set_other wide place (get_or places j 0) entry zero_ℚ (λ e. omega (arith, e, is, AllPairs-from_increasing places ascending j k 0 h l)) ∙ before j h)
      (ap (λ i. get_or (set wide place entry) i zero_ℚ) (sym is) ∙ get_or-set_same wide place entry zero_ℚ inside ∙ entry_is)

  pub elsewhere-next : ((s : ℕ) → (Contains places s → ⊥) → get_or wide s zero_ℚ ≡ zero_ℚ) → (s : ℕ) → (Contains places s → ⊥) → get_or (set wide place entry) s zero_ℚ ≡ zero_ℚ
  elsewhere-next before s none =
      get_or-set_other wide place s entry zero_ℚ (λ e. none (subst (Contains places) (sym is ∙ sym e) (Contains-get_or places k 0 l))) ∙ before s none

-- one more point
module _ (n : ℕ) (places : List ℕ) (points wide new : List (List ℚ)) (i : ℕ) (point spread : List ℚ) (at : get_or points i [] ≡ point) (count : length wide ≡ i) (push : new ≡ wide ++ spread ∷ []) where
  pub count-next : length new ≡ i + 1
  count-next = ap length push ∙ length_push wide spread ∙ ap (λ k. k + 1) count

  pub spread-next : ((j : ℕ) → j < i → IsSpreadOrEmpty n places (get_or points j []) (get_or wide j [])) → IsSpreadOrEmpty n places point spread
      → (j : ℕ) → j < i + 1 → IsSpreadOrEmpty n places (get_or points j []) (get_or new j [])
  spread-next before here = below_more (λ j. IsSpreadOrEmpty n places (get_or points j []) (get_or new j [])) i
      (λ j h. subst (IsSpreadOrEmpty n places (get_or points j [])) (sym (ap (λ xs. get_or xs j []) push ∙ get_or_append_left wide (spread ∷ []) [] j (omega (arith, h, count)))) (before j h))
      (subst₂ (IsSpreadOrEmpty n places) (sym at) (sym (ap (λ xs. get_or xs i []) push ∙ get_or_push wide spread [] i count)) here)
