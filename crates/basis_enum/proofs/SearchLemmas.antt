-- A search in an ascending list
use Rattle.std.proofs.Common.{ℕ, ◌<◌, ◌≡◌, subst, arith, inl, inr, true, false, List, get_or, Result, Ok, Err, is_ok, nat_cmp}
use Rattle.std.specs.List.{Contains}
use Rattle.std.specs.List.Sorted.{IsStrictlyIncreasing, IsBinarySearchResult}
use Rattle.std.proofs.lemmas.Bool.{cases_lt}
use Rattle.std.proofs.lemmas.List.Elements.{Contains-get_or}
use Rattle.std.proofs.lemmas.List.Sorted.{searched}
use Rattle.lists.proofs.AscendingNumberLemmas.{non_decreasing}
use Rattle.lists.proofs.ElementLemmas.{index_of}

-- the search tells whether the number is in the list
pub search_tells : (xs : List ℕ) (x : ℕ) (r : Result ℕ ℕ) → IsStrictlyIncreasing xs → IsBinarySearchResult (λ y. nat_cmp y x) xs r → (is_ok r ≡ true → Contains xs x) × (is_ok r ≡ false → ¬ (Contains xs x))
search_tells xs x (Ok i) h r = let s = searched xs x (Ok i) r (λ i j l k. non_decreasing xs h i j 0 l k) in (λ _. subst (Contains xs) s.1 (Contains-get_or xs i 0 s.0), λ e. absurd (cc))
search_tells xs x (Err i) h r = (
  λ e. absurd (cc),
  λ _ c.
      let p = index_of xs x c in
      let s = searched xs x (Err i) r (λ i j l k. non_decreasing xs h i j 0 l k) in
      elim (cases_lt p.0 i) [
        | inl l ↦ (let b : get_or xs p.0 0 < x = s.1 p.0 l in let e : get_or xs p.0 0 ≡ x = p.2 in omega arith)
        | inr l ↦ (let b : x < get_or xs p.0 0 = s.2 p.0 l p.1 in let e : get_or xs p.0 0 ≡ x = p.2 in omega arith)
      ],
)
