-- Indices that are numbered by first use, told one after another.
use Rattle.std.proofs.Common.{ℕ, zero, suc, ◌<◌, ◌≡◌, ◌∙◌, ap, ◌⊎◌, inl, inr, Option, Some, None, List, [], ◌∷◌, slice_get, arith}
use Rattle.std.proofs.lemmas.Bool.{cases_lt}
use Rattle.std.proofs.lemmas.Option.{get_or_from_slice_get, none-some, same_Some, slice_get-get_or, slice_get_within}
use Rattle.game_core.specs.Tree.{AreInOrderOfFirstUse}

-- Where the numbers below n were used before, each index is one of them, or the next.
abbrev pub AreNumberedFrom : ℕ → List (Option ℕ) → Type 0
AreNumberedFrom n [] = Unit {0}
AreNumberedFrom n (None ∷ names) = AreNumberedFrom n names
AreNumberedFrom n (Some s ∷ names) = ((s < n) × AreNumberedFrom n names) ⊎ ((s ≡ n) × AreNumberedFrom (suc n) names)

-- a number was used before these names, or by one of the first k of them
abbrev IsUsedBefore : ℕ → List (Option ℕ) → ℕ → ℕ → Type 0
IsUsedBefore n names k r = (r < n) ⊎ ((l : ℕ) × (l < k) × (slice_get names l ≡ Some (Some r)))

-- one more name stands in front
one_further : (n : ℕ) (name : Option ℕ) (names : List (Option ℕ)) (k r : ℕ) → IsUsedBefore n names k r → IsUsedBefore n (name ∷ names) (suc k) r
one_further n name names k r (inl before) = inl before
one_further n name names k r (inr found) = inr (suc found.0, omega (arith, found.1), found.2)

-- and it is the first use of its number
first_use : (n s : ℕ) (names : List (Option ℕ)) (k r : ℕ) → s ≡ n → IsUsedBefore (suc n) names k r → IsUsedBefore n (Some s ∷ names) (suc k) r
first_use n s names k r is (inl below) = elim (cases_lt r n) [
  | inl before ↦ inl before
  | inr last ↦ let same : s ≡ r = omega arith in inr (0, omega arith, ap (λ i. Some (Some i)) same)
]
first_use n s names k r is (inr found) = inr (suc found.0, omega (arith, found.1), found.2)

-- a smaller number was used before
used_before : (n : ℕ) (names : List (Option ℕ)) → AreNumberedFrom n names → (k s r : ℕ) → slice_get names k ≡ Some (Some s) → r < s → IsUsedBefore n names k r
used_before n [] h k s r is below = absurd (none-some (Some s) is)
used_before n (None ∷ names) h zero s r is below = absurd (none-some s (same_Some _ _ is))
used_before n (None ∷ names) h (suc k) s r is below = one_further n None names k r (used_before n names h k s r is below)
used_before n (Some i ∷ names) (inl old) zero s r is below = let same = same_Some i s (same_Some _ _ is) in inl (omega (arith, old.0))
used_before n (Some i ∷ names) (inr new) zero s r is below = let same = same_Some i s (same_Some _ _ is) in inl (omega (arith, new.0))
used_before n (Some i ∷ names) (inl old) (suc k) s r is below = one_further n (Some i) names k r (used_before n names old.1 k s r is below)
used_before n (Some i ∷ names) (inr new) (suc k) s r is below = first_use n i names k r new.0 (used_before (suc n) names new.1 k s r is below)

-- names are in order where a name that is there comes after one of each smaller index
pub in_order-names : (names : List (Option ℕ)) → ((k s r : ℕ) → slice_get names k ≡ Some (Some s) → r < s → (l : ℕ) × (l < k) × (slice_get names l ≡ Some (Some r))) → AreInOrderOfFirstUse names
in_order-names names h k s r within is below =
    let found = h k s r (slice_get-get_or names k None within ∙ ap Some is) below in
    (found.0, found.1, get_or_from_slice_get names found.0 (Some r) None found.2)

-- and then it does
pub in_order-name : (names : List (Option ℕ)) → AreInOrderOfFirstUse names → (k s r : ℕ) → slice_get names k ≡ Some (Some s) → r < s → (l : ℕ) × (l < k) × (slice_get names l ≡ Some (Some r))
in_order-name names h k s r is below =
    let within = slice_get_within names k (Some s) is in
    let found = h k s r within (get_or_from_slice_get names k (Some s) None is) below in
    (found.0, found.1, slice_get-get_or names found.0 None (omega (arith, found.1, within)) ∙ ap Some found.2)

-- what is numbered from 0 on is in order
pub in_order : (names : List (Option ℕ)) → AreNumberedFrom 0 names → AreInOrderOfFirstUse names
in_order names h = in_order-names names (λ k s r is below. elim (used_before 0 names h k s r is below) [ inl none ↦ absurd (omega (arith, none)) | inr found ↦ found ])
