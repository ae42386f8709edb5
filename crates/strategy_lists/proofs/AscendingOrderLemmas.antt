-- Lists of numbers in order: that different lists of one length have one ascending order, and that a sort gives it.
use Rattle.std.proofs.Common.{ℕ, suc, ◌+◌, ◌<◌, ◌≡◌, ◌≢◌, ◌⊎◌, inl, inr, true, false, List, [], ◌∷◌, length, get_or, All, refl, sym, ap, ap₂, ◌∙◌, subst, arith, add-one}
use Rattle.std.specs.List.{AllPairs}
use Rattle.std.specs.List.Sorted.{IsPermutation, IsSorted}
use Rattle.std.specs.Ordering.{nat_cmp, is_lt, ordering_then}
use Rattle.std.specs.Prelude.{nat_eq}
use Rattle.std.specs.Cmp.Lexicographic.{slice_cmp, pointwise, bytes_decides, nat_list_eq_equiv}
use Rattle.std.proofs.lemmas.Bool.{cases_eq, cases_lt}
use Rattle.std.proofs.lemmas.List.Sorted.{IsPermutation-refl, IsPermutation-sym, IsPermutation-trans, IsPermutation-cons, IsPermutation-middle, All-permutation}
use Rattle.std.proofs.lemmas.Map.Keys.{IsDistinct-IsPermutation}
use Rattle.std.proofs.lemmas.Map.Made.{AllPairs-from_IsDistinct, IsDistinct-from_AllPairs}
use Rattle.lists.proofs.OrderLemmas.{AreAscending-rest}
use Rattle.lists.specs.Orders.{ComesBefore, AreAscending}
use Rattle.lists.proofs.NumberLemmas.{nat_cmp-less, nat_cmp-same}
use Rattle.strategy_lists.proofs.EndListLemmas.{Differ}

-- ---- an order by insertion
-- one of two numbers is less, or they are equal
three_ways : (a b : ℕ) → (a < b) ⊎ ((a ≡ b) ⊎ (b < a))
three_ways a b = elim (cases_lt a b) [ inl l ↦ inl l | inr m ↦ elim (cases_eq a b) [ inl e ↦ inr (inl e) | inr ne ↦ inr (inr (omega arith)) ] ]

-- of two lists of one length that differ, one comes before the other
before_or_after : (x y : List ℕ) → length x ≡ length y → x ≢ y → ComesBefore x y ⊎ ComesBefore y x
before_or_after [] [] e ne = absurd (ne refl)
before_or_after [] (b ∷ y) e ne = absurd (omega arith)
before_or_after (a ∷ x) [] e ne = absurd (omega arith)
before_or_after (a ∷ x) (b ∷ y) e ne = elim (three_ways a b) [
  | inl l ↦ inl (inl l)
  | inr m ↦ elim m [
    | inr g ↦ inr (inl g)
    | inl s ↦ elim (before_or_after x y (omega arith) (λ rest. ne (ap₂ (λ v w. v ∷ w) s rest))) [ inl f ↦ inl (inr (s, f)) | inr f ↦ inr (inr (sym s, f)) ]
  ]
]

-- an ascending order of a list and others: what comes before them all may stand in front
record IsPut (x : List ℕ) (ys zs : List (List ℕ)) : Type 0 where
  ascending : AreAscending zs
  permutation : IsPermutation (x ∷ ys) zs
  front : (w : List ℕ) → ComesBefore w x → AreAscending (w ∷ ys) → AreAscending (w ∷ zs)

-- the same after a list that comes before
IsPut-after : (x y : List ℕ) (ys zs : List (List ℕ)) → ComesBefore y x → AreAscending (y ∷ ys) → IsPut x ys zs → IsPut x (y ∷ ys) (y ∷ zs)
IsPut-after x y ys zs b a p =
    record {
      ascending = p.front y b a;
      permutation = IsPermutation-trans (x ∷ y ∷ ys) (y ∷ x ∷ ys) (y ∷ zs) (IsPermutation-sym (y ∷ x ∷ ys) (x ∷ y ∷ ys) (IsPermutation-middle (y ∷ []) x ys)) (IsPermutation-cons y (x ∷ ys) zs p.permutation);
      front = λ w f g. (g.0, p.front y b a);
    }

-- each list has its place among ascending ones of its length that differ from it
put : (x : List ℕ) (ys : List (List ℕ)) → AreAscending ys → All (λ y. length x ≡ length y) ys → All (Differ x) ys → (zs : List (List ℕ)) × IsPut x ys zs
put x [] a long differ = (x ∷ [], record { ascending = tt; permutation = IsPermutation-refl (x ∷ []); front = λ w f g. (f, tt) })
put x (y ∷ ys) a long differ = elim (before_or_after x y (long 0 y (omega arith)) (differ 0 y (omega arith))) [
  | inl b ↦ (x ∷ y ∷ ys, record { ascending = (b, a); permutation = IsPermutation-refl (x ∷ y ∷ ys); front = λ w f g. (f, (b, a)) })
  | inr b ↦
      let rest = put x ys (AreAscending-rest y ys a) (λ k d l. long (suc k) d (omega arith)) (λ k d l. differ (suc k) d (omega arith)) in
      (y ∷ rest.0, IsPut-after x y ys rest.0 b a rest.1)
]

-- different lists of one length have an ascending order
pub ascending_order : (n : ℕ) (xs : List (List ℕ)) → All (λ x. length x ≡ n) xs → AllPairs Differ xs → (zs : List (List ℕ)) × AreAscending zs × IsPermutation xs zs
ascending_order n [] long differ = ([], tt, IsPermutation-refl [])
ascending_order n (x ∷ xs) long differ =
    let rest = ascending_order n xs (λ k d l. long (suc k) d (omega arith)) (λ i j d l m. differ (suc i) (suc j) d (omega arith) (omega arith)) in
    let here : length x ≡ n = long 0 x (omega arith) in
    let as_long : All (λ y. length x ≡ length y) xs = λ k d l. here ∙ sym (long (suc k) d (omega arith)) in
    let fresh : All (Differ x) xs = λ k d l. differ 0 (suc k) d (omega arith) (omega arith) in
    let found = put x rest.0 rest.1 (All-permutation (λ y. length x ≡ length y) xs rest.0 rest.2 as_long) (All-permutation (Differ x) xs rest.0 rest.2 fresh) in
    (found.0, found.1.ascending, IsPermutation-trans (x ∷ xs) (x ∷ rest.0) found.0 (IsPermutation-cons x xs rest.0 rest.2) found.1.permutation)

-- ---- the order that a sort gives
-- a comparison of lists that begin with the same number
cmp-same : (a b : ℕ) (x y : List ℕ) → a ≡ b → is_lt (slice_cmp nat_cmp (b ∷ y) (a ∷ x)) ≡ is_lt (slice_cmp nat_cmp y x)
cmp-same a b x y e = ap (λ o. is_lt (ordering_then o (slice_cmp nat_cmp y x))) (nat_cmp-same b a (sym e))

-- a list that begins with a smaller number is less
cmp-less : (a b : ℕ) (x y : List ℕ) → b < a → is_lt (slice_cmp nat_cmp (b ∷ y) (a ∷ x)) ≡ true
cmp-less a b x y l = ap (λ o. is_lt (ordering_then o (slice_cmp nat_cmp y x))) (nat_cmp-less b a l)

-- of two lists of one length that differ, the first comes before the second if that is not less
pub before_from_cmp : (x y : List ℕ) → length x ≡ length y → x ≢ y → is_lt (slice_cmp nat_cmp y x) ≡ false → ComesBefore x y
before_from_cmp [] [] e ne h = absurd (ne refl)
before_from_cmp [] (b ∷ y) e ne h = absurd (omega arith)
before_from_cmp (a ∷ x) [] e ne h = absurd (omega arith)
before_from_cmp (a ∷ x) (b ∷ y) e ne h = elim (three_ways a b) [
  | inl l ↦ inl l
  | inr m ↦ elim m [
    | inr g ↦ let yes = cmp-less a b x y g in cc
    | inl s ↦ inr (s, before_from_cmp x y (omega arith) (λ rest. ne (ap₂ (λ v w. v ∷ w) s rest)) (sym (cmp-same a b x y s) ∙ h))
  ]
]

-- lists ascend where each comes before the next
ascending_from_next : (xs : List (List ℕ)) → ((k : ℕ) (d : List ℕ) → k + 1 < length xs → ComesBefore (get_or xs k d) (get_or xs (suc k) d)) → AreAscending xs
ascending_from_next [] h = tt
ascending_from_next (x ∷ []) h = tt
ascending_from_next (x ∷ y ∷ xs) h = (h 0 x (omega arith), ascending_from_next (y ∷ xs) (λ k d l. h (suc k) d (omega arith)))

-- lists that differ still do in another order
pub AllPairs-permutation : (xs ys : List (List ℕ)) → IsPermutation xs ys → AllPairs Differ xs → AllPairs Differ ys
AllPairs-permutation xs ys p h = AllPairs-from_IsDistinct bytes_decides ys (IsDistinct-IsPermutation (pointwise nat_eq) nat_list_eq_equiv.symm xs ys p (IsDistinct-from_AllPairs bytes_decides xs h))

-- sorted lists of one length that differ ascend
pub ascending_from_sort : (n : ℕ) (xs : List (List ℕ)) → All (λ x. length x ≡ n) xs → AllPairs Differ xs → IsSorted (slice_cmp nat_cmp) xs → AreAscending xs
ascending_from_sort n xs long differ sorted =
    ascending_from_next xs (λ k d l. before_from_cmp (get_or xs k d) (get_or xs (suc k) d) (long k d (omega arith) ∙ sym (long (suc k) d (omega arith))) (differ k (suc k) d (omega arith) (omega arith))
    (subst (λ i. is_lt (slice_cmp nat_cmp (get_or xs i d) (get_or xs k d)) ≡ false) (add-one k) (sorted k d (omega arith) l)))
