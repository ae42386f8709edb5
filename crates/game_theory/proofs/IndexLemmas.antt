-- The numbers with one index, and the place of each of them.
use Rattle.std.proofs.Common.{ℕ, zero, suc, ◌+◌, ◌<◌, ◌≤◌, ◌≡◌, ◌∙◌, inl, inr, Bool, true, false, cond, Decides, Option, Some, None, List, [], ◌∷◌, ◌++◌, length, map, get_or, slice_get, All, refl, sym, ap, ap₂, subst, add-one, arith}
use Rattle.std.specs.Prelude.{◌↔◌, IfSome, filter}
use Rattle.std.specs.List.{range_with_len}
use Rattle.std.proofs.lemmas.Bool.{cases_eq, cases_lt, eqb-true, false_from_ne_true}
use Rattle.std.proofs.lemmas.List.{append-nil, length_push, length-map, map_push, get_or_append_left, get_or_push}
use Rattle.std.proofs.lemmas.List.Elements.{All-map, filter-append}
use Rattle.std.proofs.lemmas.Option.{none-some, same_Some, slice_get_within}
use Rattle.lists.proofs.ElementLemmas.{element, slice_get-end, slice_get-longer, slice_get-push_cases, range-last, filter-same, filter-none}
use Rattle.game_theory.specs.Behaviour.{is_index}
use Rattle.game_theory.specs.OwnSets.{numbers_with, places_with}
use Rattle.game_theory.proofs.OwnSetLemmas.{is_index-decides}

-- ---- numbers below a bound
module _ (index : ℕ → Option ℕ) (i : ℕ) where
  -- one more number comes last where it has the index
  pub numbers_with-next : (n : ℕ) → numbers_with index i (suc n) ≡ numbers_with index i n ++ cond (is_index (index n) i) (n ∷ []) []
  numbers_with-next n = ap (filter has) (range-last n) ∙ filter-append has (range_with_len 0 n) (n ∷ [])
    where
      has : ℕ → Bool
      has k = is_index (index k) i

  -- a number with the index comes last
  pub numbers_with-last : (n : ℕ) → index n ≡ Some i → numbers_with index i (suc n) ≡ numbers_with index i n ++ n ∷ []
  numbers_with-last n is = numbers_with-next n ∙ ap (λ b. numbers_with index i n ++ cond b (n ∷ []) []) ((is_index-decides (index n) i).1 is)

  -- another number is left out
  pub numbers_with-other : (n : ℕ) → (index n ≡ Some i → ⊥) → numbers_with index i (suc n) ≡ numbers_with index i n
  numbers_with-other n other =
      numbers_with-next n ∙ ap (λ b. numbers_with index i n ++ cond b (n ∷ []) []) (false_from_ne_true (is_index (index n) i) (λ e. other ((is_index-decides (index n) i).0 e)))
      ∙ append-nil (numbers_with index i n)

  -- there are no more than the numbers below n
  pub numbers_with-length : (n : ℕ) → length (numbers_with index i n) ≤ n
  numbers_with-length zero = omega arith
  numbers_with-length (suc n) = go (is_index (index n) i) (numbers_with-next n) (numbers_with-length n)
    where
      go : (b : Bool) → numbers_with index i (suc n) ≡ numbers_with index i n ++ cond b (n ∷ []) [] → length (numbers_with index i n) ≤ n → length (numbers_with index i (suc n)) ≤ suc n
      go true is h = omega (arith, ap length is, length_push (numbers_with index i n) n)
      go false is h = omega (arith, ap length (is ∙ append-nil (numbers_with index i n)))

  -- a number with the index has as many before it as are below it
  pub numbers_with-at : (k n : ℕ) → k < n → index k ≡ Some i → slice_get (numbers_with index i n) (length (numbers_with index i k)) ≡ Some k
  numbers_with-at k zero below here = absurd (omega arith)
  numbers_with-at k (suc n) below here = elim (cases_lt k n) [ inl early ↦ go (is_index (index n) i) (numbers_with-next n) (numbers_with-at k n early here) | inr last ↦ at_last (omega arith) ]
    where
      go : (b : Bool) → numbers_with index i (suc n) ≡ numbers_with index i n ++ cond b (n ∷ []) [] → slice_get (numbers_with index i n) (length (numbers_with index i k)) ≡ Some k → slice_get (numbers_with index i (suc n)) (length (numbers_with index i k)) ≡ Some k
      go true is h = ap (λ xs. slice_get xs (length (numbers_with index i k))) is ∙ slice_get-longer (numbers_with index i n) (n ∷ []) _ k h
      go false is h = ap (λ xs. slice_get xs (length (numbers_with index i k))) (is ∙ append-nil (numbers_with index i n)) ∙ h

      at_last : k ≡ n → slice_get (numbers_with index i (suc n)) (length (numbers_with index i k)) ≡ Some k
      at_last same = rw (numbers_with-last n (subst (λ x. index x ≡ Some i) same here), same) (slice_get-end (numbers_with index i n) n)

  -- what stands at a place has the index, and so many before it
  pub numbers_with-tell : (n j k : ℕ) → slice_get (numbers_with index i n) j ≡ Some k → (k < n) × (index k ≡ Some i) × (j ≡ length (numbers_with index i k))
  numbers_with-tell zero j k h = absurd (none-some k h)
  numbers_with-tell (suc n) j k h = go (is_index (index n) i) (is_index-decides (index n) i) (numbers_with-tell n j k) (ap (λ xs. slice_get xs j) (sym (numbers_with-next n)) ∙ h)
    where
      go : (b : Bool) → Decides b (index n ≡ Some i) → (slice_get (numbers_with index i n) j ≡ Some k → (k < n) × (index k ≡ Some i) × (j ≡ length (numbers_with index i k))) → slice_get (numbers_with index i n ++ cond b (n ∷ []) []) j ≡ Some k → (k < suc n) × (index k ≡ Some i) × (j ≡ length (numbers_with index i k))
      go true d early h = elim (slice_get-push_cases (numbers_with index i n) n j k h) [
        | inl before ↦ let r = early before in (omega (arith, r.0), r.1, r.2)
        | inr last ↦ (omega (arith, last.1), subst (λ x. index x ≡ Some i) (sym last.1) (d.0 refl), last.0 ∙ ap (λ x. length (numbers_with index i x)) (sym last.1))
      ]
      go false d early h = let r = early (ap (λ xs. slice_get xs j) (sym (append-nil (numbers_with index i n))) ∙ h) in (omega (arith, r.0), r.1, r.2)

  -- a number stands at one place
  pub numbers_with-place : (n j l k : ℕ) → slice_get (numbers_with index i n) j ≡ Some k → slice_get (numbers_with index i n) l ≡ Some k → j ≡ l
  numbers_with-place n j l k h g = (numbers_with-tell n j k h).2 ∙ sym (numbers_with-tell n l k g).2

  -- what stands at a later place is greater
  pub numbers_with-ascend : (n j l k m : ℕ) → j < l → slice_get (numbers_with index i n) j ≡ Some k → slice_get (numbers_with index i n) l ≡ Some m → k < m
  numbers_with-ascend n j l k m before h g =
      let first = numbers_with-tell n j k h in
      let second = numbers_with-tell n l m g in
      elim (cases_lt k m) [
        | inl less ↦ less
        | inr past ↦ elim (cases_eq m k) [
          | inl same ↦ absurd (omega (arith, first.2, second.2, ap (λ x. length (numbers_with index i x)) same))
          | inr apart ↦ absurd (omega (arith, first.2, second.2, slice_get_within (numbers_with index i k) (length (numbers_with index i m)) m (numbers_with-at m k (omega arith) second.1)))
        ]
      ]

  -- there is one number exactly where each number with the index is that number
  pub numbers_with-one : (n k : ℕ) → k < n → index k ≡ Some i → (length (numbers_with index i n) ≡ 1) ↔ ((c : ℕ) → c < n → index c ≡ Some i → c ≡ k)
  numbers_with-one n k below here = (same, one)
    where
      first : length (numbers_with index i n) ≡ 1 → (c : ℕ) → c < n → index c ≡ Some i → slice_get (numbers_with index i n) 0 ≡ Some c
      first e c l is =
          let at = numbers_with-at c n l is in
          let start = slice_get_within (numbers_with index i n) (length (numbers_with index i c)) c at in
          let zero_is : length (numbers_with index i c) ≡ 0 = omega (arith, start, e) in
          subst (λ j. slice_get (numbers_with index i n) j ≡ Some c) zero_is at

      same : length (numbers_with index i n) ≡ 1 → (c : ℕ) → c < n → index c ≡ Some i → c ≡ k
      same e c l is = same_Some c k (sym (first e c l is) ∙ first e k below here)

      one : ((c : ℕ) → c < n → index c ≡ Some i → c ≡ k) → length (numbers_with index i n) ≡ 1
      one all =
          let at = numbers_with-at k n below here in
          let start = slice_get_within (numbers_with index i n) (length (numbers_with index i k)) k at in
          elim (cases_lt 1 (length (numbers_with index i n))) [
            | inl more ↦ let x = element (numbers_with index i n) 0 (omega arith) in let y = element (numbers_with index i n) 1 more in
                let of_x = numbers_with-tell n 0 x.0 x.1 in let of_y = numbers_with-tell n 1 y.0 y.1 in
                absurd (omega (arith, numbers_with-ascend n 0 1 x.0 y.0 (omega arith) x.1 y.1, all x.0 of_x.0 of_x.1, all y.0 of_y.0 of_y.1))
            | inr few ↦ omega (arith, few, start)
          ]

-- ---- places of a list
module _ {A : Type 0} (index : A → Option ℕ) where
  -- one more element's place comes last where it has the index
  places_with-push : (xs : List A) (x : A) (i : ℕ) → places_with index (xs ++ x ∷ []) i ≡ places_with index xs i ++ cond (is_index (index x) i) (length xs ∷ []) []
  places_with-push xs x i =
      ap (λ n. filter has (range_with_len 0 n)) (length_push xs x ∙ add-one (length xs)) ∙ ap (filter has) (range-last (length xs)) ∙ filter-append has (range_with_len 0 (length xs)) (length xs ∷ [])
      ∙ ap₂ (λ ks b. ks ++ cond b (length xs ∷ []) []) (filter-same has _ 0 (length xs) before) at_last
    where
      has : ℕ → Bool
      has k = is_index (get_or (map index (xs ++ x ∷ [])) k None) i

      before : (k : ℕ) → k < 0 + length xs → has k ≡ is_index (get_or (map index xs) k None) i
      before k below = ap (λ o. is_index o i) (ap (λ os. get_or os k None) (map_push index xs x) ∙ get_or_append_left (map index xs) (index x ∷ []) None k (omega (arith, below, length-map xs index)))

      at_last : has (length xs) ≡ is_index (index x) i
      at_last = ap (λ o. is_index o i) (ap (λ os. get_or os (length xs) None) (map_push index xs x) ∙ get_or_push (map index xs) (index x) None (length xs) (length-map xs index))

  -- an element with the index adds its place
  pub places_with-last : (xs : List A) (x : A) (i : ℕ) → is_index (index x) i ≡ true → places_with index (xs ++ x ∷ []) i ≡ places_with index xs i ++ length xs ∷ []
  places_with-last xs x i here = places_with-push xs x i ∙ ap (λ b. places_with index xs i ++ cond b (length xs ∷ []) []) here

  -- another element adds nothing
  pub places_with-other : (xs : List A) (x : A) (i : ℕ) → is_index (index x) i ≡ false → places_with index (xs ++ x ∷ []) i ≡ places_with index xs i
  places_with-other xs x i other = places_with-push xs x i ∙ ap (λ b. places_with index xs i ++ cond b (length xs ∷ []) []) other ∙ append-nil (places_with index xs i)

  -- an index past all those of the elements has no place
  pub places_with-past : (xs : List A) (bound i : ℕ) → All (λ x. IfSome (index x) (λ j. j < bound)) xs → bound ≤ i → places_with index xs i ≡ []
  places_with-past xs bound i within past =
      filter-none _ 0 (length xs) (λ k below. other (get_or (map index xs) k None) (All-map (λ o. IfSome o (λ j. j < bound)) index xs within k None (omega (arith, below, length-map xs index))))
    where
      other : (o : Option ℕ) → IfSome o (λ j. j < bound) → is_index o i ≡ false
      other None h = refl
      other (Some j) h = false_from_ne_true _ (λ same. let e = eqb-true j i same in absurd (omega arith))
