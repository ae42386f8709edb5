-- Keys that are inserted one after another stand each once, in the order of their first uses, and no other list has them so.
use Rattle.std.proofs.Common.{◌≡◌, ◌↔◌, ℕ, zero, suc, ◌<◌, ◌⊎◌, inl, inr, Bool, true, false, Decides, true≢false, List, [], ◌∷◌, ◌++◌, length, slice_get, Contains, Option, Some, None, option_map, IfSome, refl, sym, ap, ◌∙◌, subst, arith}
use Rattle.std.specs.List.{list_any, position_or_len}
use Rattle.std.proofs.lemmas.Bool.{cases_Bool, or_left, or_right, false_from_ne_true}
use Rattle.std.proofs.lemmas.List.{length_push}
use Rattle.std.proofs.lemmas.List.Sums.{fold-append}
use Rattle.std.proofs.lemmas.Map.Views.{Contains-from_any}
use Rattle.std.proofs.lemmas.Option.{same_Some, slice_get_within, slice_get-get_or, get_or_from_slice_get}
use Rattle.indexmap.specs.IndexSet.{insert_key, insert_all}
use Rattle.lists.proofs.ElementLemmas.{slice_get-end, slice_get-longer, slice_get-push_cases}
use Rattle.written_trees.specs.Described.{IsFirstUse, AreFirstUses, Names}
use Rattle.written_trees.proofs.InsertedKeyLemmas.{insert_key-known, insert_key-new, slice_get-found}
use Rattle.written_trees.proofs.ListLemmas.{at_end}

-- ---- elements and their places
-- an element stands at some place
place_in : {K : Type 0} (xs : List K) (x : K) → Contains xs x → (i : ℕ) × (slice_get xs i ≡ Some x)
place_in xs x c = (c.0, slice_get-get_or xs c.0 x c.1 ∙ ap Some c.2)

-- what stands at a place is an element
contains_at : {K : Type 0} (xs : List K) (i : ℕ) (x : K) → slice_get xs i ≡ Some x → Contains xs x
contains_at xs i x e = (i, slice_get_within xs i x e, get_or_from_slice_get xs i x x e)

-- an element stays when one more comes
contains_longer : {K : Type 0} (xs : List K) (y x : K) → Contains xs x → Contains (xs ++ y ∷ []) x
contains_longer xs y x c = let p = place_in xs x c in contains_at (xs ++ y ∷ []) p.0 x (slice_get-longer xs (y ∷ []) p.0 x p.1)

-- the one that comes is an element
contains_last : {K : Type 0} (xs : List K) (y : K) → Contains (xs ++ y ∷ []) y
contains_last xs y = contains_at (xs ++ y ∷ []) (length xs) y (slice_get-end xs y)

-- an element was one before, or is the one that came
contains_cases : {K : Type 0} (xs : List K) (y x : K) → Contains (xs ++ y ∷ []) x → Contains xs x ⊎ (x ≡ y)
contains_cases xs y x c =
    let p = place_in (xs ++ y ∷ []) x c in
    elim (slice_get-push_cases xs y p.0 x p.1) [ inl e ↦ inl (contains_at xs p.0 x e) | inr e ↦ inr e.1 ]

-- ---- first uses
-- a first use among fewer uses is one among more
first_longer : {K : Type 0} (us : List K) (x : K) (p : ℕ) (key : K) → IsFirstUse us p key → IsFirstUse (us ++ x ∷ []) p key
first_longer us x p key h = record {
  is_there = slice_get-longer us (x ∷ []) p key h.is_there;
  none_before = λ q less e.
      let below : p < length us = slice_get_within us p key h.is_there in
      elim (slice_get-push_cases us x q key e) [ inl f ↦ h.none_before q less f | inr f ↦ absurd (omega (arith, f.0)) ];
}

-- and the other way for a key that was used before
first_shorter : {K : Type 0} (us : List K) (x : K) (p : ℕ) (key : K) → Contains us key → IsFirstUse (us ++ x ∷ []) p key → IsFirstUse us p key
first_shorter us x p key c h =
    let at = place_in us key c in
    let inside : at.0 < length us = slice_get_within us at.0 key at.1 in
    record {
      is_there = elim (slice_get-push_cases us x p key h.is_there) [
        | inl e ↦ e
        | inr e ↦ absurd (h.none_before at.0 (omega (arith, e.0)) (slice_get-longer us (x ∷ []) at.0 key at.1))
      ];
      none_before = λ q less e. h.none_before q less (slice_get-longer us (x ∷ []) q key e);
    }

-- a key that was not used before is used last
first_last : {K : Type 0} (us : List K) (x : K) (q : ℕ) → (Contains us x → ⊥) → IsFirstUse (us ++ x ∷ []) q x → q ≡ length us
first_last us x q new h = elim (slice_get-push_cases us x q x h.is_there) [ inl e ↦ absurd (new (contains_at us q x e)) | inr e ↦ e.0 ]

-- and that is its first use
last_first : {K : Type 0} (us : List K) (x : K) → (Contains us x → ⊥) → IsFirstUse (us ++ x ∷ []) (length us) x
last_first us x new = record {
  is_there = slice_get-end us x;
  none_before = λ q less e. elim (slice_get-push_cases us x q x e) [ inl f ↦ new (contains_at us q x f) | inr f ↦ absurd (omega (arith, f.0)) ];
}

-- ---- one more use
-- no uses
none_used : {K : Type 0} → AreFirstUses {K = K} [] []
none_used = record { none_twice = λ i j key a b. cc; same_keys = λ key. (λ c. c, λ c. c); ascending = λ i j p q one other a b f g less. cc }

-- a key that is used again
used_again : {K : Type 0} (us ks : List K) (x : K) → AreFirstUses us ks → Contains ks x → AreFirstUses (us ++ x ∷ []) ks
used_again us ks x h there = record {
  none_twice = h.none_twice;
  same_keys = λ key. (λ c. contains_longer us x key ((h.same_keys key).0 c), λ c. elim (contains_cases us x key c) [ inl d ↦ (h.same_keys key).1 d | inr e ↦ subst (Contains ks) (sym e) there ]);
  ascending = λ i j p q one other a b f g less.
      h.ascending i j p q one other a b (first_shorter us x p one ((h.same_keys one).0 (contains_at ks i one a)) f) (first_shorter us x q other ((h.same_keys other).0 (contains_at ks j other b)) g) less;
}

-- and the other way
not_used_again : {K : Type 0} (us keys : List K) (x : K) → AreFirstUses (us ++ x ∷ []) keys → Contains us x → AreFirstUses us keys
not_used_again us keys x h there = record {
  none_twice = h.none_twice;
  same_keys = λ key. (λ c. elim (contains_cases us x key ((h.same_keys key).0 c)) [ inl d ↦ d | inr e ↦ subst (Contains us) (sym e) there ], λ c. (h.same_keys key).1 (contains_longer us x key c));
  ascending = λ i j p q one other a b f g less. h.ascending i j p q one other a b (first_longer us x p one f) (first_longer us x q other g) less;
}

-- a new key comes last
new_used : {K : Type 0} (us ks : List K) (x : K) → AreFirstUses us ks → (Contains ks x → ⊥) → AreFirstUses (us ++ x ∷ []) (ks ++ x ∷ [])
new_used {K} us ks x h new = record { none_twice = twice; same_keys = same; ascending = ascend }
  where
    used : (i : ℕ) (key : K) → slice_get ks i ≡ Some key → Contains us key
    used i key e = (h.same_keys key).0 (contains_at ks i key e)

    not_used : Contains us x → ⊥
    not_used c = new ((h.same_keys x).1 c)

    twice : (i j : ℕ) (key : K) → slice_get (ks ++ x ∷ []) i ≡ Some key → slice_get (ks ++ x ∷ []) j ≡ Some key → i ≡ j
    twice i j key a b = go (slice_get-push_cases ks x i key a) (slice_get-push_cases ks x j key b)
      where
        go : (slice_get ks i ≡ Some key) ⊎ ((i ≡ length ks) × (key ≡ x)) → (slice_get ks j ≡ Some key) ⊎ ((j ≡ length ks) × (key ≡ x)) → i ≡ j
        go (inl e) (inl f) = h.none_twice i j key e f
        go (inl e) (inr f) = absurd (new (contains_at ks i x (e ∙ ap Some f.1)))
        go (inr e) (inl f) = absurd (new (contains_at ks j x (f ∙ ap Some e.1)))
        go (inr e) (inr f) = e.0 ∙ sym f.0

    same : (key : K) → Contains (ks ++ x ∷ []) key ↔ Contains (us ++ x ∷ []) key
    same key = (
      λ c. elim (contains_cases ks x key c) [ inl d ↦ contains_longer us x key ((h.same_keys key).0 d) | inr e ↦ subst (Contains (us ++ x ∷ [])) (sym e) (contains_last us x) ],
      λ c. elim (contains_cases us x key c) [ inl d ↦ contains_longer ks x key ((h.same_keys key).1 d) | inr e ↦ subst (Contains (ks ++ x ∷ [])) (sym e) (contains_last ks x) ],
    )

    ascend : (i j p q : ℕ) (one other : K) → slice_get (ks ++ x ∷ []) i ≡ Some one → slice_get (ks ++ x ∷ []) j ≡ Some other → IsFirstUse (us ++ x ∷ []) p one → IsFirstUse (us ++ x ∷ []) q other → i < j → p < q
    ascend i j p q one other a b f g less = go (slice_get-push_cases ks x i one a) (slice_get-push_cases ks x j other b)
      where
        go : (slice_get ks i ≡ Some one) ⊎ ((i ≡ length ks) × (one ≡ x)) → (slice_get ks j ≡ Some other) ⊎ ((j ≡ length ks) × (other ≡ x)) → p < q
        go (inl e) (inl d) = h.ascending i j p q one other e d (first_shorter us x p one (used i one e) f) (first_shorter us x q other (used j other d) g) less
        go (inl e) (inr d) =
            let within : p < length us = slice_get_within us p one ((first_shorter us x p one (used i one e) f).is_there) in
            let last : q ≡ length us = first_last us x q not_used (subst (IsFirstUse (us ++ x ∷ []) q) d.1 g) in
            omega arith
        go (inr e) (inl d) = absurd (omega (arith, e.0, slice_get_within ks j other d))
        go (inr e) (inr d) = absurd (omega (arith, e.0, d.0))

-- the keys before one that comes last
front_used : {K : Type 0} (us front : List K) (x : K) → AreFirstUses (us ++ x ∷ []) (front ++ x ∷ []) → (Contains us x → ⊥) → AreFirstUses us front
front_used {K} us front x h new = record {
  none_twice = λ i j key a b. h.none_twice i j key (longer i key a) (longer j key b);
  same_keys = λ key. (
    λ c. elim (contains_cases us x key ((h.same_keys key).0 (contains_longer front x key c))) [ inl d ↦ d | inr e ↦ absurd (not_there (subst (Contains front) e c)) ],
    λ c. elim (contains_cases front x key ((h.same_keys key).1 (contains_longer us x key c))) [ inl d ↦ d | inr e ↦ absurd (new (subst (Contains us) e c)) ],
  );
  ascending = λ i j p q one other a b f g less. h.ascending i j p q one other (longer i one a) (longer j other b) (first_longer us x p one f) (first_longer us x q other g) less;
}
  where
    longer : (i : ℕ) (key : K) → slice_get front i ≡ Some key → slice_get (front ++ x ∷ []) i ≡ Some key
    longer i key e = slice_get-longer front (x ∷ []) i key e

    not_there : Contains front x → ⊥
    not_there c =
        let p = place_in front x c in
        let same : p.0 ≡ length front = h.none_twice p.0 (length front) x (longer p.0 x p.1) (slice_get-end front x) in
        omega (arith, same, slice_get_within front p.0 x p.1)

-- a list whose last element this is
last_split : {K : Type 0} (keys : List K) (i : ℕ) (x : K) → slice_get keys i ≡ Some x → ((j : ℕ) (key : K) → i < j → slice_get keys j ≡ Some key → ⊥) → (front : List K) × (keys ≡ front ++ x ∷ [])
last_split [] i x e none = cc
last_split (k ∷ []) zero x e none = ([], ap (λ v. v ∷ []) (same_Some k x e))
last_split (k ∷ next ∷ keys) zero x e none = absurd (none 1 next (omega arith) refl)
last_split (k ∷ keys) (suc i) x e none = let r = last_split keys i x e (λ j key less f. none (suc j) key (omega arith) f) in (k ∷ r.0, ap (λ v. k ∷ v) r.1)

-- ---- keys that are inserted
module _ {K : Type 0} (eq : K → K → Bool) (decides : (a b : K) → Decides (eq a b) (a ≡ b)) where
  -- the test finds what stands at a place
  any_at : (ks : List K) (i : ℕ) (x : K) → slice_get ks i ≡ Some x → list_any (eq x) ks ≡ true
  any_at [] i x e = cc
  any_at (k ∷ ks) zero x e = or_left (eq x k) (list_any (eq x) ks) ((decides x k).1 (sym (same_Some k x e)))
  any_at (k ∷ ks) (suc i) x e = or_right (eq x k) (list_any (eq x) ks) (any_at ks i x e)

  -- and so an element
  any_in : (ks : List K) (x : K) → Contains ks x → list_any (eq x) ks ≡ true
  any_in ks x c = let p = place_in ks x c in any_at ks p.0 x p.1

  -- what the test finds is an element
  in_any : (ks : List K) (x : K) → list_any (eq x) ks ≡ true → Contains ks x
  in_any ks x e = Contains-from_any (λ a b. (decides a b).0) x ks e

  -- what it does not find is none
  not_in : (ks : List K) (x : K) → list_any (eq x) ks ≡ false → Contains ks x → ⊥
  not_in ks x e c = true≢false (sym (any_in ks x c) ∙ e)

  -- an element is used for the first time somewhere
  first_of : (us : List K) (key : K) → Contains us key → (p : ℕ) × IsFirstUse us p key
  first_of = at_end (λ us. (key : K) → Contains us key → (p : ℕ) × IsFirstUse us p key) (λ key c. absurd (omega (arith, c.1))) more
    where
      more : (us : List K) (x : K) → ((key : K) → Contains us key → (p : ℕ) × IsFirstUse us p key) → (key : K) → Contains (us ++ x ∷ []) key → (p : ℕ) × IsFirstUse (us ++ x ∷ []) p key
      more us x before key c = elim (cases_Bool (list_any (eq key) us)) [
        | inl known ↦ let r = before key (in_any us key known) in (r.0, first_longer us x r.0 key r.1)
        | inr new ↦ elim (contains_cases us x key c) [
          | inl d ↦ absurd (not_in us key new d)
          | inr e ↦ (length us, subst (IsFirstUse (us ++ x ∷ []) (length us)) (sym e) (last_first us x (subst (λ k. Contains us k → ⊥) e (not_in us key new))))
        ]
      ]

  -- one more key is inserted
  insert_all-push : (us : List K) (x : K) → insert_all eq [] (us ++ x ∷ []) ≡ insert_key eq (insert_all eq [] us) x
  insert_all-push us x = fold-append (insert_key eq) [] us (x ∷ [])

  -- keys that are inserted stand in the order of their first uses
  pub inserted : (us : List K) → AreFirstUses us (insert_all eq [] us)
  inserted = at_end (λ us. AreFirstUses us (insert_all eq [] us)) none_used more
    where
      more : (us : List K) (x : K) → AreFirstUses us (insert_all eq [] us) → AreFirstUses (us ++ x ∷ []) (insert_all eq [] (us ++ x ∷ []))
      more us x h = elim (cases_Bool (list_any (eq x) (insert_all eq [] us))) [
        | inl known ↦ subst (AreFirstUses (us ++ x ∷ [])) (sym (insert_all-push us x ∙ insert_key-known eq decides (insert_all eq [] us) x known)) (used_again us (insert_all eq [] us) x h (in_any (insert_all eq [] us) x known))
        | inr new ↦ subst (AreFirstUses (us ++ x ∷ [])) (sym (insert_all-push us x ∙ insert_key-new eq decides (insert_all eq [] us) x new)) (new_used us (insert_all eq [] us) x h (not_in (insert_all eq [] us) x new))
      ]

  -- a key that is used last stands last
  lasts : (us keys : List K) (x : K) → AreFirstUses (us ++ x ∷ []) keys → (Contains us x → ⊥) → (front : List K) × (keys ≡ front ++ x ∷ [])
  lasts us keys x h new =
      let at = place_in keys x ((h.same_keys x).1 (contains_last us x)) in
      last_split keys at.0 x at.1
      (λ j key less e.
      let first = first_of (us ++ x ∷ []) key ((h.same_keys key).0 (contains_at keys j key e)) in
      let inside : first.0 < length (us ++ x ∷ []) = slice_get_within (us ++ x ∷ []) first.0 key first.1.is_there in
      let after : length us < first.0 = h.ascending at.0 j (length us) first.0 x key at.1 e (last_first us x new) first.1 less in
      omega (arith, inside, after, length_push us x))

  -- keys in the order of their first uses are those that are inserted
  pub determined : (us keys : List K) → AreFirstUses us keys → keys ≡ insert_all eq [] us
  determined = at_end (λ us. (keys : List K) → AreFirstUses us keys → keys ≡ insert_all eq [] us) none more
    where
      none : (keys : List K) → AreFirstUses [] keys → keys ≡ []
      none [] h = refl
      none (k ∷ keys) h = let c = (h.same_keys k).0 (contains_at (k ∷ keys) 0 k refl) in absurd (omega (arith, c.1))

      more : (us : List K) (x : K) → ((keys : List K) → AreFirstUses us keys → keys ≡ insert_all eq [] us) → (keys : List K) → AreFirstUses (us ++ x ∷ []) keys → keys ≡ insert_all eq [] (us ++ x ∷ [])
      more us x before keys h = elim (cases_Bool (list_any (eq x) us)) [
        | inl known ↦
            let there : Contains (insert_all eq [] us) x = ((inserted us).same_keys x).1 (in_any us x known) in
            before keys (not_used_again us keys x h (in_any us x known)) ∙ sym (insert_all-push us x ∙ insert_key-known eq decides (insert_all eq [] us) x (any_in (insert_all eq [] us) x there))
        | inr new ↦
            let l = lasts us keys x h (not_in us x new) in
            let front : l.0 ≡ insert_all eq [] us = before l.0 (front_used us l.0 x (subst (AreFirstUses (us ++ x ∷ [])) l.1 h) (not_in us x new)) in
            let fresh : list_any (eq x) (insert_all eq [] us) ≡ false = false_from_ne_true (list_any (eq x) (insert_all eq [] us)) (λ e. not_in us x new (((inserted us).same_keys x).0 (in_any (insert_all eq [] us) x e))) in
            l.1 ∙ ap (λ v. v ++ x ∷ []) front ∙ sym (insert_all-push us x ∙ insert_key-new eq decides (insert_all eq [] us) x fresh)
      ]

  -- the number that names a key is its place
  pub names_number : {U : Type 0} (key : U → K) (us keys : List K) (n : Option ℕ) (o : Option U) → AreFirstUses us keys → Names keys n (option_map key o) → n ≡ option_map (λ u. position_or_len (eq (key u)) keys) o
  names_number key us keys None None h e = refl
  names_number key us keys None (Some u) h e = absurd e
  names_number key us keys (Some n) None h e = absurd e
  names_number key us keys (Some n) (Some u) h e = ap Some (h.none_twice n (position_or_len (eq (key u)) keys) (key u) e (slice_get-found eq decides keys (key u) (any_at keys n (key u) e)))

  -- and the other way
  pub number_names : {U : Type 0} (key : U → K) (keys : List K) (o : Option U) → IfSome o (λ u. list_any (eq (key u)) keys ≡ true) → Names keys (option_map (λ u. position_or_len (eq (key u)) keys) o) (option_map key o)
  number_names key keys None h = tt
  number_names key keys (Some u) h = slice_get-found eq decides keys (key u) h
