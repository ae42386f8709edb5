-- The sets of a cut, as its nodes name them in turn.
use Rattle.std.proofs.Common.{ℕ, ◌+◌, ◌<◌, ◌≤◌, ◌≡◌, ◌≢◌, ◌⊎◌, inl, inr, Bool, true, false, cond, Option, Some, None, List, [], ◌∷◌, ◌++◌, length, get_or, slice_get, set, refl, sym, ap, ◌∙◌, subst, arith}
use Rattle.std.specs.List.{list_any}
use Rattle.std.specs.Prelude.{Contains, nat_eq}
use Rattle.std.proofs.lemmas.Bool.{cases_eq, cases_lt, eqb-true}
use Rattle.std.proofs.lemmas.Cmp.{nat_eq_equiv}
use Rattle.std.proofs.lemmas.List.{get_or_append_left, get_or_push, length_push, length-set, get_or-set_same, get_or-set_other}
use Rattle.std.proofs.lemmas.List.Elements.{Contains-get_or, Contains-push_cases}
use Rattle.std.proofs.lemmas.Map.Views.{list_any-from_Contains}
use Rattle.std.proofs.lemmas.Option.{get_or_from_slice_get, slice_get_within, same_Some, none-some}
use Rattle.indexmap.specs.IndexSet.{insert_key}
use Rattle.lists.proofs.ElementLemmas.{slice_get-end, slice_get-longer, slice_get-push_cases}
use Rattle.game_core.specs.Tree.{AreInOrderOfFirstUse}
use Rattle.game_core.proofs.FirstUseLemmas.{in_order-name, in_order-names}
use Rattle.subgames.specs.CutGames.{IsSameSet}
use Rattle.lists.specs.Listed.{IsIndexOf}
use Rattle.lists.proofs.ListedLemmas.{index-none, none-index}
use Rattle.subgames.specs.CutParts.{AreIndicesIn, AreSetNames, HasNumber}

-- ---- numbers of sets
-- with one more number at the end
pub indices-longer : (numbers : List ℕ) (k c : ℕ) → c ≢ k → (index : Option ℕ) → IsIndexOf numbers c index → IsIndexOf (numbers ++ k ∷ []) c index
indices-longer numbers k c other None out = none-index (numbers ++ k ∷ []) c (λ found. elim (Contains-push_cases numbers k c found) [ inl old ↦ index-none numbers c out old | inr last ↦ other (sym last) ])
indices-longer numbers k c other (Some j) at = (omega (arith, at.0, length_push numbers k), get_or_append_left numbers (k ∷ []) 0 j at.0 ∙ at.1)

-- a number that does not stand there is added
pub indices-push : (numbers : List ℕ) (bound k : ℕ) (indices : List (Option ℕ)) → k < bound → AreIndicesIn numbers bound indices → AreIndicesIn (numbers ++ k ∷ []) bound (set indices k (Some (length numbers)))
indices-push numbers bound k indices below h = record {
  one_for_each = length-set indices k (Some (length numbers)) ∙ h.one_for_each;
  are = λ c within. elim (cases_eq c k) [
    | inl same ↦ subst (IsIndexOf (numbers ++ k ∷ []) c) (sym (ap (λ x. get_or (set indices k (Some (length numbers))) x None) same ∙ get_or-set_same indices k (Some (length numbers)) None (omega (arith, h.one_for_each)))) (omega (arith, length_push numbers k), get_or_push numbers k 0 (length numbers) refl ∙ sym same)
    | inr other ↦ subst (IsIndexOf (numbers ++ k ∷ []) c) (sym (get_or-set_other indices k c (Some (length numbers)) None other)) (indices-longer numbers k c other (get_or indices c None) (h.are c within))
  ];
}

-- a set that is inserted has its index as its number
pub number-inserted : (s : ℕ) (old new : List ℕ) (r k : ℕ) → new ≡ insert_key nat_eq old s → slice_get new r ≡ Some k → nat_eq s k ≡ true → HasNumber s old new r
number-inserted s old new r k is at same = record { stands = told (list_any (nat_eq s) old) refl; here = (slice_get_within new r k at, value) }
  where
    value : get_or new r 0 ≡ s
    value = get_or_from_slice_get new r k 0 at ∙ sym (eqb-true s k same)

    last : new ≡ old ++ s ∷ [] → (Contains old s → ⊥) → r ≡ length old
    last longer out = elim (cases_lt r (length old)) [
      | inl early ↦ absurd (out (subst (Contains old) (sym (get_or_append_left old (s ∷ []) 0 r early) ∙ ap (λ xs. get_or xs r 0) (sym longer) ∙ value) (Contains-get_or old r 0 early)))
      | inr late ↦ omega (arith, late, slice_get_within new r k at, ap length longer, length_push old s)
    ]

    told : (b : Bool) → list_any (nat_eq s) old ≡ b → (new ≡ old) ⊎ ((new ≡ old ++ s ∷ []) × (r ≡ length old) × ¬ Contains old s)
    told true known = inl (is ∙ ap (λ b. cond b old (old ++ s ∷ [])) known)
    told false fresh =
        let longer : new ≡ old ++ s ∷ [] = is ∙ ap (λ b. cond b old (old ++ s ∷ [])) fresh in
        let out : ¬ Contains old s = λ found. (let h : false ≡ true = sym fresh ∙ list_any-from_Contains nat_eq_equiv s old found in cc) in
        inr (longer, last longer out, out)

-- ---- names of sets
-- a set that the cut has, where it has one more
same-longer : (sets : List ℕ) (s : ℕ) (key name : Option ℕ) → IsSameSet sets key name → IsSameSet (sets ++ s ∷ []) key name
same-longer sets s None None h = tt
same-longer sets s None (Some r) h = absurd h
same-longer sets s (Some k) None h = absurd h
same-longer sets s (Some k) (Some r) h = (omega (arith, h.0, length_push sets s), get_or_append_left sets (s ∷ []) 0 r h.0 ∙ h.1)

module _ (keys names : List (Option ℕ)) (sets : List ℕ) (h : AreSetNames keys names sets) where
  -- one more name, of such a set
  next-same : (key name : Option ℕ) (more : List ℕ) → IsSameSet more key name → ((k n : Option ℕ) → IsSameSet sets k n → IsSameSet more k n) → (j : ℕ) → j < length (keys ++ key ∷ []) → IsSameSet more (get_or (keys ++ key ∷ []) j None) (get_or (names ++ name ∷ []) j None)
  next-same key name more this others j below = elim (cases_lt j (length keys)) [
    | inl early ↦ rw (get_or_append_left keys (key ∷ []) None j early, get_or_append_left names (name ∷ []) None j (omega (arith, early, h.one_for_each))) (others _ _ (h.same j early))
    | inr last ↦ let at : length keys ≡ j = omega (arith, last, below, length_push keys key) in rw (get_or_push keys key None j at, get_or_push names name None j (h.one_for_each ∙ at)) this
  ]

  -- names that stay in order with one more
  next-order : (name : Option ℕ) → ((s r : ℕ) → name ≡ Some s → r < s → r < length sets) → AreInOrderOfFirstUse (names ++ name ∷ [])
  next-order name low = in_order-names (names ++ name ∷ []) (λ k s r is below. elim (slice_get-push_cases names name k (Some s) is) [
    | inl early ↦ let first = in_order-name names h.in_order k s r early below in (first.0, first.1, slice_get-longer names (name ∷ []) first.0 (Some r) first.2)
    | inr last ↦ let first = h.used r (low s r (sym last.1) below) in (first.0, omega (arith, last.0, slice_get_within names first.0 (Some r) first.1), slice_get-longer names (name ∷ []) first.0 (Some r) first.1)
  ])

  -- one more node without a set, or with one of these sets
  pub names-old : (key name : Option ℕ) → IsSameSet sets key name → ((s : ℕ) → name ≡ Some s → s < length sets) → AreSetNames (keys ++ key ∷ []) (names ++ name ∷ []) sets
  names-old key name this low = record {
    one_for_each = length_push names name ∙ ap (λ n. n + 1) h.one_for_each ∙ sym (length_push keys key);
    same = next-same key name sets this (λ k n is. is);
    used = λ r below. let first = h.used r below in (first.0, slice_get-longer names (name ∷ []) first.0 (Some r) first.1);
    in_order = next-order name (λ s r is below. omega (arith, low s is, below));
    no_more = omega (arith, h.no_more, length_push names name);
    differ = h.differ;
  }

  -- one more node with a set of its own
  pub names-new : (s : ℕ) → (Contains sets s → ⊥) → AreSetNames (keys ++ Some s ∷ []) (names ++ Some (length sets) ∷ []) (sets ++ s ∷ [])
  names-new s out = record {
    one_for_each = length_push names _ ∙ ap (λ n. n + 1) h.one_for_each ∙ sym (length_push keys _);
    same = next-same (Some s) (Some (length sets)) (sets ++ s ∷ []) (omega (arith, length_push sets s), get_or_push sets s 0 (length sets) refl) (same-longer sets s);
    used = λ r below. elim (cases_lt r (length sets)) [
      | inl early ↦ let first = h.used r early in (first.0, slice_get-longer names (Some (length sets) ∷ []) first.0 (Some r) first.1)
      | inr last ↦ let at : length sets ≡ r = omega (arith, last, below, length_push sets s) in (length names, slice_get-end names (Some (length sets)) ∙ ap (λ n. Some (Some n)) at)
    ];
    in_order = next-order (Some (length sets)) (λ n r is below. let same = same_Some (length sets) n is in omega (arith, same, below));
    no_more = omega (arith, h.no_more, length_push sets s, length_push names (Some (length sets)));
    differ = differ;
  }
    where
      new-at : (r q : ℕ) → r < length sets → length sets ≤ q → q < length (sets ++ s ∷ []) → get_or (sets ++ s ∷ []) r 0 ≡ get_or (sets ++ s ∷ []) q 0 → ⊥
      new-at r q early last below same =
          let own = get_or_push sets s 0 q (omega (arith, last, below, length_push sets s)) in
          out (subst (Contains sets) (sym (get_or_append_left sets (s ∷ []) 0 r early) ∙ same ∙ own) (Contains-get_or sets r 0 early))

      differ : (r q : ℕ) → r < length (sets ++ s ∷ []) → q < length (sets ++ s ∷ []) → get_or (sets ++ s ∷ []) r 0 ≡ get_or (sets ++ s ∷ []) q 0 → r ≡ q
      differ r q below other same = elim (cases_lt r (length sets)) [
        | inl early ↦ elim (cases_lt q (length sets)) [
          | inl both ↦ h.differ r q early both (sym (get_or_append_left sets (s ∷ []) 0 r early) ∙ same ∙ get_or_append_left sets (s ∷ []) 0 q both)
          | inr last ↦ absurd (new-at r q early last other same)
        ]
        | inr last ↦ elim (cases_lt q (length sets)) [
          | inl early ↦ absurd (new-at q r early last below (sym same))
          | inr both ↦ omega (arith, last, both, below, other, length_push sets s)
        ]
      ]

  -- one more node with a set that is given its number
  pub names-numbered : (s r : ℕ) (more : List ℕ) → HasNumber s sets more r → AreSetNames (keys ++ Some s ∷ []) (names ++ Some r ∷ []) more
  names-numbered s r more number = elim number.stands [
    | inl same ↦ subst (AreSetNames (keys ++ Some s ∷ []) (names ++ Some r ∷ [])) (sym same) (names-old (Some s) (Some r) (subst (λ xs. (r < length xs) × (get_or xs r 0 ≡ s)) same number.here) (λ n is. let at = same_Some r n is in omega (arith, at, number.here.0, ap length same)))
    | inr new ↦ rw (new.0, new.1) (names-new s new.2)
  ]

  -- one more node without a set
  pub names-none_more : AreSetNames (keys ++ None ∷ []) (names ++ None ∷ []) sets
  names-none_more = names-old None None tt (λ s is. absurd (none-some s is))
