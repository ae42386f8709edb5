-- Things that are used by number, each listed once, in the order of their first use: what one more use makes of the list.
use Rattle.std.proofs.Common.{◌≡◌, ℕ, Bool, true, false, ◌||◌, inl, inr, List, [], ◌∷◌, ◌++◌, map, filter, slice_get, slice_set, option_map, Some, None, Decides, true≢false, refl, sym, ap, ap₂, ◌∙◌, subst}
use Rattle.std.specs.List.{position_or_len, list_any}
use Rattle.std.proofs.lemmas.Bool.{cases_Bool}
use Rattle.std.proofs.lemmas.List.{append-nil, map-append}
use Rattle.std.proofs.lemmas.List.Elements.{filter-append}
use Rattle.std.proofs.lemmas.List.Sums.{fold-append}
use Rattle.std.proofs.lemmas.Option.{slice_get-map}
use Rattle.std.proofs.Math.Bool.{or_assoc, or-false}
use Rattle.indexmap.specs.IndexSet.{insert_key, insert_all}
use Rattle.written_trees.proofs.InsertedKeyLemmas.{AreDistinct, AreDistinct-insert_all, any_inserted, insert_key-known, insert_key-new, eq_self, eq_comm, or_true, slice_get-none, slice_get-found, position-kept, position-inserted, map-others, map-one}

-- ---- a filter and its test
module _ {X : Type 0} (p : X → Bool) where
  -- nothing is kept where nothing passes
  filter-none : (xs : List X) → list_any p xs ≡ false → filter p xs ≡ []
  filter-none [] h = refl
  filter-none (x ∷ xs) h = elim (cases_Bool (p x)) [
    | inl e ↦ absurd (true≢false (rw e at h))
    | inr e ↦ rw e (filter-none xs (rw e at h))
  ]

  -- nothing passes where nothing is kept
  none-filter : (xs : List X) → filter p xs ≡ [] → list_any p xs ≡ false
  none-filter [] h = refl
  none-filter (x ∷ xs) h = elim (cases_Bool (p x)) [
    | inl e ↦ absurd (let kept : x ∷ filter p xs ≡ [] = rw e at h in cc)
    | inr e ↦ rw e (none-filter xs (rw e at h))
  ]

  -- something passes where something is kept
  any-filter : (xs : List X) (x : X) (kept : List X) → filter p xs ≡ x ∷ kept → list_any p xs ≡ true
  any-filter xs x kept h = elim (cases_Bool (list_any p xs)) [ inl e ↦ e | inr e ↦ absurd (let none = filter-none xs e in cc) ]

-- ---- what was used
module _ {K U : Type 0} (eq : K → K → Bool) (key : U → K) where
  -- the keys, in the order of their first use
  abbrev pub firsts : List (ℕ × U) → List K
  firsts uses = insert_all eq [] (map (λ x. key x.1) uses)

  -- the uses of one
  abbrev pub uses_of : K → List (ℕ × U) → List (ℕ × U)
  uses_of k uses = filter (λ x. eq k (key x.1)) uses

module _ {K U : Type 0} (eq : K → K → Bool) (key : U → K) (decides : (a b : K) → Decides (eq a b) (a ≡ b)) where
  -- one more use inserts its key
  firsts-push : (uses : List (ℕ × U)) (n : ℕ) (u : U) → firsts eq key (uses ++ (n, u) ∷ []) ≡ insert_key eq (firsts eq key uses) (key u)
  firsts-push uses n u = ap (insert_all eq []) (map-append (λ x. key x.1) uses ((n, u) ∷ [])) ∙ fold-append (insert_key eq) [] (map (λ x. key x.1) uses) (key u ∷ [])

  -- each key stands there once
  firsts-distinct : (uses : List (ℕ × U)) → AreDistinct eq (firsts eq key uses)
  firsts-distinct uses = AreDistinct-insert_all eq decides (map (λ x. key x.1) uses) [] tt

  -- a key is there where it was before, or where a use has it
  any_inserted_from : (ks : List K) (k : K) (uses : List (ℕ × U)) → list_any (eq k) (insert_all eq ks (map (λ x. key x.1) uses)) ≡ (list_any (eq k) ks || list_any (λ x. eq k (key x.1)) uses)
  any_inserted_from ks k [] = sym (or-false (list_any (eq k) ks))
  any_inserted_from ks k (x ∷ uses) =
      any_inserted_from (insert_key eq ks (key x.1)) k uses
      ∙ ap (λ b. b || list_any (λ x. eq k (key x.1)) uses) (any_inserted eq decides ks (key x.1) k)
      ∙ or_assoc (list_any (eq k) ks) (eq k (key x.1)) (list_any (λ x. eq k (key x.1)) uses)

  -- a key stands in the list where a use has it
  any_firsts : (k : K) (uses : List (ℕ × U)) → list_any (eq k) (firsts eq key uses) ≡ list_any (λ x. eq k (key x.1)) uses
  any_firsts k uses = any_inserted_from [] k uses

  -- one more use
  module _ (uses : List (ℕ × U)) (n : ℕ) (u : U) where
    -- its key is used
    pub is_used : list_any (eq (key u)) (firsts eq key (uses ++ (n, u) ∷ [])) ≡ true
    is_used = rw (firsts-push uses n u, any_inserted eq decides (firsts eq key uses) (key u) (key u), eq_self eq decides (key u)) (or_true (list_any (eq (key u)) (firsts eq key uses)))

    -- the keys that were used stay so
    pub stay_used : (k : K) → list_any (eq k) (firsts eq key uses) ≡ true → list_any (eq k) (firsts eq key (uses ++ (n, u) ∷ [])) ≡ true
    stay_used k h = rw (firsts-push uses n u, any_inserted eq decides (firsts eq key uses) (key u) k, h) refl

    -- and keep their places
    pub places_stay : (k : K) → list_any (eq k) (firsts eq key uses) ≡ true → position_or_len (eq k) (firsts eq key (uses ++ (n, u) ∷ [])) ≡ position_or_len (eq k) (firsts eq key uses)
    places_stay k h = rw (firsts-push uses n u) (position-kept eq decides (firsts eq key uses) (key u) k h)

    -- its own key stands where it was looked for before
    pub place_stays : position_or_len (eq (key u)) (firsts eq key (uses ++ (n, u) ∷ [])) ≡ position_or_len (eq (key u)) (firsts eq key uses)
    place_stays = rw (firsts-push uses n u) (position-inserted eq decides (firsts eq key uses) (key u))

    -- the uses of another key stay
    uses_of-other : (k : K) → eq k (key u) ≡ false → uses_of eq key k (uses ++ (n, u) ∷ []) ≡ uses_of eq key k uses
    uses_of-other k h = rw (filter-append (λ x. eq k (key x.1)) uses ((n, u) ∷ []), h) (append-nil (uses_of eq key k uses))

    -- those of its own key are one more
    pub uses_of-own : uses_of eq key (key u) (uses ++ (n, u) ∷ []) ≡ uses_of eq key (key u) uses ++ (n, u) ∷ []
    uses_of-own = rw (filter-append (λ x. eq (key u) (key x.1)) uses ((n, u) ∷ []), eq_self eq decides (key u)) refl

    -- what held of the uses of each key holds afterwards, where it does for its own
    pub holds_after : (P : List (ℕ × U) → Type 0) → ((k : K) → P (uses_of eq key k uses)) → P (uses_of eq key (key u) uses ++ (n, u) ∷ []) → (k : K) → P (uses_of eq key k (uses ++ (n, u) ∷ []))
    holds_after P before own k = elim (cases_Bool (eq k (key u))) [
      | inl e ↦ subst (λ k. P (uses_of eq key k (uses ++ (n, u) ∷ []))) (sym ((decides k (key u)).0 e)) (subst P (sym uses_of-own) own)
      | inr e ↦ subst P (sym (uses_of-other k e)) (before k)
    ]

    -- and held before, where the uses without the last keep it
    pub holds_before : (P : List (ℕ × U) → Type 0) → ((k : K) → P (uses_of eq key k (uses ++ (n, u) ∷ []))) → (P (uses_of eq key (key u) uses ++ (n, u) ∷ []) → P (uses_of eq key (key u) uses)) → (k : K) → P (uses_of eq key k uses)
    holds_before P after front k = elim (cases_Bool (eq k (key u))) [
      | inl e ↦ subst (λ k. P (uses_of eq key k uses)) (sym ((decides k (key u)).0 e)) (front (subst P uses_of-own (after (key u))))
      | inr e ↦ subst P (uses_of-other k e) (after k)
    ]

-- ---- what the uses make
-- for each key what its uses make
abbrev pub numbered : {K U V : Type 0} → (K → K → Bool) → (U → K) → (K → List (ℕ × U) → V) → List (ℕ × U) → List V
numbered eq key view uses = map (λ k. view k (uses_of eq key k uses)) (firsts eq key uses)

module _ {K U V : Type 0} (eq : K → K → Bool) (key : U → K) (decides : (a b : K) → Decides (eq a b) (a ≡ b)) (view : K → List (ℕ × U) → V) (uses : List (ℕ × U)) (n : ℕ) (u : U) where
  -- what is made for another key stays
  other_stays : (k : K) → eq (key u) k ≡ false → view k (uses_of eq key k (uses ++ (n, u) ∷ [])) ≡ view k (uses_of eq key k uses)
  other_stays k h = ap (view k) (uses_of-other eq key decides uses n u k (eq_comm eq decides k (key u) ∙ h))

  -- what is made for its own key
  own_view : view (key u) (uses_of eq key (key u) (uses ++ (n, u) ∷ [])) ≡ view (key u) (uses_of eq key (key u) uses ++ (n, u) ∷ [])
  own_view = ap (view (key u)) (uses_of-own eq key decides uses n u)

  -- its key has no use yet
  module _ (new : uses_of eq key (key u) uses ≡ []) where
    -- it is not in the list
    not_there : list_any (eq (key u)) (firsts eq key uses) ≡ false
    not_there = any_firsts eq key decides (key u) uses ∙ none-filter (λ x. eq (key u) (key x.1)) uses new

    -- nothing stands at its place
    pub new_place : slice_get (numbered eq key view uses) (position_or_len (eq (key u)) (firsts eq key uses)) ≡ None
    new_place =
        slice_get-map (λ k. view k (uses_of eq key k uses)) (firsts eq key uses) (position_or_len (eq (key u)) (firsts eq key uses))
        ∙ ap (option_map (λ k. view k (uses_of eq key k uses))) (slice_get-none (eq (key u)) (firsts eq key uses) not_there)

    -- what its first use makes comes last
    pub new_numbered : numbered eq key view (uses ++ (n, u) ∷ []) ≡ numbered eq key view uses ++ view (key u) ((n, u) ∷ []) ∷ []
    new_numbered =
        let own : view (key u) (uses_of eq key (key u) (uses ++ (n, u) ∷ [])) ≡ view (key u) ((n, u) ∷ []) = own_view ∙ ap (λ l. view (key u) (l ++ (n, u) ∷ [])) new in
        ap (map (λ k. view k (uses_of eq key k (uses ++ (n, u) ∷ [])))) (firsts-push eq key decides uses n u ∙ insert_key-new eq decides (firsts eq key uses) (key u) not_there)
        ∙ map-append (λ k. view k (uses_of eq key k (uses ++ (n, u) ∷ []))) (firsts eq key uses) (key u ∷ [])
        ∙ ap₂ (λ vs v. vs ++ v ∷ []) (map-others eq decides (λ k. view k (uses_of eq key k uses)) (λ k. view k (uses_of eq key k (uses ++ (n, u) ∷ []))) (key u) (firsts eq key uses) other_stays not_there) own

  -- its key has uses
  module _ (first : ℕ × U) (later : List (ℕ × U)) (known : uses_of eq key (key u) uses ≡ first ∷ later) where
    -- it is in the list
    there : list_any (eq (key u)) (firsts eq key uses) ≡ true
    there = any_firsts eq key decides (key u) uses ∙ any-filter (λ x. eq (key u) (key x.1)) uses first later known

    -- what its uses make stands at its place
    pub known_place : slice_get (numbered eq key view uses) (position_or_len (eq (key u)) (firsts eq key uses)) ≡ Some (view (key u) (first ∷ later))
    known_place =
        slice_get-map (λ k. view k (uses_of eq key k uses)) (firsts eq key uses) (position_or_len (eq (key u)) (firsts eq key uses))
        ∙ ap (option_map (λ k. view k (uses_of eq key k uses))) (slice_get-found eq decides (firsts eq key uses) (key u) there)
        ∙ ap (λ l. Some (view (key u) l)) known

    -- what one more use makes takes its place
    pub known_numbered : numbered eq key view (uses ++ (n, u) ∷ []) ≡ slice_set (numbered eq key view uses) (position_or_len (eq (key u)) (firsts eq key uses)) (view (key u) (first ∷ (later ++ (n, u) ∷ [])))
    known_numbered =
        let own : view (key u) (uses_of eq key (key u) (uses ++ (n, u) ∷ [])) ≡ view (key u) (first ∷ (later ++ (n, u) ∷ [])) = own_view ∙ ap (λ l. view (key u) (l ++ (n, u) ∷ [])) known in
        ap (map (λ k. view k (uses_of eq key k (uses ++ (n, u) ∷ [])))) (firsts-push eq key decides uses n u ∙ insert_key-known eq decides (firsts eq key uses) (key u) there)
        ∙ map-one eq decides (λ k. view k (uses_of eq key k uses)) (λ k. view k (uses_of eq key k (uses ++ (n, u) ∷ []))) (key u) (firsts eq key uses) (firsts-distinct eq key decides uses) other_stays
        ∙ ap (slice_set (numbered eq key view uses) (position_or_len (eq (key u)) (firsts eq key uses))) own
