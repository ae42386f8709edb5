-- The sets and the outcomes that written nodes use are numbered by their first use.
use Rattle.std.proofs.Common.{◌≡◌, ℕ, suc, ◌<◌, ◌||◌, nat_eq, Bool, true, inl, inr, List, [], ◌∷◌, length, map, Option, Some, None, option_map, Decides, refl, sym, ap, ap₂, ◌∙◌, subst, add-one}
use Rattle.std.specs.List.{position_or_len, list_any}
use Rattle.std.proofs.lemmas.Bool.{cases_Bool}
use Rattle.std.proofs.lemmas.Bool.Decides.{Decides-eqb}
use Rattle.std.proofs.lemmas.List.{length_push}
use Rattle.std.proofs.lemmas.Option.{slice_get_within}
use Rattle.written_trees.proofs.NumberedKeyLemmas.{sets_of, outcomes_of, AreNumberedFor}
use Rattle.indexmap.specs.IndexSet.{insert_key, insert_all}
use Rattle.game_core.specs.declared.tree.Node.{Node}
use Rattle.game_core.specs.Tree.{AreInOrderOfFirstUse}
use Rattle.game_core.proofs.FirstUseLemmas.{AreNumberedFrom, in_order}
use Rattle.written_trees.specs.Written.{OutcomeUse, WrittenNode}
use Rattle.written_trees.specs.Described.{SetKey, key_of, same_set, with_number, uses_from, set_uses, outcome_uses}
use Rattle.written_trees.proofs.InsertedKeyLemmas.{or_true, eq_self, slice_get-found, position-none, position-kept, position-inserted, insert_key-known, insert_key-new, any_inserted}
use Rattle.written_trees.proofs.SetUseLemmas.{same_set-Decides}

-- those that are there
abbrev present : {K : Type 0} → List (Option K) → List K
present [] = []
present (None ∷ keys) = present keys
present (Some x ∷ keys) = x ∷ present keys

-- ---- keys that are used in turn
module _ {K : Type 0} (eq : K → K → Bool) (decides : (a b : K) → Decides (eq a b) (a ≡ b)) where
  -- their places in a list of keys
  abbrev places : List K → List (Option K) → List (Option ℕ)
  places keys used = map (λ o. option_map (λ x. position_or_len (eq x) keys) o) used

  -- a key that is there keeps its place where others are inserted
  position-kept_all : (ks xs : List K) (x : K) → list_any (eq x) ks ≡ true → position_or_len (eq x) (insert_all eq ks xs) ≡ position_or_len (eq x) ks
  position-kept_all ks [] x there = refl
  position-kept_all ks (y ∷ xs) x there =
      position-kept_all (insert_key eq ks y) xs x (any_inserted eq decides ks y x ∙ ap (λ b. b || eq x y) there) ∙ position-kept eq decides ks y x there

  -- the place of a key that is inserted before others
  position-first : (ks xs : List K) (x : K) → position_or_len (eq x) (insert_all eq (insert_key eq ks x) xs) ≡ position_or_len (eq x) ks
  position-first ks xs x =
      position-kept_all (insert_key eq ks x) xs x (any_inserted eq decides ks x x ∙ ap (λ b. list_any (eq x) ks || b) (eq_self eq decides x) ∙ or_true (list_any (eq x) ks))
      ∙ position-inserted eq decides ks x

  -- each is one of the keys before, or the next
  places-numbered : (ks keys : List K) (used : List (Option K)) → keys ≡ insert_all eq ks (present used) → AreNumberedFrom (length ks) (places keys used)
  places-numbered ks keys [] e = tt
  places-numbered ks keys (None ∷ used) e = places-numbered ks keys used e
  places-numbered ks keys (Some x ∷ used) e = elim (cases_Bool (list_any (eq x) ks)) [
    | inl known ↦ inl (
      subst (λ n. n < length ks) (sym place) (slice_get_within ks (position_or_len (eq x) ks) x (slice_get-found eq decides ks x known)),
      places-numbered ks keys used (e ∙ ap (λ list. insert_all eq list (present used)) (insert_key-known eq decides ks x known)),
    )
    | inr new ↦ inr (
      place ∙ position-none (eq x) ks new,
      subst (λ n. AreNumberedFrom n (places keys used)) (ap length (insert_key-new eq decides ks x new) ∙ length_push ks x ∙ add-one (length ks)) (places-numbered (insert_key eq ks x) keys used e),
    )
  ]
    where
      place : position_or_len (eq x) keys ≡ position_or_len (eq x) ks
      place = ap (position_or_len (eq x)) e ∙ position-first ks (present used) x

-- ---- the nodes of a tree
-- the keys that written nodes use
abbrev used_keys : {K U : Type 0} → (U → K) → (WrittenNode → Option U) → List WrittenNode → List (Option K)
used_keys key used written = map (λ one. option_map key (used one)) written

-- those of their uses
uses-present : {K U : Type 0} (key : U → K) (used : WrittenNode → Option U) (n : ℕ) (written : List WrittenNode) → map (λ (x : ℕ × U). key x.1) (uses_from used n written) ≡ present (used_keys key used written)
uses-present key used n [] = refl
uses-present {K} {U} key used n (one ∷ written) = by (used one) (uses-present key used (suc n) written)
  where
    rest : List (ℕ × U)
    rest = uses_from used (suc n) written

    by : (o : Option U) → map (λ (x : ℕ × U). key x.1) rest ≡ present (used_keys key used written) → map (λ (x : ℕ × U). key x.1) (with_number n o rest) ≡ present (option_map key o ∷ used_keys key used written)
    by None h = h
    by (Some u) h = ap (λ keys. key u ∷ keys) h

-- the number of a key
number-place : {K U : Type 0} (eq : K → K → Bool) (key : U → K) (keys : List K) (o : Option U) → option_map (λ u. position_or_len (eq (key u)) keys) o ≡ option_map (λ x. position_or_len (eq x) keys) (option_map key o)
number-place eq key keys None = refl
number-place eq key keys (Some u) = refl

-- the sets that nodes name
set-places : (keys : List SetKey) (labels : List ℕ) (nodes : List Node) (written : List WrittenNode) → AreNumberedFor keys labels nodes written → map (λ node. node.set) nodes ≡ places same_set same_set-Decides keys (used_keys key_of (λ one. one.set) written)
set-places keys labels [] [] h = refl
set-places keys labels [] (one ∷ written) h = absurd h
set-places keys labels (node ∷ nodes) [] h = absurd h
set-places keys labels (node ∷ nodes) (one ∷ written) h = ap₂ (λ name names. name ∷ names) (h.0.set_is ∙ number-place same_set key_of keys one.set) (set-places keys labels nodes written h.1)

-- the outcomes that nodes name
outcome-places : (keys : List SetKey) (labels : List ℕ) (nodes : List Node) (written : List WrittenNode) → AreNumberedFor keys labels nodes written → map (λ node. node.outcome) nodes ≡ places nat_eq Decides-eqb labels (used_keys (λ (u : OutcomeUse). u.label) (λ one. one.outcome) written)
outcome-places keys labels [] [] h = refl
outcome-places keys labels [] (one ∷ written) h = absurd h
outcome-places keys labels (node ∷ nodes) [] h = absurd h
outcome-places keys labels (node ∷ nodes) (one ∷ written) h = ap₂ (λ name names. name ∷ names) (h.0.outcome_is ∙ number-place nat_eq (λ (u : OutcomeUse). u.label) labels one.outcome) (outcome-places keys labels nodes written h.1)

module _ (written : List WrittenNode) (nodes : List Node) (stand : AreNumberedFor (sets_of (set_uses written)) (outcomes_of (outcome_uses written)) nodes written) where
  -- nodes that stand for written ones name the sets in order
  pub sets-in_order : AreInOrderOfFirstUse (map (λ node. node.set) nodes)
  sets-in_order =
      let keys = ap (insert_all same_set []) (uses-present key_of (λ one. one.set) 0 written) in
      let numbered = places-numbered same_set same_set-Decides [] (sets_of (set_uses written)) (used_keys key_of (λ one. one.set) written) keys in
      in_order _ (subst (AreNumberedFrom 0) (sym (set-places _ _ nodes written stand)) numbered)

  -- and the outcomes
  pub outcomes-in_order : AreInOrderOfFirstUse (map (λ node. node.outcome) nodes)
  outcomes-in_order =
      let keys = ap (insert_all nat_eq []) (uses-present (λ (u : OutcomeUse). u.label) (λ one. one.outcome) 0 written) in
      let numbered = places-numbered nat_eq Decides-eqb [] (outcomes_of (outcome_uses written)) (used_keys (λ (u : OutcomeUse). u.label) (λ one. one.outcome) written) keys in
      in_order _ (subst (AreNumberedFrom 0) (sym (outcome-places _ _ nodes written stand)) numbered)
