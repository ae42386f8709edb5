-- The places of values while they are made and written.
use Rattle.std.proofs.Common.{ℕ, ◌+◌, ◌<◌, ◌≡◌, ◌≢◌, ◌⊎◌, inl, inr, Option, None, List, [], ◌∷◌, ◌++◌, length, map, get_or, set, All, sym, ap, ◌∙◌, subst, arith}
use Rattle.std.specs.Prelude.{IfSome, slice_index_or}
use Rattle.std.proofs.lemmas.Bool.{cases_eq}
use Rattle.std.proofs.lemmas.List.{length-map, length-set, length_push, map-append, map-set, get_or_append_left, get_or_push, get_or-set_same, get_or-set_other}
use Rattle.rational.specs.Rational.{ℚ}
use Rattle.game_theory.specs.Trees.{Tree}
use Rattle.pure_payoffs.specs.Settled.{IsSettled, Settles, IsPlace, KeepValues}
use Rattle.pure_payoffs.specs.declared.settled.Settled.{Settled}
use Rattle.pure_payoffs.proofs.FilledListLemmas.{list-read}

-- a place that is free
pub free-place : (t : Tree) (k i : ℕ) (places : List (Option ℚ)) → IsSettled t k → All (λ place. place ≡ None) places → i < length places → IsPlace t k i (get_or places i None)
free-place t k i places h free l = record { settled = h; value = subst (λ place. IfSome place (Settles t i k)) (sym (free i None l)) tt }

-- the places of the first n nodes
pub record HavePlaces (t : Tree) (n : ℕ) (lists : List (List (Option ℚ))) : Type 0 where
  pub one_for_each : length lists ≡ n
  pub places : (k i : ℕ) → k < n → i < length (slice_index_or lists k []) → IsPlace t k i (slice_index_or (slice_index_or lists k []) i None)

-- the places of all nodes are the values that are kept
pub values-kept : (t : Tree) (settled : Settled) → HavePlaces t t.size (map (λ v. v.items) settled.places.items) → KeepValues t settled
values-kept t settled h = record {
  one_for_each = sym (length-map settled.places.items (λ v. v.items)) ∙ h.one_for_each;
  places = h.places;
}

-- and the other way round
pub places-kept : (t : Tree) (settled : Settled) → KeepValues t settled → HavePlaces t t.size (map (λ v. v.items) settled.places.items)
places-kept t settled h = record {
  one_for_each = length-map settled.places.items (λ v. v.items) ∙ h.one_for_each;
  places = h.places;
}

module _ (t : Tree) (n : ℕ) (lists : List (List (Option ℚ))) (h : HavePlaces t n lists) where
  -- the places of one more node
  places-more : (list : List (Option ℚ)) → ((i : ℕ) → i < length list → IsPlace t n i (get_or list i None)) → HavePlaces t (n + 1) (lists ++ list ∷ [])
  places-more list more = record {
    one_for_each = length_push lists list ∙ ap (λ m. m + 1) h.one_for_each;
    places = λ k i l m. go k i l m (cases_eq k n);
  }
    where
      go : (k i : ℕ) → k < n + 1 → i < length (get_or (lists ++ list ∷ []) k []) → (k ≡ n) ⊎ (k ≢ n) → IsPlace t k i (get_or (get_or (lists ++ list ∷ []) k []) i None)
      go k i l m (inl same) =
          let here : get_or (lists ++ list ∷ []) k [] ≡ list = get_or_push lists list [] k (h.one_for_each ∙ sym same) in
          subst (λ xs. IsPlace t k i (get_or xs i None)) (sym here) (subst (λ x. IsPlace t x i (get_or list i None)) (sym same) (more i (subst (λ xs. i < length xs) here m)))
      go k i l m (inr other) =
          let here : get_or (lists ++ list ∷ []) k [] ≡ get_or lists k [] = get_or_append_left lists (list ∷ []) [] k (omega (arith, h.one_for_each)) in
          subst (λ xs. IsPlace t k i (get_or xs i None)) (sym here) (h.places k i (omega arith) (subst (λ xs. i < length xs) here m))

  module _ (node player : ℕ) (place : Option ℚ) (inside : node < n) (within : player < length (get_or lists node [])) (is : IsPlace t node player place) where
    -- the node's places with the one that is written
    abbrev written : List (Option ℚ)
    written = set (get_or lists node []) player place

    -- all places with it
    abbrev all_written : List (List (Option ℚ))
    all_written = set lists node written

    -- the places of the node
    at_node : (k i : ℕ) → k ≡ node → i < length written → (i ≡ player) ⊎ (i ≢ player) → IsPlace t k i (get_or written i None)
    at_node k i same l (inl e) =
        let here : get_or written i None ≡ place = ap (λ x. get_or written x None) e ∙ get_or-set_same (get_or lists node []) player place None within in
        subst (IsPlace t k i) (sym here) (subst (λ x. IsPlace t x i place) (sym same) (subst (λ x. IsPlace t node x place) (sym e) is))
    at_node k i same l (inr e) =
        let here : get_or written i None ≡ get_or (get_or lists node []) i None = get_or-set_other (get_or lists node []) player i place None e in
        let old = h.places node i inside (omega (arith, l, length-set (get_or lists node []) player place)) in
        subst (IsPlace t k i) (sym here) (subst (λ x. IsPlace t x i (get_or (get_or lists node []) i None)) (sym same) old)

    -- the other nodes keep theirs
    by_node : (k i : ℕ) → k < n → i < length (get_or all_written k []) → (k ≡ node) ⊎ (k ≢ node) → IsPlace t k i (get_or (get_or all_written k []) i None)
    by_node k i l m (inl e) =
        let here : get_or all_written k [] ≡ written = ap (λ x. get_or all_written x []) e ∙ get_or-set_same lists node written [] (omega (arith, h.one_for_each)) in
        subst (λ xs. IsPlace t k i (get_or xs i None)) (sym here) (at_node k i e (subst (λ xs. i < length xs) here m) (cases_eq i player))
    by_node k i l m (inr e) =
        let here : get_or all_written k [] ≡ get_or lists k [] = get_or-set_other lists node k written [] e in
        subst (λ xs. IsPlace t k i (get_or xs i None)) (sym here) (h.places k i l (subst (λ xs. i < length xs) here m))

    -- a place is written
    places-written : HavePlaces t n all_written
    places-written = record {
      one_for_each = length-set lists node written ∙ h.one_for_each;
      places = λ k i l m. by_node k i l m (cases_eq k node);
    }

-- ---- the same, seen by the elements of vectors
module _ {V : Type 0} (f : V → List (Option ℚ)) (t : Tree) (n : ℕ) (lists : List V) (h : HavePlaces t n (map f lists)) where
  -- the places of one more node are added
  pub places-pushed : (list : V) → ((i : ℕ) → i < length (f list) → IsPlace t n i (get_or (f list) i None)) → HavePlaces t (n + 1) (map f (lists ++ list ∷ []))
  places-pushed list more = rw map-append (places-more t n (map f lists) h (f list) more)

  module _ (node player : ℕ) (old : V) (inside : node < n) (old_is : old ≡ get_or lists node old) (within : player < length (f old)) where
    -- the places of a node
    row : get_or (map f lists) node [] ≡ f old
    row = list-read f lists node old (omega (arith, h.one_for_each, length-map lists f)) old_is

    -- what stands in a place is right
    pub place-read : IsPlace t node player (get_or (f old) player None)
    place-read = subst (λ xs. IsPlace t node player (get_or xs player None)) row (h.places node player inside (subst (λ xs. player < length xs) (sym row) within))

    -- what is right is written
    pub place-written : (new : V) (place : Option ℚ) → f new ≡ set (f old) player place → IsPlace t node player place → HavePlaces t n (map f (set lists node new))
    place-written new place new_is is =
        let list : f new ≡ set (get_or (map f lists) node []) player place = new_is ∙ ap (λ xs. set xs player place) (sym row) in
        rw map-set (rw list (places-written t n (map f lists) h node player place inside (subst (λ xs. player < length xs) (sym row) within) is))
