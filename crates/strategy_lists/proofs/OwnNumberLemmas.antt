-- Numbers that are a player's own, and the place of each of them.
use Rattle.std.proofs.Common.{ℕ, suc, ◌+◌, ◌^◌, ◌<◌, ◌≡◌, inl, inr, Option, Some, None, List, [], ◌∷◌, ◌++◌, length, map, get_or, All, refl, sym, ap, subst, ◌∙◌, arith}
use Rattle.std.specs.Prelude.{IfSome, slice_index}
use Rattle.std.proofs.lemmas.Bool.{cases_lt, cases_eq}
use Rattle.std.proofs.lemmas.List.{length_push, length-map, length-set, get_or-set_same, get_or-set_other, get_or_append_left, get_or_push}
use Rattle.std.proofs.lemmas.List.Elements.{All-map}
use Rattle.std.proofs.lemmas.Option.{get_or_from_slice_get, same_Some, slice_get-get_or, slice_get_within}
use Rattle.game_theory.specs.Trees.{Tree}
use Rattle.game_core.specs.Tree.{GameTree, IsGameTree, IsBelow}
use Rattle.game_core.specs.TreeGame.{game_of_tree}
use Rattle.reduced_strategies.specs.Places.{ArePlaces}
use Rattle.game_theory.specs.OwnSets.{numbers_with}
use Rattle.game_theory.proofs.IndexLemmas.{numbers_with-at, numbers_with-last, numbers_with-length, numbers_with-other}
use Rattle.strategy_lists.specs.OwnNumbers.{counted, ArePlacesAmong}

-- so many of each player's own numbers are below n
abbrev pub AreCounts : (ℕ → Option ℕ) → ℕ → List ℕ → Type 0
AreCounts owner n counts = (i : ℕ) → i < length counts → slice_index counts i ≡ length (numbers_with owner i n)

-- ---- counts
-- one more number counts as its owner's
pub AreCounts-next : (owner : ℕ → Option ℕ) (n : ℕ) (counts : List ℕ) → AreCounts owner n counts → AreCounts owner (suc n) (counted counts (owner n))
AreCounts-next owner n counts h = go (owner n) refl
  where
    go : (o : Option ℕ) → owner n ≡ o → AreCounts owner (suc n) (counted counts o)
    go None is i below = h i below ∙ ap length (sym (numbers_with-other owner i n (λ own. cc)))
    go (Some p) is i below = elim (cases_eq i p) [
      | inl same ↦ (
          let inside : p < length counts = rw same at (rw length-set at below) in
          rw same (get_or-set_same counts p _ 0 inside) ∙ ap (λ m. m + 1) (h p inside) ∙ sym (length_push (numbers_with owner p n) n) ∙ ap length (sym (numbers_with-last owner p n is)) ∙ ap (λ x. length (numbers_with owner x (suc n))) (sym same))
      | inr other ↦ get_or-set_other counts p i _ 0 other ∙ h i (rw length-set at below) ∙ ap length (sym (numbers_with-other owner i n (λ own. other (same_Some i p (sym own ∙ is)))))
    ]

-- there is room for one more where the numbers are few
pub counts-room : (owner : ℕ → Option ℕ) (n : ℕ) (counts : List ℕ) (o : Option ℕ) → AreCounts owner n counts → IsBelow (length counts) o → n + 1 < 2 ^ 32 → IfSome o (λ i. get_or counts i 0 + 1 < 2 ^ 32)
counts-room owner n counts None h within few = tt
counts-room owner n counts (Some i) h within few = omega (arith, h i within, numbers_with-length owner i n)

-- a place that is an owner's count is the owner's place
pub place-counted : (owner : ℕ → Option ℕ) (n place : ℕ) (counts : List ℕ) → AreCounts owner n counts → IsBelow (length counts) (owner n) → IfSome (owner n) (λ i. place ≡ get_or counts i 0) → (i : ℕ) → owner n ≡ Some i → place ≡ length (numbers_with owner i n)
place-counted owner n place counts h within is i own =
    subst (λ o. IfSome o (λ i. place ≡ get_or counts i 0)) own is ∙ h i (subst (IsBelow (length counts)) own within)

-- each number below n has its place among its owner's own numbers
pub record ArePlacesBelow (owner : ℕ → Option ℕ) (n : ℕ) (places : List ℕ) : Type 0 where
  pub one_for_each : length places ≡ n
  pub are_places : (k i : ℕ) → k < n → owner k ≡ Some i → slice_index places k ≡ length (numbers_with owner i k)

-- one more number has the place that its owner's count says
pub ArePlacesBelow-next : (owner : ℕ → Option ℕ) (n place : ℕ) (places : List ℕ) → ((i : ℕ) → owner n ≡ Some i → place ≡ length (numbers_with owner i n)) → ArePlacesBelow owner n places → ArePlacesBelow owner (suc n) (places ++ place ∷ [])
ArePlacesBelow-next owner n place places is h = record {
  one_for_each = length_push places place ∙ omega (arith, h.one_for_each);
  are_places = λ k i below own. elim (cases_lt k n) [
    | inl early ↦ get_or_append_left places (place ∷ []) 0 k (omega (arith, h.one_for_each)) ∙ h.are_places k i early own
    | inr last ↦ at_last k i (omega arith) own
  ];
}
  where
    at_last : (k i : ℕ) → k ≡ n → owner k ≡ Some i → get_or (places ++ place ∷ []) k 0 ≡ length (numbers_with owner i k)
    at_last k i same own = get_or_push places place 0 k (h.one_for_each ∙ sym same) ∙ is i (ap owner (sym same) ∙ own) ∙ ap (λ x. length (numbers_with owner i x)) (sym same)

-- the numbers below the last are all numbers
pub ArePlacesAmong-all : (owners : List (Option ℕ)) (n : ℕ) (places : List ℕ) → n ≡ length owners → ArePlacesBelow (λ k. get_or owners k None) n places → ArePlacesAmong owners places
ArePlacesAmong-all owners n places all h = record {
  one_for_each = h.one_for_each ∙ all;
  are_places = λ k i own. h.are_places k i (omega (arith, all, slice_get_within owners k (Some i) own)) (get_or_from_slice_get owners k (Some i) None own);
}

-- places among the owners of the sets are the places of the sets
ArePlaces-below : (t : Tree) (places : List ℕ) → ArePlacesBelow t.owner t.sets places → ArePlaces t places
ArePlaces-below t places h = record {
  one_for_each = h.one_for_each;
  are_places = λ s i below own. rw (h.are_places s i below own) (numbers_with-at t.owner i s t.sets below own);
}

-- the same by the list of the owners
pub ArePlaces-owners : (t : GameTree) (owners : List (Option ℕ)) (places : List ℕ) → owners ≡ map (λ set. set.owner) t.sets → ArePlacesAmong owners places → ArePlaces (game_of_tree t) places
ArePlaces-owners t owners places is h =
    let below : ArePlacesBelow (λ k. get_or owners k None) (length owners) places = record {
      one_for_each = h.one_for_each;
      are_places = λ k i inside own. h.are_places k i (slice_get-get_or owners k None inside ∙ ap Some own);
    } in
    let by_sets = subst (λ xs. ArePlacesBelow (λ k. get_or xs k None) (length xs) places) is below in
    ArePlaces-below (game_of_tree t) places (subst (λ n. ArePlacesBelow (game_of_tree t).owner n places) (length-map t.sets (λ set. set.owner)) by_sets)

-- the owners of the sets are players
pub owners-within : (t : GameTree) (owners : List (Option ℕ)) → IsGameTree t → owners ≡ map (λ set. set.owner) t.sets → All (IsBelow (length t.players)) owners
owners-within t owners valid is =
    rw is (All-map (IsBelow (length t.players)) (λ set. set.owner) t.sets (λ s d below. (valid.sets_fit s (get_or t.sets s d) (slice_get-get_or t.sets s d below)).owner_within))
