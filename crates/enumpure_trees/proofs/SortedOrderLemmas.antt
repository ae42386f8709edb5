-- The orders of all players.
use Rattle.std.proofs.Common.{ℕ, suc, ◌+◌, ◌<◌, ◌≡◌, List, [], ◌∷◌, ◌++◌, length, map, get_or, below_more, sym, ap, ◌∙◌, subst, arith}
use Rattle.std.specs.List.{range_with_len}
use Rattle.std.specs.List.Sorted.{IsPermutation}
use Rattle.std.proofs.lemmas.List.{length-map, get_or-map, get_or_append_left, get_or_push, ext_get_or}
use Rattle.std.proofs.lemmas.Option.{get_or_from_slice_get, slice_get_within}
use Rattle.game_theory.specs.Profiles.{IsProfile, profile_count, strategies_at}
use Rattle.enumpure_trees.specs.Orders.{IsOrder, AreOrders}
use Rattle.game_theory.specs.Ranks.{ranked}
use Rattle.enumpure_trees.specs.Ranks.{ranked_profile}
use Rattle.enumpure_trees.proofs.OrderedProfileLemmas.{order-of, IsProfile-ordered}
use Rattle.game_theory.proofs.RankLemmas.{IsProfile-ranked}
use Rattle.enumpure_trees.specs.StrategyOrders.{IsSortedOrder, AreSortedOrders}
use Rattle.enumpure_trees.proofs.RankSumLemmas.{AllHaveNumbers}

-- they are orders
pub AreOrders-sorted : (strategies : List (List (List ℕ))) (orders : List (List ℕ)) → AreSortedOrders strategies orders → AreOrders strategies orders
AreOrders-sorted strategies orders h = record {
  one_for_each = h.one_for_each;
  are_orders = λ i order e. subst (IsOrder (get_or strategies i [])) (get_or_from_slice_get orders i order [] e) (h.are_sorted i (omega (arith, slice_get_within orders i order e, h.one_for_each))).is_order;
}

-- the orders of the players after the first
AreSortedOrders-rest : (list : List (List ℕ)) (strategies : List (List (List ℕ))) (order : List ℕ) (orders : List (List ℕ)) → AreSortedOrders (list ∷ strategies) (order ∷ orders) → AreSortedOrders strategies orders
AreSortedOrders-rest list strategies order orders h = record { one_for_each = omega (arith, h.one_for_each); are_sorted = λ i l. h.are_sorted (suc i) (omega arith) }

-- there are as many numbers as strategies
pub orders-counts : (strategies : List (List (List ℕ))) (orders : List (List ℕ)) → AreOrders strategies orders → map length orders ≡ map length strategies
orders-counts strategies orders h =
    let one = length-map orders (length {A = ℕ}) in
    let other = length-map strategies (length {A = List ℕ}) in
    ext_get_or 0 (map length orders) (map length strategies) (one ∙ h.one_for_each ∙ sym other) (λ i l.
    let inside : i < length strategies = omega (arith, one, h.one_for_each) in
    get_or-map length orders i [] 0 (omega arith) ∙ (order-of strategies orders i h inside).one_for_each ∙ sym (get_or-map length strategies i [] 0 inside))

-- a profile that was written
pub record IsRanked (strategies : List (List (List ℕ))) (orders : List (List ℕ)) (r : ℕ) (profile : List ℕ) : Type 0 where
  pub profile_is : profile ≡ ranked_profile strategies orders r
  pub is_profile : IsProfile (map length strategies) profile

-- is that with its rank
pub IsRanked-ordered : (strategies : List (List (List ℕ))) (orders : List (List ℕ)) (r : ℕ) (profile : List ℕ) → AreOrders strategies orders → r < profile_count (map length strategies) → profile ≡ strategies_at orders (ranked (map length orders) r) → IsRanked strategies orders r profile
IsRanked-ordered strategies orders r profile h l e =
    let is : profile ≡ ranked_profile strategies orders r = e ∙ ap (λ ns. strategies_at orders (ranked ns r)) (orders-counts strategies orders h) in
    record { profile_is = is; is_profile = subst (IsProfile (map length strategies)) (sym is) (IsProfile-ordered strategies orders (ranked (map length strategies) r) h (IsProfile-ranked (map length strategies) r l)) }

-- each has the numbers once
pub AllHaveNumbers-sorted : (strategies : List (List (List ℕ))) (orders : List (List ℕ)) → AreSortedOrders strategies orders → AllHaveNumbers orders
AllHaveNumbers-sorted strategies [] h = tt
AllHaveNumbers-sorted [] (order ∷ orders) h = absurd (omega (arith, h.one_for_each))
AllHaveNumbers-sorted (list ∷ strategies) (order ∷ orders) h =
    let first = h.are_sorted 0 (omega arith) in
    (subst (λ n. IsPermutation (range_with_len 0 n) order) (sym first.is_order.one_for_each) first.is_permutation, AllHaveNumbers-sorted strategies orders (AreSortedOrders-rest list strategies order orders h))

-- one more order
pub sorted-push : (strategies : List (List (List ℕ))) (orders : List (List ℕ)) (last : List ℕ) (n : ℕ) → length orders ≡ n → ((i : ℕ) → i < n → IsSortedOrder (get_or strategies i []) (get_or orders i [])) → IsSortedOrder (get_or strategies n []) last
    → (i : ℕ) → i < n + 1 → IsSortedOrder (get_or strategies i []) (get_or (orders ++ last ∷ []) i [])
sorted-push strategies orders last n long h here =
    below_more _ _ (λ i l. subst (IsSortedOrder (get_or strategies i [])) (sym (get_or_append_left orders (last ∷ []) [] i (omega arith))) (h i l)) (subst (IsSortedOrder (get_or strategies n [])) (sym (get_or_push orders last [] n long)) here)

-- what stands at a place of a list, seen through a function
pub seen-at : {V W : Type 0} (f : V → W) (xs : List V) (ys : List W) (k : ℕ) (v : V) (d : W) → map f xs ≡ ys → k < length ys → v ≡ get_or xs k v → f v ≡ get_or ys k d
seen-at f xs ys k v d seen l is =
    let within : k < length xs = omega (arith, ap length seen, length-map xs f) in
    ap f is ∙ sym (get_or-map f xs k v d within) ∙ ap (λ z. get_or z k d) seen
