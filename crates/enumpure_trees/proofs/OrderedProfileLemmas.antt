-- The profiles of the strategies at places of orders.
use Rattle.std.proofs.Common.{ℕ, zero, suc, ◌<◌, ◌≡◌, List, [], ◌∷◌, length, map, get_or, Contains, refl, ap₂, ◌∙◌, arith}
use Rattle.std.proofs.lemmas.List.{get_or_default}
use Rattle.std.proofs.lemmas.Option.{slice_get-get_or}
use Rattle.game_theory.specs.Profiles.{IsProfile, strategies_at}
use Rattle.enumpure_trees.specs.Orders.{IsOrder, AreOrders}

-- a player's order
pub order-of : (strategies : List (List (List ℕ))) (orders : List (List ℕ)) (i : ℕ) → AreOrders strategies orders → i < length strategies → IsOrder (get_or strategies i []) (get_or orders i [])
order-of strategies orders i h l = h.are_orders i (get_or orders i []) (slice_get-get_or orders i [] (omega (arith, h.one_for_each)))

-- the orders of the players after the first
AreOrders-rest : (list : List (List ℕ)) (strategies : List (List (List ℕ))) (order : List ℕ) (orders : List (List ℕ)) → AreOrders (list ∷ strategies) (order ∷ orders) → AreOrders strategies orders
AreOrders-rest list strategies order orders h = record { one_for_each = omega (arith, h.one_for_each); are_orders = λ i o e. h.are_orders (suc i) o e }

-- the number at a place of an order is that of a strategy
number-below : (list : List (List ℕ)) (order : List ℕ) (place : ℕ) → IsOrder list order → place < length list → get_or order place 0 < length list
number-below list order place h l = h.are_numbers place 0 (omega (arith, h.one_for_each))

-- the strategies at places are a profile
pub IsProfile-ordered : (strategies : List (List (List ℕ))) (orders : List (List ℕ)) (places : List ℕ) → AreOrders strategies orders → IsProfile (map length strategies) places → IsProfile (map length strategies) (strategies_at orders places)
IsProfile-ordered [] [] places h p = tt
IsProfile-ordered [] (order ∷ orders) places h p = absurd (omega (arith, h.one_for_each))
IsProfile-ordered (list ∷ strategies) [] places h p = absurd (omega (arith, h.one_for_each))
IsProfile-ordered (list ∷ strategies) (order ∷ orders) [] h p = absurd p
IsProfile-ordered (list ∷ strategies) (order ∷ orders) (place ∷ places) h p =
    (number-below list order place (order-of (list ∷ strategies) (order ∷ orders) 0 h (omega arith)) p.0, IsProfile-ordered strategies orders places (AreOrders-rest list strategies order orders h) p.1)

-- places of the strategies of a profile
pub record HasPlaces (strategies : List (List (List ℕ))) (orders : List (List ℕ)) (profile : List ℕ) : Type 0 where
  pub places : List ℕ
  pub are_places : IsProfile (map length strategies) places
  pub is_profile : strategies_at orders places ≡ profile

-- one player more in front
HasPlaces-cons : (list : List (List ℕ)) (strategies : List (List (List ℕ))) (order : List ℕ) (orders : List (List ℕ)) (number : ℕ) (profile : List ℕ) → IsOrder list order → Contains order number → HasPlaces strategies orders profile → HasPlaces (list ∷ strategies) (order ∷ orders) (number ∷ profile)
HasPlaces-cons list strategies order orders number profile h c rest =
    record {
      places = c.0 ∷ rest.places;
      are_places = (omega (arith, c.1, h.one_for_each), rest.are_places);
      is_profile = ap₂ (λ x xs. x ∷ xs) (get_or_default order c.0 0 number c.1 ∙ c.2) rest.is_profile;
    }

-- each profile has places
pub profile-has_places : (strategies : List (List (List ℕ))) (orders : List (List ℕ)) (profile : List ℕ) → AreOrders strategies orders → IsProfile (map length strategies) profile → HasPlaces strategies orders profile
profile-has_places [] [] [] h p = record { places = []; are_places = tt; is_profile = refl }
profile-has_places [] [] (number ∷ profile) h p = absurd p
profile-has_places [] (order ∷ orders) profile h p = absurd (omega (arith, h.one_for_each))
profile-has_places (list ∷ strategies) [] profile h p = absurd (omega (arith, h.one_for_each))
profile-has_places (list ∷ strategies) (order ∷ orders) [] h p = absurd p
profile-has_places (list ∷ strategies) (order ∷ orders) (number ∷ profile) h p =
    let first = order-of (list ∷ strategies) (order ∷ orders) 0 h (omega arith) in
    HasPlaces-cons list strategies order orders number profile first (first.all number p.0) (profile-has_places strategies orders profile (AreOrders-rest list strategies order orders h) p.1)

-- a player's strategy is that at the place
pub get_or-ordered : (strategies : List (List (List ℕ))) (orders : List (List ℕ)) (places : List ℕ) (i : ℕ) → AreOrders strategies orders → IsProfile (map length strategies) places → i < length strategies → get_or (strategies_at orders places) i 0 ≡ get_or (get_or orders i []) (get_or places i 0) 0
get_or-ordered [] orders places i h p l = absurd (omega arith)
get_or-ordered (list ∷ strategies) [] places i h p l = absurd (omega (arith, h.one_for_each))
get_or-ordered (list ∷ strategies) (order ∷ orders) [] i h p l = absurd p
get_or-ordered (list ∷ strategies) (order ∷ orders) (place ∷ places) zero h p l = refl
get_or-ordered (list ∷ strategies) (order ∷ orders) (place ∷ places) (suc i) h p l = get_or-ordered strategies orders places i (AreOrders-rest list strategies order orders h) p.1 (omega arith)
