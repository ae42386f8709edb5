-- The profile with a rank, as it is written player by player.
use Rattle.std.proofs.Common.{ℕ, zero, suc, ◌+◌, ◌/◌, ◌%◌, ◌<◌, ◌≤◌, ◌≡◌, ◌≢◌, List, [], ◌∷◌, length, map, get_or, set, Vec, Global, vec_len, below_more, refl, sym, ap, ◌∙◌, subst, arith, mod-lt}
use Rattle.std.proofs.lemmas.List.{length-map, get_or-map, get_or_default, get_or-set_same, get_or-set_other, ext_get_or}
use Rattle.game_theory.specs.Profiles.{profile_count, strategies_at}
use Rattle.game_theory.proofs.ProfileNumberLemmas.{profile-below}
use Rattle.game_theory.specs.Ranks.{ranked}
use Rattle.enumpure.proofs.ProfilePartLemmas.{IsSetBelow, next_part, length-ranked}
use Rattle.game_theory.proofs.RankLemmas.{IsProfile-ranked}

-- there is a strategy for each place
length-ordered : (orders : List (List ℕ)) (places : List ℕ) → length places ≡ length orders → length (strategies_at orders places) ≡ length orders
length-ordered [] places e = refl
length-ordered (order ∷ orders) [] e = absurd (omega arith)
length-ordered (order ∷ orders) (place ∷ places) e = ap suc (length-ordered orders places (omega arith))

-- it is that at the place
ordered-at : (orders : List (List ℕ)) (places : List ℕ) (i : ℕ) → length places ≡ length orders → i < length orders → get_or (strategies_at orders places) i 0 ≡ get_or (get_or orders i []) (get_or places i 0) 0
ordered-at [] places i e l = absurd (omega arith)
ordered-at (order ∷ orders) [] i e l = absurd (omega arith)
ordered-at (order ∷ orders) (place ∷ places) zero e l = refl
ordered-at (order ∷ orders) (place ∷ places) (suc i) e l = ordered-at orders places i (omega arith) (omega arith)

-- The strategies of the players before `i` at these places are written, and `rest` is the rank of the places from `i` on, of which
-- there are `later`.
pub record IsWrittenBelow (orders : List (List ℕ)) (places profile : List ℕ) (i later rest : ℕ) : Type 0 where
  pub at : IsSetBelow (map length orders) places places i later rest
  pub written : (j : ℕ) → j < i → get_or profile j 0 ≡ get_or (get_or orders j []) (get_or places j 0) 0

-- none is written at first
pub IsWrittenBelow-none : (orders : List (List ℕ)) (profile : List ℕ) (profiles rank : ℕ) → profiles ≡ profile_count (map length orders) → rank < profiles → IsWrittenBelow orders (ranked (map length orders) rank) profile 0 profiles rank
IsWrittenBelow-none orders profile profiles rank e l = record { at = record { written = λ j q. refl; later_is = e; rest_below = l; ahead = refl }; written = λ j q. absurd (omega arith) }

-- the next player's place
pub record IsNextPlace (orders : List (List ℕ)) (places : List ℕ) (i later rest count : ℕ) : Type 0 where
  pub some_strategy : 0 < count
  pub some_later : 0 < later / count
  pub place_is : rest / (later / count) ≡ get_or places i 0
  pub at_next : IsSetBelow (map length orders) places places (i + 1) (later / count) (rest % (later / count))

next_place : (orders : List (List ℕ)) (places profile : List ℕ) (i later rest : ℕ) → length places ≡ length orders → i < length orders → IsWrittenBelow orders places profile i later rest → IsNextPlace orders places i later rest (get_or (map length orders) i 0)
next_place orders places profile i later rest e l h =
    let next = next_part (map length orders) places places i later rest (omega (arith, length-map orders (length {A = ℕ}))) (omega arith) h.at in
    record { some_strategy = next.some_strategy; some_later = next.some_later; place_is = next.strategy; at_next = record { written = λ j q. refl; later_is = next.next_later; rest_below = mod-lt rest next.some_later; ahead = next.ahead } }

-- it is that by the number of the player's strategies
pub IsNextPlace-written : (orders : List (List ℕ)) (places profile : List ℕ) (i later rest count : ℕ) → length places ≡ length orders → i < length orders → count ≡ get_or (map length orders) i 0 → IsWrittenBelow orders places profile i later rest → IsNextPlace orders places i later rest count
IsNextPlace-written orders places profile i later rest count e l is h =
    subst (IsNextPlace orders places i later rest) (sym is) (next_place orders places profile i later rest e l h)

-- one player more is written
pub IsWrittenBelow-next : (orders : List (List ℕ)) (places profile : List ℕ) (i later rest count value : ℕ) → i < length profile → IsNextPlace orders places i later rest count → value ≡ get_or (get_or orders i []) (rest / (later / count)) 0 → IsWrittenBelow orders places profile i later rest
    → IsWrittenBelow orders places (set profile i value) (i + 1) (later / count) (rest % (later / count))
IsWrittenBelow-next orders places profile i later rest count value b next is h =
    record {
      at = next.at_next;
      written = below_more _ _ (λ j l. let ne : j ≢ i = omega arith in get_or-set_other profile i j value 0 ne ∙ h.written j l) (get_or-set_same profile i value 0 b ∙ is ∙ ap (λ v. get_or (get_or orders i []) v 0) next.place_is);
    }

-- at last the profile is written
pub IsWrittenBelow-all : (orders : List (List ℕ)) (profile : List ℕ) (rank i later rest : ℕ) → length profile ≡ length orders → length orders ≤ i → IsWrittenBelow orders (ranked (map length orders) rank) profile i later rest → profile ≡ strategies_at orders (ranked (map length orders) rank)
IsWrittenBelow-all orders profile rank i later rest e l h =
    let ns : List ℕ = map length orders in
    let long : length (ranked ns rank) ≡ length orders = length-ranked ns rank ∙ length-map orders (length {A = ℕ}) in
    ext_get_or 0 profile (strategies_at orders (ranked ns rank)) (e ∙ sym (length-ordered orders (ranked ns rank) long)) (λ j b. h.written j (omega arith) ∙ sym (ordered-at orders (ranked ns rank) j long (omega arith)))

-- the places with a rank are one for each player
pub length-places : (orders : List (List ℕ)) (rank : ℕ) → length (ranked (map length orders) rank) ≡ length orders
length-places orders rank = length-ranked (map length orders) rank ∙ length-map orders (length {A = ℕ})

-- the next place is that of a strategy
pub place-below : (orders : List (List ℕ)) (rank i later rest count : ℕ) → rank < profile_count (map length orders) → i < length orders → count ≡ get_or (map length orders) i 0 → IsNextPlace orders (ranked (map length orders) rank) i later rest count → rest / (later / count) < count
place-below orders rank i later rest count b l is next =
    let ns : List ℕ = map length orders in
    omega (arith, next.place_is, is, profile-below ns (ranked ns rank) i (IsProfile-ranked ns rank b) (omega (arith, length-map orders (length {A = ℕ}))))

-- a list that is read is the player's
pub items-at : (lists : List (Vec ℕ Global)) (i : ℕ) (list : Vec ℕ Global) → i < length lists → list ≡ get_or lists i list → list.items ≡ get_or (map (λ v. v.items) lists) i []
items-at lists i list l is = ap (λ v. v.items) is ∙ sym (get_or-map (λ v. v.items) lists i list [] l)

-- a list that is read has as many strategies as its player
pub count-at : (lists : List (Vec ℕ Global)) (i : ℕ) (list : Vec ℕ Global) → i < length lists → list ≡ get_or lists i list → vec_len list ≡ get_or (map length (map (λ v. v.items) lists)) i 0
count-at lists i list l is =
    list.ok.0 ∙ ap length (items-at lists i list l is) ∙ sym (get_or-map length (map (λ v. v.items) lists) i [] 0 (omega (arith, length-map lists (λ v. v.items))))

-- the next place, where the player's list is read
pub IsNextPlace-read : (lists : List (Vec ℕ Global)) (profile : List ℕ) (rank i later rest count : ℕ) (list : Vec ℕ Global) → i < length lists → list ≡ get_or lists i list → count ≡ vec_len list
    → IsWrittenBelow (map (λ v. v.items) lists) (ranked (map length (map (λ v. v.items) lists)) rank) profile i later rest → IsNextPlace (map (λ v. v.items) lists) (ranked (map length (map (λ v. v.items) lists)) rank) i later rest count
IsNextPlace-read lists profile rank i later rest count list l is counted h =
    IsNextPlace-written (map (λ v. v.items) lists) (ranked (map length (map (λ v. v.items) lists)) rank) profile i later rest count (length-places (map (λ v. v.items) lists) rank) (omega (arith, length-map lists (λ v. v.items))) (counted ∙ count-at lists i list l is) h

-- it is a place in the list
pub place-read : (lists : List (Vec ℕ Global)) (rank i later rest count : ℕ) (list again : Vec ℕ Global) → rank < profile_count (map length (map (λ v. v.items) lists)) → i < length lists → list ≡ get_or lists i list → count ≡ vec_len list → again ≡ get_or lists i again
    → IsNextPlace (map (λ v. v.items) lists) (ranked (map length (map (λ v. v.items) lists)) rank) i later rest count → rest / (later / count) < vec_len again
place-read lists rank i later rest count list again b l is counted is_again next =
    omega (arith, count-at lists i list l is, count-at lists i again l is_again, place-below (map (λ v. v.items) lists) rank i later rest count b (omega (arith, length-map lists (λ v. v.items))) (counted ∙ count-at lists i list l is) next)

-- a value that is read at a place of the list
pub value-at : (lists : List (Vec ℕ Global)) (i place value : ℕ) (list : Vec ℕ Global) → i < length lists → list ≡ get_or lists i list → place < vec_len list → value ≡ get_or list.items place value → value ≡ get_or (get_or (map (λ v. v.items) lists) i []) place 0
value-at lists i place value list l is b read =
    read ∙ get_or_default list.items place value 0 (omega (arith, list.ok.0)) ∙ ap (λ v. get_or v place 0) (items-at lists i list l is)
