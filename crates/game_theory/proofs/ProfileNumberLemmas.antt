-- Profiles and their numbers.
use Rattle.std.proofs.Common.{ℕ, zero, suc, ◌+◌, ◌*◌, ◌/◌, ◌%◌, ◌<◌, ◌≤◌, ◌≡◌, List, [], ◌∷◌, length, get_or, set, refl, sym, ap, ap₂, ◌∙◌, arith, mod-lt}
use Rattle.std.proofs.lemmas.Nat.{div-mul-add, mod-mul-add}
use Rattle.lists.proofs.NumberLemmas.{positive_factor}
use Rattle.game_theory.specs.Profiles.{profile_count, IsProfile, number_of, profile_at, stride}
use Rattle.game_theory.specs.Laws.{ProfilesAreNumbered}
use native.Mathlib.Nat as N

-- the number of a pair is below the count of pairs
pair_below : (s n k p : ℕ) → s < n → k < p → s + n * k < n * p
pair_below s n k p h l = let e : n * suc k ≤ n * p = N.mul-le-mul_left n (omega arith) in omega (arith, e)

-- the remainder of a pair's number
pub remainder-of : (n s k : ℕ) → s < n → (s + n * k) % n ≡ s
remainder-of n s k h = ap (λ x. x % n) (omega arith) ∙ mod-mul-add k n s h

-- the quotient of a pair's number
pub quotient-of : (n s k : ℕ) → s < n → (s + n * k) / n ≡ k
quotient-of n s k h = ap (λ x. x / n) (omega arith) ∙ div-mul-add k n s h

-- a number below n * p has a quotient below p
quotient_below : (n p k : ℕ) → k < n * p → k / n < p
quotient_below n p k h = (N.div-lt_iff_lt-mul {k = n} (positive_factor n p k h)).1 (omega arith)

-- a profile's number is below the count
pub number_of-below : (ns s : List ℕ) → IsProfile ns s → number_of ns s < profile_count ns
number_of-below [] [] h = omega arith
number_of-below [] (s ∷ ss) h = absurd h
number_of-below (n ∷ ns) [] h = absurd h
number_of-below (n ∷ ns) (s ∷ ss) h = pair_below s n (number_of ns ss) (profile_count ns) h.0 (number_of-below ns ss h.1)

-- the profile with a profile's number is that profile
pub profile_at-number_of : (ns s : List ℕ) → IsProfile ns s → profile_at ns (number_of ns s) ≡ s
profile_at-number_of [] [] h = refl
profile_at-number_of [] (s ∷ ss) h = absurd h
profile_at-number_of (n ∷ ns) [] h = absurd h
profile_at-number_of (n ∷ ns) (s ∷ ss) h =
    ap₂ (λ x y. x ∷ y) (remainder-of n s (number_of ns ss) h.0) (ap (λ x. profile_at ns x) (quotient-of n s (number_of ns ss) h.0) ∙ profile_at-number_of ns ss h.1)

-- the profile with a number below the count is a profile
pub IsProfile-profile_at : (ns : List ℕ) (k : ℕ) → k < profile_count ns → IsProfile ns (profile_at ns k)
IsProfile-profile_at [] k h = tt
IsProfile-profile_at (n ∷ ns) k h =
    (mod-lt k (positive_factor n (profile_count ns) k h), IsProfile-profile_at ns (k / n) (quotient_below n (profile_count ns) k h))

-- and its number is that number
pub number_of-profile_at : (ns : List ℕ) (k : ℕ) → k < profile_count ns → number_of ns (profile_at ns k) ≡ k
number_of-profile_at [] k h = omega arith
number_of-profile_at (n ∷ ns) k h =
    ap (λ x. k % n + n * x) (number_of-profile_at ns (k / n) (quotient_below n (profile_count ns) k h)) ∙ omega (arith, positive_factor n (profile_count ns) k h)

-- the four laws together
pub ProfilesAreNumbered-all : (ns : List ℕ) → ProfilesAreNumbered ns
ProfilesAreNumbered-all ns =
    record { number_is_below = number_of-below ns; profile_at-number_of = profile_at-number_of ns; is_profile = IsProfile-profile_at ns; number_of-profile_at = number_of-profile_at ns }

-- a profile has a strategy of each player
pub length-profile : (ns s : List ℕ) → IsProfile ns s → length s ≡ length ns
length-profile [] [] h = refl
length-profile [] (s ∷ ss) h = absurd h
length-profile (n ∷ ns) [] h = absurd h
length-profile (n ∷ ns) (s ∷ ss) h = ap suc (length-profile ns ss h.1)

-- each strategy of a profile is one of the player's
pub profile-below : (ns s : List ℕ) (i : ℕ) → IsProfile ns s → i < length ns → get_or s i 0 < get_or ns i 0
profile-below [] s i h l = absurd (omega arith)
profile-below (n ∷ ns) [] i h l = absurd h
profile-below (n ∷ ns) (s ∷ ss) zero h l = h.0
profile-below (n ∷ ns) (s ∷ ss) (suc i) h l = profile-below ns ss i h.1 (omega arith)

-- a list of one strategy of each player is a profile
pub IsProfile-by_index : (ns s : List ℕ) → length s ≡ length ns → ((i : ℕ) → i < length ns → get_or s i 0 < get_or ns i 0) → IsProfile ns s
IsProfile-by_index [] [] e h = tt
IsProfile-by_index [] (s ∷ ss) e h = absurd (omega arith)
IsProfile-by_index (n ∷ ns) [] e h = absurd (omega arith)
IsProfile-by_index (n ∷ ns) (s ∷ ss) e h = (h 0 (omega arith), IsProfile-by_index ns ss (omega arith) (λ i l. h (suc i) (omega arith)))

-- a profile with one strategy exchanged is a profile
pub IsProfile-exchange : (ns s : List ℕ) (i t : ℕ) → IsProfile ns s → i < length ns → t < get_or ns i 0 → IsProfile ns (set s i t)
IsProfile-exchange [] s i t h l b = absurd (omega arith)
IsProfile-exchange (n ∷ ns) [] i t h l b = absurd h
IsProfile-exchange (n ∷ ns) (s ∷ ss) zero t h l b = (b, h.1)
IsProfile-exchange (n ∷ ns) (s ∷ ss) (suc i) t h l b = (h.0, IsProfile-exchange ns ss i t h.1 (omega arith) b)

-- the number of a profile with one strategy exchanged
pub number_of-exchange : (ns s : List ℕ) (i t : ℕ) → IsProfile ns s → i < length ns → number_of ns (set s i t) + stride ns i * get_or s i 0 ≡ number_of ns s + stride ns i * t
number_of-exchange [] s i t h l = absurd (omega arith)
number_of-exchange (n ∷ ns) [] i t h l = absurd h
number_of-exchange (n ∷ ns) (s ∷ ss) zero t h l = omega arith
number_of-exchange (n ∷ ns) (s ∷ ss) (suc i) t h l =
    let e : n * (number_of ns (set ss i t) + stride ns i * get_or ss i 0) ≡ n * (number_of ns ss + stride ns i * t) = ap (λ x. n * x) (number_of-exchange ns ss i t h.1 (omega arith)) in
    omega (arith, e)

-- the same from the number of the profile in which the player has strategy 0
pub number_of-exchange_from : (ns s : List ℕ) (i t start : ℕ) → IsProfile ns s → i < length ns → start + stride ns i * get_or s i 0 ≡ number_of ns s → number_of ns (set s i t) ≡ start + stride ns i * t
number_of-exchange_from ns s i t start h l e = omega (arith, number_of-exchange ns s i t h l)

-- the next player's stride
pub stride-next : (ns : List ℕ) (i : ℕ) → i < length ns → stride ns (suc i) ≡ stride ns i * get_or ns i 0
stride-next [] i h = absurd (omega arith)
stride-next (n ∷ ns) zero h = omega arith
stride-next (n ∷ ns) (suc i) h = let e : n * stride ns (suc i) ≡ n * (stride ns i * get_or ns i 0) = ap (λ x. n * x) (stride-next ns i (omega arith)) in omega (arith, e)

-- a player's strategy in the profile with a number
pub strategy-profile_at : (ns : List ℕ) (k i : ℕ) → i < length ns → get_or (profile_at ns k) i 0 ≡ (k / stride ns i) % get_or ns i 0
strategy-profile_at [] k i h = absurd (omega arith)
strategy-profile_at (n ∷ ns) k zero h = ap (λ x. x % n) (sym (N.div-one k))
strategy-profile_at (n ∷ ns) k (suc i) h = strategy-profile_at ns (k / n) i (omega arith) ∙ ap (λ x. x % get_or ns i 0) (N.div-div-eq-div-mul k n (stride ns i))
