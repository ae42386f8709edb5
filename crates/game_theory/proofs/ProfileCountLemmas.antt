-- How many profiles there are.
use Rattle.std.proofs.Common.{ℕ, zero, suc, ◌+◌, ◌*◌, ◌<◌, ◌≤◌, ◌≡◌, List, [], ◌∷◌, ◌++◌, length, take, get_or, All, sym, ap, ◌∙◌, arith, mul-pos}
use Rattle.std.proofs.lemmas.List.{take_more}
use Rattle.game_theory.specs.Profiles.{profile_count}
use native.Mathlib.Nat as N

-- the number of profiles of two groups of players
pub profile_count-append : (ms ns : List ℕ) → profile_count (ms ++ ns) ≡ profile_count ms * profile_count ns
profile_count-append [] ns = omega arith
profile_count-append (m ∷ ms) ns = ap (λ x. m * x) (profile_count-append ms ns) ∙ sym (N.mul_assoc m (profile_count ms) (profile_count ns))

-- with one more player
pub profile_count-push : (ns : List ℕ) (n : ℕ) → profile_count (ns ++ n ∷ []) ≡ profile_count ns * n
profile_count-push ns n = profile_count-append ns (n ∷ []) ∙ ap (λ x. profile_count ns * x) (omega arith)

-- where each player has a strategy there is a profile
pub profile_count-positive : (ns : List ℕ) → All (λ n. 0 < n) ns → 0 < profile_count ns
profile_count-positive [] h = omega arith
profile_count-positive (n ∷ ns) h = mul-pos (h 0 0 (omega arith)) (profile_count-positive ns (λ k d l. h (suc k) d (omega arith)))

-- and then the first players have no more profiles than all
pub profile_count-front : (k : ℕ) (ns : List ℕ) → All (λ n. 0 < n) ns → profile_count (take k ns) ≤ profile_count ns
profile_count-front zero ns h = let p = profile_count-positive ns h in omega arith
profile_count-front (suc k) [] h = omega arith
profile_count-front (suc k) (n ∷ ns) h = N.mul-le-mul_left n (profile_count-front k ns (λ j d l. h (suc j) d (omega arith)))

-- the profiles of the players up to one
pub profile_count-next : (ns : List ℕ) (i : ℕ) → i < length ns → profile_count (take i ns) * get_or ns i 0 ≡ profile_count (take (i + 1) ns)
profile_count-next ns i l = sym (ap profile_count (take_more ns i 0 l) ∙ profile_count-push (take i ns) (get_or ns i 0))
