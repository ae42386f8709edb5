-- Profiles of two groups of players, one after the other.
use Rattle.std.proofs.Common.{ℕ, ◌+◌, ◌*◌, ◌≡◌, List, [], ◌∷◌, ◌++◌, length, ap, arith}
use Rattle.std.proofs.Math.Nat.{mul-add, mul_assoc}
use Rattle.game_theory.specs.Profiles.{IsProfile, number_of, profile_count}

-- a profile of each
pub IsProfile-append : (ms ns ss ts : List ℕ) → IsProfile ms ss → IsProfile ns ts → IsProfile (ms ++ ns) (ss ++ ts)
IsProfile-append [] ns [] ts h g = g
IsProfile-append [] ns (s ∷ ss) ts h g = absurd h
IsProfile-append (m ∷ ms) ns [] ts h g = absurd h
IsProfile-append (m ∷ ms) ns (s ∷ ss) ts h g = (h.0, IsProfile-append ms ns ss ts h.1 g)

-- the number of such a profile
pub number_of-append : (ms ns ss ts : List ℕ) → length ss ≡ length ms → number_of (ms ++ ns) (ss ++ ts) ≡ number_of ms ss + profile_count ms * number_of ns ts
number_of-append [] ns [] ts e = omega arith
number_of-append [] ns (s ∷ ss) ts e = absurd (omega (arith, e))
number_of-append (m ∷ ms) ns [] ts e = absurd (omega (arith, e))
number_of-append (m ∷ ms) ns (s ∷ ss) ts e =
    let rest = number_of ns ts in
    let later = ap (λ x. m * x) (number_of-append ms ns ss ts (omega (arith, e))) in
    let parts = mul-add m (number_of ms ss) (profile_count ms * rest) in
    let regroup = mul_assoc m (profile_count ms) rest in
    omega (arith, later, parts, regroup)
