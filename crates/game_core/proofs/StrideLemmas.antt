-- The strides and the number of profiles of a table.
use Rattle.std.proofs.Common.{ℕ, zero, suc, ◌*◌, ◌<◌, ◌≤◌, List, [], ◌∷◌, length, get_or, sym, subst, arith, mul-pos}
use Rattle.std.proofs.lemmas.List.{get_or-map, length-map}
use Rattle.std.proofs.Math.Nat.{mul-le-mul_left}
use Rattle.game_theory.specs.Profiles.{profile_count, stride}
use Rattle.game_theory.proofs.ProfileNumberLemmas.{stride-next}
use Rattle.game_core.specs.Table.{GameTable, IsTable, strategy_counts}

-- each player has some strategy
pub record HaveStrategies (ns : List ℕ) : Type 0 where
  pub some : (i : ℕ) → i < length ns → 0 < get_or ns i 0

-- the players after the first have some strategy
pub HaveStrategies-later : (n : ℕ) (ns : List ℕ) → HaveStrategies (n ∷ ns) → HaveStrategies ns
HaveStrategies-later n ns h = record { some = λ i l. h.some (suc i) (omega arith) }

-- there is some profile
pub profile_count-positive : (ns : List ℕ) → HaveStrategies ns → 0 < profile_count ns
profile_count-positive [] h = omega arith
profile_count-positive (n ∷ ns) h =
    mul-pos (h.some 0 (omega arith)) (profile_count-positive ns (HaveStrategies-later n ns h))

-- strides are positive
pub stride-positive : (ns : List ℕ) (i : ℕ) → HaveStrategies ns → 0 < stride ns i
stride-positive ns zero h = omega arith
stride-positive [] (suc i) h = omega arith
stride-positive (n ∷ ns) (suc i) h = mul-pos (h.some 0 (omega arith)) (stride-positive ns i (HaveStrategies-later n ns h))

-- strides are at most the number of profiles
pub stride-at_most : (ns : List ℕ) (i : ℕ) → HaveStrategies ns → stride ns i ≤ profile_count ns
stride-at_most ns zero h = omega (arith, profile_count-positive ns h)
stride-at_most [] (suc i) h = omega arith
stride-at_most (n ∷ ns) (suc i) h = mul-le-mul_left n (stride-at_most ns i (HaveStrategies-later n ns h))

-- the next stride is at most the number of profiles
pub stride_next-at_most : (ns : List ℕ) (i : ℕ) → i < length ns → HaveStrategies ns → stride ns i * get_or ns i 0 ≤ profile_count ns
stride_next-at_most ns i l h = subst (λ v. v ≤ profile_count ns) (stride-next ns i l) (stride-at_most ns (suc i) h)

-- each player of a table has some strategy
pub HaveStrategies-table : (t : GameTable) → IsTable t → HaveStrategies (strategy_counts t)
HaveStrategies-table t h = record { some = at }
  where
    at : (i : ℕ) → i < length (strategy_counts t) → 0 < get_or (strategy_counts t) i 0
    at i l =
        let b : i < length t.strategies = omega (arith, length-map t.strategies length) in
        subst (λ v. 0 < v) (sym (get_or-map length t.strategies i [] 0 b)) (h.some_strategy i [] b)
