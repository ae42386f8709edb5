-- The numbers of strategies and of profiles of a table.
use Rattle.std.proofs.Common.{ℕ, zero, suc, ◌*◌, ◌<◌, ◌≤◌, ◌≡◌, List, [], ◌∷◌, Some, length, get_or, ap, ◌∙◌, arith}
use Rattle.std.specs.Prelude.{slice_get}
use Rattle.std.proofs.lemmas.List.{length-map, get_or-map}
use Rattle.std.proofs.lemmas.Option.{get_or_from_slice_get, slice_get_within}
use Rattle.game_theory.specs.Profiles.{profile_count}
use native.Mathlib.Nat as N
use Rattle.game_core.specs.Table.{GameTable, IsTable, strategy_counts, most_payoffs}
use Rattle.game_core.proofs.StrideLemmas.{HaveStrategies-table, profile_count-positive}

-- a table has a count of strategies for each player
pub length-strategy_counts : (t : GameTable) → IsTable t → length (strategy_counts t) ≡ length t.players
length-strategy_counts t h = length-map t.strategies length ∙ h.strategies_of_each

-- a player has as many strategies as names of them
pub strategy_count-names : (t : GameTable) (i : ℕ) (names : List (List ℕ)) → slice_get t.strategies i ≡ Some names → get_or (strategy_counts t) i 0 ≡ length names
strategy_count-names t i names is = get_or-map length t.strategies i names 0 (slice_get_within t.strategies i names is) ∙ ap length (get_or_from_slice_get t.strategies i names names is)

-- each player of a table has some strategy, so there is a profile
pub some_profile : (t : GameTable) → IsTable t → 0 < profile_count (strategy_counts t)
some_profile t h = profile_count-positive (strategy_counts t) (HaveStrategies-table t h)

-- a positive number of numbers makes no product smaller
pub at_most_product : (a b : ℕ) → 0 < a → b ≤ a * b
at_most_product zero b h = absurd (omega arith)
at_most_product (suc a) b h = omega arith

-- the profiles of a game with no players
profile_count-none : (ns : List ℕ) → length ns ≡ 0 → profile_count ns ≡ 1
profile_count-none [] e = omega arith
profile_count-none (n ∷ ns) e = absurd (omega arith)

-- a table has few profiles
pub profile_count-table : (t : GameTable) → IsTable t → profile_count (strategy_counts t) ≤ most_payoffs
profile_count-table t h = go (length t.players) h.payoffs_of_each (length-strategy_counts t h)
  where
    go : (p : ℕ) → length t.payoffs ≡ p * profile_count (strategy_counts t) → length (strategy_counts t) ≡ p → profile_count (strategy_counts t) ≤ most_payoffs
    go zero e l = omega (arith, profile_count-none (strategy_counts t) l)
    go (suc p) e l = omega (arith, at_most_product (suc p) (profile_count (strategy_counts t)) (omega arith), h.few_payoffs)

-- and there are not more players than payoffs
pub few_players : (t : GameTable) → IsTable t → length t.players ≤ most_payoffs
few_players t h =
    omega (arith, at_most_product (profile_count (strategy_counts t)) (length t.players) (some_profile t h), N.mul_comm (profile_count (strategy_counts t)) (length t.players), h.payoffs_of_each, h.few_payoffs)
