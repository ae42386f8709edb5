-- The places of a table's strategies and payoffs.
use Rattle.std.proofs.Common.{ℕ, ◌+◌, ◌*◌, ◌/◌, ◌<◌, ◌≤◌, ◌≡◌, ◌^◌, List, [], ◌∷◌, length, get_or, take, ap, ◌∙◌, arith}
use Rattle.std.specs.Prelude.{sum}
use Rattle.std.proofs.Math.Nat.{mul-le-mul_left}
use Rattle.std.proofs.lemmas.Option.{slice_get-get_or}
use Rattle.game_theory.specs.Profiles.{profile_count}
use Rattle.game_theory.proofs.ProfileNumberLemmas.{quotient-of}
use Rattle.game_core.specs.Table.{GameTable, IsTable, strategy_counts, most_payoffs}
use Rattle.game_core.proofs.TableCountLemmas.{length-strategy_counts, at_most_product}
use Rattle.game_core.proofs.StrideLemmas.{HaveStrategies, HaveStrategies-later, HaveStrategies-table, profile_count-positive}
use Rattle.behaviour_profile.proofs.GroupListLemmas.{end-within, sum-cons, sum-next, sum-nil}

-- a player has no more strategies than there are profiles
sum-at_most : (ns : List ℕ) → HaveStrategies ns → sum ns ≤ length ns * profile_count ns
sum-at_most [] h = omega (arith, sum-nil)
sum-at_most (n ∷ ns) h =
    let later = HaveStrategies-later n ns h in
    let before = sum-at_most ns later in
    let own = mul-le-mul_left n (profile_count-positive ns later) in
    let others = mul-le-mul_left (length ns) (at_most_product n (profile_count ns) (h.some 0 (omega arith))) in
    omega (arith, sum-cons n ns, before, own, others)

module _ (t : GameTable) (valid : IsTable t) where
  -- the strategies of all players are few
  pub strategies-few : sum (strategy_counts t) ≤ most_payoffs
  strategies-few =
      let all = sum-at_most (strategy_counts t) (HaveStrategies-table t valid) in
      let same = ap (λ n. n * profile_count (strategy_counts t)) (length-strategy_counts t valid) in
      omega (arith, all, same, valid.payoffs_of_each, valid.few_payoffs)

  module _ (i : ℕ) (l : i < length t.players) where
    pub player-within : i < length (strategy_counts t)
    player-within = omega (arith, l, length-strategy_counts t valid)

    pub some_strategy : 0 < get_or (strategy_counts t) i 0
    some_strategy = (HaveStrategies-table t valid).some i player-within

    -- a player's strategies stand after those of the players before
    pub entries-next : sum (take (i + 1) (strategy_counts t)) ≡ sum (take i (strategy_counts t)) + get_or (strategy_counts t) i 0
    entries-next = sum-next (strategy_counts t) i (get_or (strategy_counts t) i 0) (slice_get-get_or (strategy_counts t) i 0 player-within)

    pub entries-within : sum (take i (strategy_counts t)) + get_or (strategy_counts t) i 0 ≤ sum (strategy_counts t)
    entries-within = end-within (strategy_counts t) i (get_or (strategy_counts t) i 0) (slice_get-get_or (strategy_counts t) i 0 player-within)

    -- so many players fit 32 bits
    pub player-few : i < 2 ^ 32
    player-few =
        let some = at_most_product (profile_count (strategy_counts t)) (length t.players) (profile_count-positive (strategy_counts t) (HaveStrategies-table t valid)) in
        omega (arith, l, some, valid.payoffs_of_each, valid.few_payoffs)

  -- the profiles are the payoffs divided by the players
  pub profiles-are : 0 < length t.players → length t.payoffs / length t.players ≡ profile_count (strategy_counts t)
  profiles-are some =
      let e : length t.payoffs ≡ 0 + length t.players * profile_count (strategy_counts t) = omega (arith, valid.payoffs_of_each) in
      ap (λ x. x / length t.players) e ∙ quotient-of (length t.players) 0 (profile_count (strategy_counts t)) some
