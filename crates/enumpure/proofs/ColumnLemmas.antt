-- Columns of what profiles pay a player.
use Rattle.std.proofs.Common.{ℕ, ◌+◌, ◌*◌, ◌/◌, ◌%◌, ◌<◌, ◌≤◌, ◌≡◌, ◌↔◌, Bool, List, length, get_or, sym, ap, ◌∙◌, subst, arith}
use Rattle.std.proofs.Math.Nat.{mul-le-mul_left}
use Rattle.rational.specs.Rational.{◌≤ℚ◌}
use Rattle.rational.specs.Sum.{entry_at}
use Rattle.game_theory.specs.Profiles.{Game, profile_count, stride}
use Rattle.game_theory.proofs.ProfileNumberLemmas.{IsProfile-profile_at}
use Rattle.game_core.specs.Table.{GameTable, IsTable, game_of, strategy_counts}
use Rattle.game_core.proofs.StrideLemmas.{HaveStrategies, stride-positive}
use Rattle.game_core.proofs.TableCountLemmas.{length-strategy_counts}
use Rattle.enumpure.specs.Replies.{HasProfile, IsColumnOf, KeepsBestReplies, PlaysBestReply, column_pays, exchanged}
use Rattle.enumpure.specs.declared.replies.Column.{Column}
use Rattle.enumpure.proofs.ExchangeLemmas.{exchanged-below, strategy_at, strategy_at-by_stride, strides_away-below}
use Rattle.enumpure.proofs.ProfilePartLemmas.{HaveStrategies-profile}

-- the game in which each player is paid what a column has
abbrev pub column_game : Column → Game → Game
column_game column g = record { strategies = g.strategies; pays = λ i k. column_pays column k }

module _ (g : Game) (i : ℕ) (column : Column) (profiles apart strategies : ℕ) (h : IsColumnOf g i column profiles apart strategies) where
  -- where there is some profile, each player has some strategy
  all_have : (k : ℕ) → k < profiles → HaveStrategies g.strategies
  all_have k l = HaveStrategies-profile g.strategies _ (IsProfile-profile_at g.strategies k (omega (arith, h.of_each)))

  -- so the player has some
  pub some_strategy : (k : ℕ) → k < profiles → 0 < strategies
  some_strategy k l = omega (arith, h.strategies_is, (all_have k l).some i h.player)

  -- and their profiles stand apart
  pub are_apart : (k : ℕ) → k < profiles → 0 < apart
  are_apart k l = omega (arith, h.apart_is, stride-positive g.strategies i (all_have k l))

  -- the player's strategy in a profile
  pub played_strategy : (k : ℕ) → strategy_at g.strategies k i ≡ (k / apart) % strategies
  played_strategy k = strategy_at-by_stride g.strategies k i apart strategies h.player h.apart_is h.strategies_is

  -- the player's strategies lead from one with strategy 0 to profiles
  pub line-below : (k s : ℕ) → k < profiles → (k / apart) % strategies ≡ 0 → s < strategies → k + apart * s < profiles
  line-below k s l z b =
      let below = strides_away-below g.strategies k i apart s (record { number = omega (arith, h.of_each); player = h.player }) (played_strategy k ∙ z) h.apart_is (omega (arith, h.strategies_is)) in
      omega (arith, below, h.of_each)

  -- best replies by the column are those of the game
  best_reply-column : (k : ℕ) → k < profile_count g.strategies → PlaysBestReply (column_game column g) i k ↔ PlaysBestReply g i k
  best_reply-column k l =
      (λ r s b. subst (λ v. v ≤ℚ g.pays i k) (other s b) (subst (λ v. column_pays column (exchanged g.strategies k i s) ≤ℚ v) own (r s b)), λ r s b. subst (λ v. v ≤ℚ column_pays column k) (sym (other s b)) (subst (λ v. g.pays i (exchanged g.strategies k i s) ≤ℚ v) (sym own) (r s b)))
    where
      own : column_pays column k ≡ g.pays i k
      own = h.pays k (omega (arith, h.of_each))

      other : (s : ℕ) → s < get_or g.strategies i 0 → column_pays column (exchanged g.strategies k i s) ≡ g.pays i (exchanged g.strategies k i s)
      other s b = h.pays _ (omega (arith, h.of_each, exchanged-below g.strategies k i s (record { number = l; player = h.player }) b))

  -- so are the profiles that stay
  pub KeepsBestReplies-column : (old new : List Bool) → KeepsBestReplies (column_game column g) i old new → KeepsBestReplies g i old new
  KeepsBestReplies-column old new kept k l =
      let best = best_reply-column k l in
      (λ t. (((kept k l).0 t).0, best.0 ((kept k l).0 t).1), λ w. (kept k l).1 (w.0, best.1 w.1))

-- a table's payoffs have the column of each player
pub IsColumnOf-table : (t : GameTable) (i : ℕ) (column : Column) (profiles apart strategies : ℕ) → IsTable t → i < length t.players → column.numbers.now ≡ t.payoffs → column.offset ≡ i → column.step ≡ length t.players → profiles ≡ profile_count (strategy_counts t) → apart ≡ stride (strategy_counts t) i → strategies ≡ get_or (strategy_counts t) i 0 → IsColumnOf (game_of t) i column profiles apart strategies
IsColumnOf-table t i column profiles apart strategies valid player numbers offset step count by n =
    record {
      player = omega (arith, length-strategy_counts t valid);
      of_each = count;
      apart_is = by;
      strategies_is = n;
      long_enough = λ k l. within k (omega (arith, count));
      pays = λ k l. ap (λ v. entry_at v (column.offset + column.step * k)) numbers ∙ ap (entry_at t.payoffs) (index k);
    }
  where
    index : (k : ℕ) → column.offset + column.step * k ≡ k * length t.players + i
    index k = ap (λ v. column.offset + v * k) step ∙ omega (arith, offset)

    within : (k : ℕ) → k < profile_count (strategy_counts t) → HasProfile column k
    within k l =
        let next : length t.players * (k + 1) ≤ length t.players * profile_count (strategy_counts t) = mul-le-mul_left (length t.players) (omega arith) in
        omega (arith, next, index k, valid.payoffs_of_each, ap length numbers)
