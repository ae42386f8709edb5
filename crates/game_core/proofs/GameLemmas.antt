-- Made games, and the tables that stand for them.
use Rattle.std.proofs.Common.{ℕ, ◌+◌, ◌*◌, ◌<◌, ◌≤◌, ◌≡◌, ◌∙◌, pos, List, [], ◌∷◌, length, slice_index_or, sym, ap, ap₂, arith}
use Rattle.std.proofs.lemmas.List.FromFn.{get_or-map-range_with_len, length-map-range_with_len}
use Rattle.std.proofs.Math.Nat.{mul-one}
use Rattle.lists.proofs.NumberLemmas.{below_two}
use Rattle.rational.specs.Rational.{ℚ, whole, zero_ℚ}
use Rattle.game_core.specs.Table.{IsTable, most_payoffs}
use Rattle.game_core.specs.MadeTableLaws.{MadeTablesPayDraws}
use Rattle.game_core.specs.MadeTables.{drawn, made_payoffs}

pub pays_draws : MadeTablesPayDraws
pays_draws seed rows columns i k two below =
    get_or-map-range_with_len (λ n. whole (pos (drawn seed n))) 1 (2 * (rows * columns)) (k * 2 + i) (2 * k + i + 1) zero_ℚ (omega (arith, two, below)) (omega arith)

-- ---- tables
module _ (seed rows columns : ℕ) (title : List ℕ) (players first second : List (List ℕ)) (payoffs : List ℚ) (two : length players ≡ 2) (so_many : length first ≡ rows) (others : length second ≡ columns) (drawn_are : payoffs ≡ made_payoffs seed (2 * (rows * columns))) where
  number : length payoffs ≡ 2 * (rows * columns)
  number = ap length drawn_are ∙ length-map-range_with_len (λ n. whole (pos (drawn seed n))) 1 (2 * (rows * columns))

  -- the table has its form
  pub is_table : 0 < rows → 0 < columns → 2 * (rows * columns) ≤ most_payoffs → IsTable (record { title = title; players = players; strategies = first ∷ second ∷ []; payoffs = payoffs })
  is_table some other few = record {
    strategies_of_each = sym two;
    some_strategy = λ k d within. below_two (λ k. 0 < length (slice_index_or (first ∷ second ∷ []) k d)) (omega (arith, some, so_many)) (omega (arith, other, others)) k within;
    payoffs_of_each = number ∙ sym (ap₂ (λ a b. a * b) two (ap₂ (λ a b. a * b) so_many (mul-one (length second) ∙ others)));
    few_payoffs = omega (arith, number, few);
  }
