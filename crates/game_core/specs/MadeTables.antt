-- Tables of two players with payoffs that a linear congruential generator draws.
-- Source: the example generator of the C standard.
use Rattle.std.specs.Prelude.{ℕ, zero, suc, ◌+◌, ◌*◌, ◌/◌, ◌%◌, pos, List, [], ◌∷◌, map, replicate}
use Rattle.std.specs.List.{range_with_len}
use Rattle.rational.specs.Rational.{ℚ, whole}
use Rattle.game_core.specs.Table.{GameTable}

-- the state that follows a state
abbrev pub next_state : ℕ → ℕ
next_state s = (s * 1103515245 + 12345) % 2147483648

-- the state after n steps from a seed
abbrev pub state : ℕ → ℕ → ℕ
state seed zero = seed
state seed (suc n) = next_state (state seed n)

-- the digit that a state gives: the last one of its high bits
abbrev pub digit_of : ℕ → ℕ
digit_of s = (s / 65536) % 10

-- draw n, from 1 on
abbrev pub drawn : ℕ → ℕ → ℕ
drawn seed n = digit_of (state seed n)

-- the first draws as payoffs
abbrev pub made_payoffs : (seed count : ℕ) → List ℚ
made_payoffs seed count = map (λ n. whole (pos (drawn seed n))) (range_with_len 1 count)

-- The table of two players with these numbers of strategies. The draws are its payoffs, profile by
-- profile in table order, and in each profile player 0's before player 1's. All names are empty.
abbrev pub made_table : (seed rows columns : ℕ) → GameTable
made_table seed rows columns = record {
  title = [];
  players = replicate 2 [];
  strategies = replicate rows [] ∷ replicate columns [] ∷ [];
  payoffs = made_payoffs seed (2 * (rows * columns));
}
