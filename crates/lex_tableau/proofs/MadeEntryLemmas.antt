-- Numbered variables and the entries of a tableau are there as lists.
use Rattle.std.proofs.Common.{ℕ, ◌/◌, ◌%◌, List, map, arith}
use Rattle.std.specs.List.{range_with_len}
use Rattle.std.proofs.lemmas.List.FromFn.{get_or-map-range_with_len, get_or-range_with_len, length-map-range_with_len, length-range_with_len}
use Rattle.rational.specs.Rational.{ℚ, zero_ℚ}
use Rattle.linear_systems.specs.Tableau.{Tableau}
use Rattle.lex_tableau.specs.Entries.{AreEntries, AreNumbered, entry_of}

-- so many numbers from a first one on
pub numbered_made : (first count : ℕ) → (xs : List ℕ) × AreNumbered first count xs
numbered_made first count = (range_with_len first count, record { length_is = length-range_with_len first count; number_is = λ k l. get_or-range_with_len first count k 0 l })

-- the first n entries of a tableau
pub entries_made : (t : Tableau) (size n : ℕ) → (cells : List ℚ) × AreEntries t size n cells
entries_made t size n =
    let entry : ℕ → ℚ = λ k. entry_of t (k / size) (k % size) in
    (map entry (range_with_len 0 n), record { count = length-map-range_with_len entry 0 n; same = λ k l. get_or-map-range_with_len entry 0 n k k zero_ℚ l (omega arith) })
