-- The first line of a text.
use Rattle.std.proofs.Common.{ℕ, ◌+◌, ◌<◌, ◌≡◌, ◌≢◌, ◌==◌, false, List, [], ◌∷◌, ◌++◌, length, refl, arith}
use Rattle.std.specs.List.{All, slice_split}
use Rattle.std.proofs.lemmas.List.Splits.{slice_split_at, slice_split_none, length-slice_split}
use Rattle.std.proofs.lemmas.Bool.Decides.{nat_tests}
use Rattle.ne_printer.specs.TextLines.{lines_of, without_empty_last}

-- a piece that is not the last stays
piece-stays : (piece next : List ℕ) (pieces : List (List ℕ)) → without_empty_last (piece ∷ next ∷ pieces) ≡ piece ∷ without_empty_last (next ∷ pieces)
piece-stays [] next pieces = refl
piece-stays (x ∷ xs) next pieces = refl

-- so it does before pieces that are not none
before_some : (piece : List ℕ) (pieces : List (List ℕ)) (n : ℕ) → length pieces ≡ n + 1 → without_empty_last (piece ∷ pieces) ≡ piece ∷ without_empty_last pieces
before_some piece [] n e = absurd (omega arith)
before_some piece (next ∷ pieces) n e = piece-stays piece next pieces

-- a byte that is no line feed is told from one
no_feeds : (line : List ℕ) → All (λ b. b ≢ 10) line → All (λ b. (b == 10) ≡ false) line
no_feeds line none = λ k d h. (let other = none k d h in grind (arith, nat_tests))

-- the first line ends at the first line feed
pub line_cut : (line rest : List ℕ) → All (λ b. b ≢ 10) line → lines_of (line ++ 10 ∷ rest) ≡ line ∷ lines_of rest
line_cut line rest none =
    rw (slice_split_at (λ b. b == 10) line 10 rest (no_feeds line none) refl) (before_some line (slice_split (λ b. b == 10) rest) _ (length-slice_split (λ b. b == 10) rest))

-- a text with no line feed is one line, where it is not empty
pub last_line : (text : List ℕ) → 0 < length text → All (λ b. b ≢ 10) text → lines_of text ≡ text ∷ lines_of []
last_line [] some none = absurd (omega arith)
last_line (x ∷ xs) some none = rw (slice_split_none (λ b. b == 10) (x ∷ xs) (no_feeds (x ∷ xs) none)) refl
