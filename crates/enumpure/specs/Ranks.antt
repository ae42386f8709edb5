-- The ranks of pure profiles in the order of their lines, from 0, and the lines of profiles that
-- pass, as those of best replies do.
use Rattle.std.specs.Prelude.{ℕ, Bool, List, map, filter}
use Rattle.std.specs.List.{range_with_len}
use Rattle.rational.specs.Rational.{ℚ}
use Rattle.game_theory.specs.Profiles.{number_of}
use Rattle.game_theory.specs.Ranks.{ranked}
use Rattle.game_theory.specs.Mixed.{pure}
use Rattle.game_theory.specs.Lines.{entries}
use Rattle.enumpure.specs.Replies.{plays_best}

-- whether the profile with a rank passes
abbrev pub ranked_plays_best : List ℕ → List Bool → ℕ → Bool
ranked_plays_best ns passes r = plays_best passes (number_of ns (ranked ns r))

-- the line of the profile with a rank
abbrev pub rank_line : List ℕ → ℕ → List ℚ
rank_line ns r = entries ns (pure (ranked ns r))

-- of the lines with numbers below r those whose numbers pass
abbrev pub listed_below : (ℕ → List ℚ) → (ℕ → Bool) → ℕ → List (List ℚ)
listed_below line passes r = map line (filter passes (range_with_len 0 r))

-- the lines of the profiles that pass with ranks below r
abbrev pub lines_below : List ℕ → List Bool → ℕ → List (List ℚ)
lines_below ns passes r = listed_below (rank_line ns) (ranked_plays_best ns passes) r
