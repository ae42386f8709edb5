-- The ranks of pure profiles in the order of their lines, from 0, and the lines of profiles of best
-- replies.
use Rattle.std.specs.Prelude.{ℕ, Bool, List, length, map}
use Rattle.rational.specs.Rational.{ℚ}
use Rattle.game_theory.specs.Profiles.{number_of, strategies_at}
use Rattle.game_theory.specs.Ranks.{ranked}
use Rattle.game_theory.specs.Trees.{Tree}
use Rattle.enumpure.specs.Ranks.{listed_below}
use Rattle.enumpure_trees.specs.TreeEquilibria.{profile_line}

-- the profile with a rank
abbrev pub ranked_profile : List (List (List ℕ)) → List (List ℕ) → ℕ → List ℕ
ranked_profile strategies orders r = strategies_at orders (ranked (map length strategies) r)

-- whether the profile with a rank is one of best replies, which stand by number
abbrev pub ranked_plays_best : List (List (List ℕ)) → List (List ℕ) → (ℕ → Bool) → ℕ → Bool
ranked_plays_best strategies orders plays_best r =
    plays_best (number_of (map length strategies) (ranked_profile strategies orders r))

-- the line of the profile with a rank
abbrev pub rank_line : Tree → List (List (List ℕ)) → List (List ℕ) → ℕ → List ℚ
rank_line t strategies orders r = profile_line t strategies (ranked_profile strategies orders r)

-- the lines of the profiles of best replies with ranks below r
abbrev pub lines_below : Tree → List (List (List ℕ)) → List (List ℕ) → (ℕ → Bool) → ℕ
    → List (List ℚ)
lines_below t strategies orders plays_best r =
    listed_below (rank_line t strategies orders)
    (ranked_plays_best strategies orders plays_best) r
