-- The choices of one action at each player's set, and their numbers. Sets, actions and numbers
-- count from 0.
use Rattle.std.specs.Prelude.{ℕ}
use Rattle.game_theory.specs.OwnSets.{action_counts, player_sets}
use Rattle.game_theory.specs.Profiles.{profile_at, profile_count}
use Rattle.game_theory.specs.Trees.{Tree}
use Rattle.reduced_strategies.specs.Choices.{choice_at}

-- how many choices there are
abbrev pub whole_choices : Tree → ℕ
whole_choices t = profile_count (action_counts t)

-- the choice with a number: at each player's set an action, counted from 0, and that at the first
-- set changes fastest
abbrev pub numbered_choice : Tree → ℕ → ℕ → ℕ
numbered_choice t n = choice_at (player_sets t) (profile_at (action_counts t) n)
