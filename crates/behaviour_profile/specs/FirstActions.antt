-- A player's strategy, completed.
use Rattle.std.specs.Prelude.{ℕ, ◌-◌, List}
use Rattle.game_theory.specs.OwnSets.{own_sets}
use Rattle.game_theory.specs.Trees.{Tree}
use Rattle.reduced_strategies.specs.Choices.{choice_at}

-- the action, from 0, that player i's choices give each own set, and the first where they give none
abbrev pub first_for_none : Tree → ℕ → List ℕ → ℕ → ℕ
first_for_none t i choices s = choice_at (own_sets t i) choices s - 1
