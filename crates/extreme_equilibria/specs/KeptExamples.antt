-- Elimination in two games.
use Rattle.std.specs.Prelude.{[], ◌∷◌, pos}
use Rattle.game_theory.specs.Profiles.{Game}
use Rattle.game_theory.specs.Examples.{game_of, prisoners_dilemma_game}
use Rattle.extreme_equilibria.specs.Elimination.{AreKept}

-- the first player's strategy 1 pays as much as strategy 0 against the first strategy of the second
-- player, and more against the other
abbrev pub weak_game : Game
weak_game =
    game_of (2 ∷ 2 ∷ [])
    (pos 1 ∷ pos 0 ∷ pos 1 ∷ pos 0 ∷ pos 0 ∷ pos 0 ∷ pos 1 ∷ pos 0 ∷ [])

-- in the prisoners' dilemma to confess is all that is kept; a strategy that is dominated, but not
-- strictly, is kept
pub record EliminationInTwoGames : Type 0 where
  pub first_confesses : AreKept prisoners_dilemma_game 0 (1 ∷ [])
  pub second_confesses : AreKept prisoners_dilemma_game 1 (1 ∷ [])
  pub first_keeps_all : AreKept weak_game 0 (0 ∷ 1 ∷ [])
  pub second_keeps_all : AreKept weak_game 1 (0 ∷ 1 ∷ [])
