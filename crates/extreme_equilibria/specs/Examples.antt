-- Two small games worked out.
use Rattle.std.specs.Prelude.{zero, suc, [], ◌∷◌, pos}
use Rattle.rational.specs.Rational.{frac, one_ℚ}
use Rattle.game_theory.specs.Profiles.{Game}
use Rattle.game_theory.specs.Mixed.{Mixed, pure}
use Rattle.game_theory.specs.Equilibrium.{IsEquilibrium}
use Rattle.game_theory.specs.Lines.{entries}
use Rattle.game_theory.specs.Examples.{game_of}
use Rattle.extreme_equilibria.specs.ExtremeEquilibria.{IsExtremeEquilibrium, AreExtremeEquilibria}

-- two strategies of the first player, for which that player gets 1 either way, against one
abbrev pub indifferent_game : Game
indifferent_game = game_of (2 ∷ 1 ∷ []) (pos 1 ∷ pos 2 ∷ pos 1 ∷ pos 3 ∷ [])

-- the first player plays both strategies with probability 1/2
abbrev pub halves : Mixed
halves zero s = frac (pos 1) 2
halves (suc i) s = one_ℚ

-- a sure strategy makes an extreme equilibrium, and even chances one that is not extreme
pub record IndifferenceHasExtremeEquilibria : Type 0 where
  pub sure_strategy : IsExtremeEquilibrium indifferent_game (pure (0 ∷ 0 ∷ []))
  pub even_chances : IsEquilibrium indifferent_game halves
  pub even_chances_inside : IsExtremeEquilibrium indifferent_game halves → ⊥

-- one strategy of each player
abbrev pub one_profile_game : Game
one_profile_game = game_of (1 ∷ 1 ∷ []) (pos 0 ∷ pos 0 ∷ [])

-- the one profile is extreme, and no other line is listed
pub record OneProfileIsExtreme : Type 0 where
  pub extreme : IsExtremeEquilibrium one_profile_game (pure (0 ∷ 0 ∷ []))
  pub one_line : AreExtremeEquilibria one_profile_game
      (entries (1 ∷ 1 ∷ []) (pure (0 ∷ 0 ∷ [])) ∷ [])
