-- The two systems of best replies of a game.
use Rattle.std.specs.Prelude.{ℕ, ◌≡◌, [], ◌∷◌}
use Rattle.rational.specs.Rational.{ℚ}
use Rattle.linear_systems.specs.Tableau.{Tableau}
use Rattle.linear_systems.specs.Rows.{Alike}
use Rattle.game_theory.specs.Profiles.{Game}
use Rattle.extreme_equilibria.specs.TwoPlayers.{pays_against}
use Rattle.extreme_equilibria.specs.Bimatrix.{shifted, shift_of}
use Rattle.extreme_equilibria.specs.Systems.{first_system, second_system}
use Rattle.lex_tableau.specs.Starts.{LinearSystem, system_of, IsSystem}

-- the most labels
abbrev pub most_labels : ℕ
most_labels = 128

-- this system is that tableau, and all rows are rated
pub record IsRatedSystem (t : Tableau) (system : LinearSystem) : Type 0 where
  pub valid : IsSystem system
  pub alike : Alike t (system_of system)
  pub rated : system.rated ≡ t.rows

-- The systems of a game of two players whose least payoffs are these: the first has the shifted
-- payoffs of the second player, and the second those of the first.
pub record ArePolytopes (g : Game) (least least' : ℚ) (first second : LinearSystem) : Type 0 where
  pub m : ℕ
  pub n : ℕ
  pub strategies : g.strategies ≡ m ∷ n ∷ []
  pub is_first : IsRatedSystem
      (first_system m n (shifted (shift_of least') (pays_against g 1))) first
  pub is_second : IsRatedSystem
      (second_system m n (shifted (shift_of least) (pays_against g 0))) second
