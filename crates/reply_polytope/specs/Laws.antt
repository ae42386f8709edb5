-- What the points of a game's two systems are, as a statement. It is proved by a function of
-- src/laws.rt.
-- Source: Avis et al. 2010.
use Rattle.std.specs.Prelude.{ℕ, suc, ◌+◌}
use Rattle.rational.specs.Rational.{ℚ}
use Rattle.linear_systems.specs.Points.{IsFeasible}
use Rattle.game_theory.specs.Profiles.{Game}
use Rattle.extreme_equilibria.specs.ExtremeEquilibria.{AreSame}
use Rattle.extreme_equilibria.specs.TwoPlayers.{pays_against}
use Rattle.extreme_equilibria.specs.Bimatrix.{shifted, shift_of}
use Rattle.extreme_equilibria.specs.Polytopes.{IsInPolytope}
use Rattle.lex_tableau.specs.Starts.{LinearSystem, system_of}
use Rattle.reply_polytope.specs.Polytopes.{ArePolytopes}

-- The solutions without negative entries of a game's two systems are the points of the
-- best-response polytopes of its shifted payoffs: of the first system, by the entries of the first
-- player's strategies, and of the second, by those of the second player's.
pub record SystemsAreThePolytopes : Type 0 where
  pub first : (g : Game) (least least' : ℚ) (one two : LinearSystem) (x : ℕ → ℚ)
      → (p : ArePolytopes g least least' one two) → IsFeasible (system_of one) x
      → IsInPolytope p.m p.n (shifted (shift_of least') (pays_against g 1)) (λ i. x (suc i))
  pub first_back : (g : Game) (least least' : ℚ) (one two : LinearSystem) (q : ℕ → ℚ)
      → (p : ArePolytopes g least least' one two)
      → IsInPolytope p.m p.n (shifted (shift_of least') (pays_against g 1)) q
      → (x : ℕ → ℚ) × IsFeasible (system_of one) x × AreSame p.m (λ i. x (suc i)) q
  pub second : (g : Game) (least least' : ℚ) (one two : LinearSystem) (x : ℕ → ℚ)
      → (p : ArePolytopes g least least' one two) → IsFeasible (system_of two) x
      → IsInPolytope p.n p.m (shifted (shift_of least) (pays_against g 0)) (λ j. x (p.m + suc j))
  pub second_back : (g : Game) (least least' : ℚ) (one two : LinearSystem) (q : ℕ → ℚ)
      → (p : ArePolytopes g least least' one two)
      → IsInPolytope p.n p.m (shifted (shift_of least) (pays_against g 0)) q
      → (x : ℕ → ℚ) × IsFeasible (system_of two) x × AreSame p.n (λ j. x (p.m + suc j)) q
