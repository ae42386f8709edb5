-- The shift of a player's payoffs: 1 less the least of them is added to each.
-- Profiles count from 0.
use Rattle.std.specs.Prelude.{ℕ, ◌==◌, if◌then◌else◌, List, [], ◌∷◌, ◌++◌, map}
use Rattle.std.specs.List.{range_with_len}
use Rattle.answers.specs.Answers.{Answer, ◌>>=◌, ◌>>◌, only, such_that, refused_by}
use Rattle.rational.specs.Rational.{ℚ, one_ℚ}
use Rattle.rational.specs.Extremes.{IsLeast}
use Rattle.game_theory.specs.Profiles.{Game, profile_count}
use Rattle.frac128.specs.Steps.{step_of, Step}
use Rattle.frac128.specs.declared.steps.Op.TheVariants.{Add, Sub}
use Rattle.frac128.specs.FirstUnfit.{all_fit}
use Rattle.extreme_equilibria.specs.Bimatrix.{shift_of}
use Rattle.reply_polytope.specs.declared.stop.PolyStop.{PolyStop}
use Rattle.reply_polytope.specs.declared.stop.PolyStop.TheVariants as stops

-- the payoffs of player i, profile by profile
abbrev pub payoffs_of : Game → ℕ → List ℚ
payoffs_of g i = map (g.pays i) (range_with_len 0 (profile_count g.strategies))

-- the least payoff of player i
abbrev pub least_of : Game → ℕ → Answer PolyStop ℚ
least_of g i = such_that (IsLeast (payoffs_of g i))

-- the steps at profile k: at the first one 1 less the least payoff, and then the payoff plus this
abbrev pub shift_steps : (ℕ → ℚ) → ℚ → ℕ → List Step
shift_steps u least k =
    (if k == 0 then step_of Sub one_ℚ least ∷ [] else []) ++ step_of Add (u k) (shift_of least) ∷ []

-- the shifts by it of all payoffs fit; or the first step that does not, with its profile
abbrev pub shifts_in : Game → ℕ → ℚ → Answer PolyStop (Unit {0})
shifts_in g i least =
    refused_by (λ stop. stops.Range i stop.0 stop.1)
    (all_fit (shift_steps (g.pays i) least) (range_with_len 0 (profile_count g.strategies)))

-- the least payoff of player i, by which all payoffs can be shifted
abbrev pub shift_in : Game → ℕ → Answer PolyStop ℚ
shift_in g i = least_of g i >>= (λ least. shifts_in g i least >> only least)
