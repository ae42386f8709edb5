-- What the two systems of a game are, and that want of memory is no reason why there are none.
use Rattle.std.proofs.Common.{ℕ, ◌+◌, ◌<◌, ◌≤◌, ◌≡◌, Ok, [], ◌∷◌, sum, ap, refl, sym, subst, arith}
use Rattle.answers.specs.Answers.{only}
use Rattle.answers.proofs.AnswerLemmas.{only-single, single-value}
use Rattle.rational.specs.Rational.{ℚ}
use Rattle.rational.specs.Extremes.{IsLeast}
use Rattle.game_theory.specs.Profiles.{Game}
use Rattle.extreme_equilibria.specs.TwoPlayers.{pays_against}
use Rattle.extreme_equilibria.specs.Bimatrix.{shifted, shift_of}
use Rattle.extreme_equilibria.specs.Systems.{first_system, second_system}
use Rattle.lex_tableau.specs.Starts.{LinearSystem}
use Rattle.reply_polytope.specs.Polytopes.{IsRatedSystem, most_labels}
use Rattle.reply_polytope.specs.Shifts.{payoffs_of, shift_in}
use Rattle.reply_polytope.specs.Stops.{polytopes_in}
use Rattle.reply_polytope.specs.declared.stop.PolyStop.{PolyStop}

-- the numbers of strategies, the least payoffs and the systems of a game of two players
pub record ArePolytopesOf (g : Game) (first second : LinearSystem) : Type 0 where
  pub m : ℕ
  pub n : ℕ
  pub strategies : g.strategies ≡ m ∷ n ∷ []
  pub few_labels : m + n ≤ most_labels
  pub least : ℚ
  pub least' : ℚ
  pub is_least : IsLeast (payoffs_of g 0) least
  pub is_least' : IsLeast (payoffs_of g 1) least'
  pub is_first : IsRatedSystem
      (first_system m n (shifted (shift_of least') (pays_against g 1))) first
  pub is_second : IsRatedSystem
      (second_system m n (shifted (shift_of least) (pays_against g 0))) second

-- a shift is by the least payoff
shift_is_by_least : (g : Game) (i : ℕ) (least : ℚ) → shift_in g i (Ok least) → IsLeast (payoffs_of g i) least
shift_is_by_least g i least h = subst (IsLeast (payoffs_of g i)) (sym (single-value {E = PolyStop} (only h.0) least h.0 (only-single h.0) h.2.2 refl)) h.1

pub polytopes_of : (g : Game) (first second : LinearSystem) → polytopes_in g (Ok (first, second)) → ArePolytopesOf g first second
polytopes_of g first second h =
    let one = h.2.2.0 in
    let two = h.2.2.2.0 in
    let systems = h.2.2.2.2 in
    record {
      m = systems.m;
      n = systems.n;
      strategies = systems.strategies;
      few_labels = few h.2.1;
      least = one;
      least' = two;
      is_least = shift_is_by_least g 0 one h.2.2.1;
      is_least' = shift_is_by_least g 1 two h.2.2.2.1;
      is_first = systems.is_first;
      is_second = systems.is_second;
    }
  where
    few : (most_labels < sum g.strategies → ⊥) → h.2.2.2.2.m + h.2.2.2.2.n ≤ most_labels
    few l = let e = ap sum h.2.2.2.2.strategies in omega (arith, e, l)

-- ---- want of memory
