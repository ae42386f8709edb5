-- The systems of a game, or why it has none. Players count from 0.
use Rattle.std.specs.Prelude.{ℕ, ◌≢◌, length, sum}
use Rattle.answers.specs.Answers.{Answer, ◌>>=◌, ◌>>◌, IsSingle, such_that, refuse_where, refused_by}
use Rattle.rational.specs.Rational.{ℚ}
use Rattle.game_theory.specs.Profiles.{Game}
use Rattle.game_core.specs.Limits.{within}
use Rattle.game_core.specs.declared.too_large.What.TheVariants as what
use Rattle.lex_tableau.specs.Starts.{LinearSystem}
use Rattle.reply_polytope.specs.Polytopes.{most_labels, ArePolytopes}
use Rattle.reply_polytope.specs.Shifts.{shift_in}
use Rattle.reply_polytope.specs.declared.stop.PolyStop.{PolyStop}
use Rattle.reply_polytope.specs.declared.stop.PolyStop.TheVariants as stops

-- both players' strategies together are the labels
abbrev pub label_count : Game → ℕ
label_count g = sum g.strategies

-- the systems of a game of two players whose least payoffs are these
abbrev pub systems_of : Game → ℚ → ℚ → Answer PolyStop (LinearSystem × LinearSystem)
systems_of g least least' =
    such_that (λ systems. ArePolytopes g least least' systems.0 systems.1)

-- The two systems of a game, or why there are none: another number of players, too many labels, or
-- a step that does not fit, the first player's before the second's.
abbrev pub polytopes_in : Game → Answer PolyStop (LinearSystem × LinearSystem)
polytopes_in g =
    refuse_where (length g.strategies ≢ 2) (stops.NotTwoPlayers (length g.strategies))
    >> (refused_by stops.TooLarge (within what.Labels most_labels (label_count g))
    >> (shift_in g 0 >>= (λ one. shift_in g 1 >>= (λ two. systems_of g one two))))

-- A game has at most one answer: a pair of systems, or the reason why it has none.
abbrev pub PolytopesAreSingle : Type 0
PolytopesAreSingle = (g : Game) → IsSingle (polytopes_in g)
