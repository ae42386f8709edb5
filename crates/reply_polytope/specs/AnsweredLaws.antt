-- That a game has an answer, as a statement. It is proved by a function of src/laws.rt.
use Rattle.std.specs.Prelude.{◌<◌, All}
use Rattle.answers.specs.Answered.{IsAnswered}
use Rattle.game_theory.specs.Profiles.{Game}
use Rattle.reply_polytope.specs.Stops.{polytopes_in}

-- A game, each of whose players has a strategy, has an answer: a pair of systems, or why it has
-- none.
abbrev pub PolytopesAreAnswered : Type 0
PolytopesAreAnswered = (g : Game) → All (λ n. 0 < n) g.strategies → IsAnswered (polytopes_in g)
