-- The numbers of the players' reduced strategies, and the form's counts within their limits.
use Rattle.std.specs.Prelude.{ℕ, ◌≡◌, List, length, map}
use Rattle.answers.specs.Answers.{Answer, ◌>>=◌}
use Rattle.game_theory.specs.Trees.{Tree}
use Rattle.reduced_strategies.specs.StrategicForm.{AreStrategies}
use Rattle.reduced_form.specs.Stops.{strategies_of, within_limits}
use Rattle.reduced_form.specs.declared.stop.ReduceStop.{ReduceStop}

-- all strategies of all players, where these are their numbers
pub record AreCounted (t : Tree) (counts : List ℕ) : Type 0 where
  pub strategies : List (List (List ℕ))
  pub are_strategies : AreStrategies t strategies
  pub counts_are : counts ≡ map length strategies

-- both counts of the form over a tree's strategies are within their limits
abbrev pub counts_in : Tree → Answer ReduceStop (Unit {0})
counts_in t = strategies_of t >>= within_limits t
