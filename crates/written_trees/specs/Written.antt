-- The nodes of a game tree as a file writes them. Source: Gambit's description of its `.efg`
-- format, version 2.
use Rattle.std.specs.Prelude.{ℕ, List, Option}
use Rattle.rational.specs.Rational.{ℚ}
use Rattle.game_core.specs.declared.tree.Action.{Action}

-- How a node names its information set: whose it is (nothing for chance), the set's number, and the
-- set's name and actions, where they are written. A player's actions have the probability 0.
pub record SetUse : Type 0 where
  pub owner : Option ℕ
  pub label : ℕ
  pub name : Option (List ℕ)
  pub actions : Option (List Action)

-- how a node names its outcome: the outcome's number, and its name and payoffs, where they are
-- written
pub record OutcomeUse : Type 0 where
  pub label : ℕ
  pub name : Option (List ℕ)
  pub payoffs : Option (List ℚ)

-- a node: its information set, and nothing at an end; its outcome, and nothing where it has none
pub record WrittenNode : Type 0 where
  pub set : Option SetUse
  pub outcome : Option OutcomeUse
