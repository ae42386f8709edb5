-- Best replies in the entry game.
use Rattle.game_theory.specs.Behaviour.{pure}
use Rattle.game_theory.specs.TreeExamples.{entry_game, both}
use Rattle.game_theory.specs.FirstNodes.{AreNumberedByFirstNodes}
use Rattle.best_replies.specs.Replies.{AreBestChoices}

-- To stay out is best against a fight, and to enter a market that will be shared; after an entry it
-- is best to share. At a set that is not reached all actions are worth 0, and the first is chosen.
pub record BestRepliesInTheEntryGame : Type 0 where
  pub numbered : AreNumberedByFirstNodes entry_game
  pub against_a_fight : AreBestChoices entry_game (pure (both 0 0)) 0 (both 0 0)
  pub against_sharing : AreBestChoices entry_game (pure (both 0 1)) 0 (both 1 0)
  pub not_reached : AreBestChoices entry_game (pure (both 0 1)) 1 (both 0 0)
  pub reached : AreBestChoices entry_game (pure (both 1 0)) 1 (both 0 1)
