-- A player has one list of reduced strategies.
use Rattle.std.proofs.Common.{ℕ, List}
use Rattle.std.proofs.lemmas.List.Elements.{All-contains}
use Rattle.lists.proofs.OrderLemmas.{AreAscending-determined, AreWithin}
use Rattle.game_theory.specs.Trees.{Tree}
use Rattle.reduced_strategies.specs.Choices.{IsReduced, AreReducedStrategies}
use Rattle.reduced_strategies.specs.Laws.{OneListOfStrategies}

-- each member of one list of reduced strategies stands in any other
strategies-within : (t : Tree) (i : ℕ) (one other : List (List ℕ)) → AreReducedStrategies t i one → AreReducedStrategies t i other → AreWithin one other
strategies-within t i one other p q z c = q.complete z (All-contains (IsReduced t i) one z p.sound c)

-- a player has one list of reduced strategies
pub strategies-determined : OneListOfStrategies
strategies-determined t i one other p q =
    AreAscending-determined one other p.ascending q.ascending (strategies-within t i one other p q) (strategies-within t i other one q p)
