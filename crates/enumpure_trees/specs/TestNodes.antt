-- The nodes of a tree at which choices are tested.
use Rattle.std.specs.Prelude.{ℕ, ◌<◌, ◌≡◌, Bool, true, false, List}
use Rattle.lists.specs.Listed.{AreListed}
use Rattle.game_theory.specs.Trees.{Tree}
use Rattle.subgames.specs.Roots.{IsSubgameRoot}

-- whether a choice is tested at node k: at each node where a subgame begins, or at the root alone
abbrev pub IsTestedAt : (perfect : Bool) → Tree → ℕ → Type 0
IsTestedAt true t k = (k < t.size) × IsSubgameRoot t k
IsTestedAt false t k = k ≡ 0

-- the nodes at which choices are tested, in ascending order
abbrev pub AreTestNodes : (perfect : Bool) → Tree → List ℕ → Type 0
AreTestNodes perfect t nodes = AreListed (IsTestedAt perfect t) nodes
