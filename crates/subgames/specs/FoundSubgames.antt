-- Where the subgames of a tree begin, as it was found, and the cuts there.
use Rattle.std.specs.Prelude.{ℕ, ◌<◌, ◌≡◌, ◌↔◌, Bool, IsTrue, List, [], false, length, slice_index_or, refl}
use Rattle.std.specs.Coded.{Coded, code_by, coded×, coded_bool, coded_list, coded_ℕ}
use Rattle.lists.specs.Listed.{AreListed}
use Rattle.game_theory.specs.Trees.{Tree}
use Rattle.game_core.specs.Tree.{GameTree}
use Rattle.game_core.specs.TreeGame.{game_of_tree}
use Rattle.subgames.specs.CutGames.{IsInCut}
use Rattle.subgames.specs.Roots.{IsSubgameRoot}

-- whether node k is marked
abbrev pub IsMarked : List Bool → ℕ → Type 0
IsMarked marks k = IsTrue (slice_index_or marks k false)

-- for each node whether a subgame begins there
pub record AreRootMarks (t : Tree) (begins : List Bool) : Type 0 where
  pub one_for_each : length begins ≡ t.size
  pub are_all : (k : ℕ) → k < t.size → IsMarked begins k ↔ IsSubgameRoot t k

-- for each node, where a subgame begins, the nodes of the cut there, and none elsewhere
pub record AreCutLists (t : Tree) (cuts : List (List ℕ)) : Type 0 where
  pub one_for_each : length cuts ≡ t.size
  pub are_nodes : (n : ℕ) → n < t.size
      → AreListed (λ c. IsSubgameRoot t n × IsInCut t n c) (slice_index_or cuts n [])

-- marks on nodes, and the nodes of cuts
pub record FoundSubgames : Type 0 where
  pub begins : List Bool
  pub cuts : List (List ℕ)

-- they are stored as the two lists
abbrev pub code_of_found : Coded FoundSubgames
code_of_found =
    code_by (List Bool × List (List ℕ))
    (coded× (coded_list coded_bool) (coded_list (coded_list coded_ℕ)))
    (λ f. (f.begins, f.cuts)) (λ p. record { begins = p.0; cuts = p.1 }) (λ _. refl)

-- what was found is so of this tree
pub record AreSubgamesOf (t : GameTree) (found : FoundSubgames) : Type 0 where
  pub marks : AreRootMarks (game_of_tree t) found.begins
  pub cuts : AreCutLists (game_of_tree t) found.cuts
