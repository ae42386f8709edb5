-- A tree that is the cut at a node, with its nodes and sets by their numbers in the whole tree.
use Rattle.std.specs.Prelude.{ℕ, ◌+◌, ◌*◌, List, refl}
use Rattle.std.specs.Coded.{Coded, code_by, coded×, coded_ℕ, coded_list}
use Rattle.rational.specs.Rational.{ℚ}
use Rattle.rational.specs.Sum.{entry_at}
use Rattle.game_core.specs.Tree.{GameTree}
use Rattle.game_core.specs.TreeCodes.{code_of_tree}

-- a tree, and for each of its nodes and for each of its sets the number in the whole tree
pub record MadeCut : Type 0 where
  pub tree : GameTree
  pub nodes : List ℕ
  pub sets : List ℕ

-- it is stored as its three parts
abbrev pub code_of_cut : Coded MadeCut
code_of_cut =
    code_by (GameTree × (List ℕ × List ℕ))
    (coded× code_of_tree (coded× (coded_list coded_ℕ) (coded_list coded_ℕ)))
    (λ c. (c.tree, (c.nodes, c.sets)))
    (λ p. record { tree = p.0; nodes = p.1.0; sets = p.1.1 }) (λ _. refl)

-- what is given for player i at node k, in a list of one number for each player at each node
abbrev pub worth_at : (players : ℕ) → List ℚ → (k i : ℕ) → ℚ
worth_at players worth k i = entry_at worth (k * players + i)
