-- The entries of behaviour on a tree, in the order in which they are printed.
use Rattle.std.specs.Prelude.{ℕ, List}
use Rattle.std.specs.List.{flat_map}
use Rattle.game_theory.specs.OwnSets.{player_sets}
use Rattle.rational.specs.Rational.{ℚ}
use Rattle.game_theory.specs.Lines.{listed}
use Rattle.game_theory.specs.Trees.{Tree}
use Rattle.game_theory.specs.Behaviour.{Behaviour}

-- the entries at these sets: the probability of each action in order
abbrev pub entries_at : Tree → Behaviour → List ℕ → List ℚ
entries_at t b sets = flat_map (λ s. listed (t.actions s) (b s)) sets

-- the entries of behaviour: those at the players' sets
abbrev pub tree_entries : Tree → Behaviour → List ℚ
tree_entries t b = entries_at t b (player_sets t)
