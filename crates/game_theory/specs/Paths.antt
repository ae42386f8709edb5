-- What is made along the paths of a tree.
use Rattle.std.specs.Prelude.{ℕ, zero, suc}
use Rattle.game_theory.specs.Trees.{Tree}

-- what is made along the last n edges of the path to node k: `root` where they begin, and at each
-- further node c what `next c` makes of it
abbrev pub on_path_to : {A : Type 0} → Tree → A → (ℕ → A → A) → ℕ → ℕ → A
on_path_to t root next zero k = root
on_path_to t root next (suc n) zero = root
on_path_to t root next (suc n) (suc k) = next (suc k) (on_path_to t root next n (t.parent (suc k)))

-- What is made along the path to node k. The path has at most k edges, since each node stands after
-- its parent.
abbrev pub on_path : {A : Type 0} → Tree → A → (ℕ → A → A) → ℕ → A
on_path t root next k = on_path_to t root next k k
