-- How the information sets of a game tree are numbered.
use Rattle.std.specs.Prelude.{ℕ, ◌<◌, ◌≡◌, Option, Some}
use Rattle.game_theory.specs.Trees.{Tree}

-- indices are numbered by first use: before a place with one comes a place with each smaller one
abbrev pub AreNumberedByFirstUse : (ℕ → Option ℕ) → ℕ → Type 0
AreNumberedByFirstUse index n =
    (k s r : ℕ) → k < n → index k ≡ Some s → r < s → (l : ℕ) × (l < k) × (index l ≡ Some r)

-- the sets are numbered by their first nodes
abbrev pub AreNumberedByFirstNodes : Tree → Type 0
AreNumberedByFirstNodes t = AreNumberedByFirstUse t.set t.size
