-- The order in which a player's sets can be decided.
use Rattle.std.specs.Prelude.{ℕ, ◌<◌, ◌≤◌, ◌≡◌, ◌≢◌, Some}
use Rattle.game_theory.specs.Trees.{Tree, IsWithin}

-- on each path player i's own sets come in ascending order, none twice
abbrev pub AscendOnPaths : Tree → ℕ → Type 0
AscendOnPaths t i =
    (k c r s : ℕ) → c < t.size → IsWithin t k c → k ≢ c → t.set k ≡ Some r → t.set c ≡ Some s
    → t.owner r ≡ Some i → t.owner s ≡ Some i → r < s

-- choices that are the same at player i's own sets from set s on
abbrev pub AgreeFrom : Tree → ℕ → (ℕ → ℕ) → (ℕ → ℕ) → ℕ → Type 0
AgreeFrom t i choice other s =
    (r : ℕ) → s ≤ r → r < t.sets → t.owner r ≡ Some i → choice r ≡ other r

-- choices that are the same at player i's own sets in the subtree of node k
abbrev pub ChoicesAgreeWithin : Tree → ℕ → (ℕ → ℕ) → (ℕ → ℕ) → ℕ → Type 0
ChoicesAgreeWithin t i choice other k =
    (c s : ℕ) → IsWithin t k c → c < t.size → t.set c ≡ Some s → t.owner s ≡ Some i
    → choice s ≡ other s
