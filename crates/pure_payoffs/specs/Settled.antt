-- Nodes in whose subtrees no player chooses: what they give is the same for all choices.
use Rattle.std.specs.Prelude.{ℕ, ◌<◌, ◌≡◌, Bool, true, false, List, [], length, map, slice_index_or, Option, None, IfSome, Ok}
use Rattle.rational.specs.Rational.{ℚ}
use Rattle.game_theory.specs.Trees.{Tree, IsWithin}
use Rattle.game_theory.specs.OwnSets.{NobodyChooses}
use Rattle.pure_payoffs.specs.declared.settled.Settled.{Settled}
use Rattle.pure_payoffs.specs.Plays.{GiveAt}

-- no player chooses in the subtree of node k
abbrev pub IsSettled : Tree → ℕ → Type 0
IsSettled t k = (c : ℕ) → c < t.size → IsWithin t k c → NobodyChooses t c

-- whatever the players choose, node k gives player i this value, and its steps fit
abbrev pub Settles : Tree → ℕ → ℕ → ℚ → Type 0
Settles t i k v = (choice : ℕ → ℕ) → GiveAt t choice i k (Ok v)

-- for each node whether it is idle: at idle nodes no player chooses
pub record AreWithoutPlayers (t : Tree) (idle : List Bool) : Type 0 where
  pub one_for_each : length idle ≡ t.size
  pub no_player : (k : ℕ) → k < t.size → slice_index_or idle k false ≡ true → NobodyChooses t k

-- for each node whether it is idle; in the subtrees of idle nodes no player chooses
pub record AreSettledNodes (t : Tree) (idle : List Bool) : Type 0 where
  pub one_for_each : length idle ≡ t.size
  pub settled : (k : ℕ) → k < t.size → slice_index_or idle k false ≡ true → IsSettled t k

-- a place for what node k is worth to player i, where that is the same for all choices
pub record IsPlace (t : Tree) (k i : ℕ) (place : Option ℚ) : Type 0 where
  pub settled : IsSettled t k
  pub value : IfSome place (Settles t i k)

-- the places that a node has
abbrev pub places_at : Settled → ℕ → List (Option ℚ)
places_at settled k = slice_index_or (map (λ v. v.items) settled.places.items) k []

-- the values that are kept are right for all choices
pub record KeepValues (t : Tree) (settled : Settled) : Type 0 where
  pub one_for_each : length settled.places.items ≡ t.size
  pub places : (k i : ℕ) → k < t.size → i < length (places_at settled k)
      → IsPlace t k i (slice_index_or (places_at settled k) i None)
