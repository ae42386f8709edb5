-- Games in extensive form. Source: Kuhn 1953. Nodes, actions, information sets and players count
-- from 0.
use Rattle.std.specs.Prelude.{ℕ, zero, suc, ◌<◌, ◌≡◌, Option, Some, None}
use Rattle.rational.specs.Rational.{ℚ}
use Rattle.rational.specs.Sum.{IsDistribution}

-- Node 0 is the root. To each other node k leads the action `branch k` of the node `parent k`. `set
-- k` is the information set of a node at which a choice is made, and nothing at an end. `pays k i`
-- is what the outcome at node k pays player i, and 0 where there is none. A set has an owner, which
-- is nothing for chance, and so many actions. `chance s a` is the probability of action a at a set
-- of chance.
pub record Tree : Type 0 where
  pub players : ℕ
  pub size : ℕ
  pub parent : ℕ → ℕ
  pub branch : ℕ → ℕ
  pub set : ℕ → Option ℕ
  pub pays : ℕ → ℕ → ℚ
  pub sets : ℕ
  pub owner : ℕ → Option ℕ
  pub actions : ℕ → ℕ
  pub chance : ℕ → ℕ → ℚ

-- action a of node k leads to node c
abbrev pub IsChild : Tree → ℕ → ℕ → ℕ → Type 0
IsChild t k a c = (0 < c) × (c < t.size) × (t.parent c ≡ k) × (t.branch c ≡ a)

-- node k lies n edges above node c
abbrev pub IsAbove : Tree → ℕ → ℕ → ℕ → Type 0
IsAbove t zero k c = k ≡ c
IsAbove t (suc n) k c = (0 < c) × IsAbove t n k (t.parent c)

-- node c lies in the subtree of node k
abbrev pub IsWithin : Tree → ℕ → ℕ → Type 0
IsWithin t k c = (n : ℕ) × IsAbove t n k c

-- There is a root, and each node stands after its parent. Each action at each set's nodes leads to
-- one node, and each node but the root is led to by such an action.
pub record IsTree (t : Tree) : Type 0 where
  pub some_node : 0 < t.size
  pub sets_within : (k s : ℕ) → k < t.size → t.set k ≡ Some s → s < t.sets
  pub owners_within : (s i : ℕ) → s < t.sets → t.owner s ≡ Some i → i < t.players
  pub some_action : (s : ℕ) → s < t.sets → 0 < t.actions s
  pub after_parent : (c : ℕ) → 0 < c → c < t.size → t.parent c < c
  pub led_to : (c : ℕ) → 0 < c → c < t.size
      → (s : ℕ) × (t.set (t.parent c) ≡ Some s) × (t.branch c < t.actions s)
  pub some_child : (k s a : ℕ) → k < t.size → t.set k ≡ Some s → a < t.actions s
      → (c : ℕ) × IsChild t k a c
  pub one_child : (k a c d : ℕ) → IsChild t k a c → IsChild t k a d → c ≡ d
  pub chance_distributions : (s : ℕ) → s < t.sets → t.owner s ≡ None
      → IsDistribution (t.actions s) (t.chance s)
