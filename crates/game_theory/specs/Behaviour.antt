-- Behaviour at the sets of a tree, and what it pays. Source: Kuhn 1953.
use Rattle.std.specs.Prelude.{ℕ, zero, suc, ◌<◌, ◌≡◌, ◌==◌, ◌&&◌, nat_lt, Bool, true, false, if◌then◌else◌, Option, Some, None}
use Rattle.rational.specs.Rational.{ℚ, ◌+ℚ◌, ◌*ℚ◌, zero_ℚ}
use Rattle.rational.specs.Sum.{IsDistribution, sum_to}
use Rattle.game_theory.specs.Mixed.{sure}
use Rattle.game_theory.specs.Trees.{Tree}

-- `b s a` is the probability of action a at a set s of a player
abbrev pub Behaviour : Type 0
Behaviour = ℕ → ℕ → ℚ

-- at each player's set there is a probability distribution over the actions
abbrev pub IsValid : Tree → Behaviour → Type 0
IsValid t b = (s i : ℕ) → s < t.sets → t.owner s ≡ Some i → IsDistribution (t.actions s) (b s)

-- chance plays its own probabilities, and a player those of the behaviour
abbrev pub of_owner : Option ℕ → ℚ → ℚ → ℚ
of_owner None by_chance by_player = by_chance
of_owner (Some i) by_chance by_player = by_player

-- the probability of action a at set s
abbrev pub action_probability : Tree → Behaviour → ℕ → ℕ → ℚ
action_probability t b s a = of_owner (t.owner s) (t.chance s a) (b s a)

-- the probability of an action at a node, which is 0 at an end
abbrev pub at_set : Tree → Behaviour → Option ℕ → ℕ → ℚ
at_set t b None a = zero_ℚ
at_set t b (Some s) a = action_probability t b s a

-- the probability of the action that leads to a node
abbrev pub branch_probability : Tree → Behaviour → ℕ → ℚ
branch_probability t b c = at_set t b (t.set (t.parent c)) (t.branch c)

-- whether node k is the parent of node c
abbrev pub is_parent : Tree → ℕ → ℕ → Bool
is_parent t k c = nat_lt 0 c && (t.parent c == k)

-- The value of node k for player i, where what lies d edges or more below counts as 0: what its
-- outcome pays, and the children's values, weighted with the probabilities of the actions that lead
-- to them.
abbrev pub value_to : Tree → Behaviour → ℕ → ℕ → ℕ → ℚ
value_to t b i zero k = zero_ℚ
value_to t b i (suc d) k =
    t.pays k i
    +ℚ sum_to t.size
    (λ c. elim (is_parent t k c)
    [ true ↦ branch_probability t b c *ℚ value_to t b i d c | false ↦ zero_ℚ ])

-- the value of a node: a path has fewer edges than there are nodes
abbrev pub value : Tree → Behaviour → ℕ → ℕ → ℚ
value t b i k = value_to t b i t.size k

-- what a behaviour pays player i
abbrev pub payoff : Tree → Behaviour → ℕ → ℚ
payoff t b i = value t b i 0

-- one action at each set, with probability 1
abbrev pub pure : (ℕ → ℕ) → Behaviour
pure choice s = sure (choice s)

-- whether the index that is there, if one is, is this one
abbrev pub is_index : Option ℕ → ℕ → Bool
is_index None i = false
is_index (Some j) i = j == i

-- whether a set is player i's own
abbrev pub is_own : Tree → ℕ → ℕ → Bool
is_own t i s = is_index (t.owner s) i

-- a choice has an action of each own set of player i
abbrev pub IsChoice : Tree → ℕ → (ℕ → ℕ) → Type 0
IsChoice t i choice = (s : ℕ) → s < t.sets → t.owner s ≡ Some i → choice s < t.actions s

-- a choice has an action of each player's set
abbrev pub IsWholeChoice : Tree → (ℕ → ℕ) → Type 0
IsWholeChoice t choice = (i : ℕ) → IsChoice t i choice

-- a pure reply: player i chooses one action at each own set, and the others behave as before
abbrev pub reply : Tree → Behaviour → ℕ → (ℕ → ℕ) → Behaviour
reply t b i choice s a = if is_own t i s then sure (choice s) a else b s a
