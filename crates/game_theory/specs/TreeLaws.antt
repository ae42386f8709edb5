-- The laws of game trees, each carried by the contract of a function of this crate.
use Rattle.std.specs.Prelude.{ℕ, ◌<◌, ◌≡◌, true, false, Some, None}
use Rattle.rational.specs.Rational.{ℚ, ◌+ℚ◌, ◌*ℚ◌, zero_ℚ}
use Rattle.rational.specs.Sum.{sum_to}
use Rattle.game_theory.specs.Trees.{Tree, IsTree, IsChild, IsWithin}
use Rattle.game_theory.specs.Behaviour.{Behaviour, action_probability, branch_probability, is_parent, value}

-- values that obey the recursion: what the outcome pays, and the children's weighted values
abbrev pub Recurs : Tree → Behaviour → ℕ → (ℕ → ℚ) → Type 0
Recurs t b i v =
    (k : ℕ) → k < t.size
    → v k ≡ t.pays k i
    +ℚ sum_to t.size
    (λ c. elim (is_parent t k c) [ true ↦ branch_probability t b c *ℚ v c | false ↦ zero_ℚ ])

-- the values obey the recursion
abbrev pub ValuesRecur : Type 0
ValuesRecur = (t : Tree) (b : Behaviour) (i : ℕ) → IsTree t → Recurs t b i (value t b i)

-- whatever obeys the recursion is the values
abbrev pub ValuesAreUnique : Type 0
ValuesAreUnique =
    (t : Tree) (b : Behaviour) (i : ℕ) (v : ℕ → ℚ) → IsTree t → Recurs t b i v → (k : ℕ)
    → k < t.size → v k ≡ value t b i k

-- an end has the value that its outcome pays
abbrev pub EndsPayTheirOutcome : Type 0
EndsPayTheirOutcome =
    (t : Tree) (b : Behaviour) (i k : ℕ) → IsTree t → k < t.size → t.set k ≡ None
    → value t b i k ≡ t.pays k i

-- the value of any other node, by its actions
abbrev pub ValuesByActions : Type 0
ValuesByActions =
    (t : Tree) (b : Behaviour) (i k s : ℕ) (child : ℕ → ℕ) → IsTree t → k < t.size
    → t.set k ≡ Some s
    → ((a : ℕ) → a < t.actions s → IsChild t k a (child a))
    → value t b i k ≡ t.pays k i
    +ℚ sum_to (t.actions s) (λ a. action_probability t b s a *ℚ value t b i (child a))

-- two behaviours are the same at the players' sets in the subtree of node k
abbrev pub AgreeWithin : Tree → Behaviour → Behaviour → ℕ → Type 0
AgreeWithin t b other k =
    (c s i a : ℕ) → IsWithin t k c → c < t.size → t.set c ≡ Some s → t.owner s ≡ Some i
    → a < t.actions s → b s a ≡ other s a

-- the value of a node depends only on the behaviour in its subtree
abbrev pub ValuesDependOnSubtrees : Type 0
ValuesDependOnSubtrees =
    (t : Tree) (b other : Behaviour) (i k : ℕ) → IsTree t → k < t.size → AgreeWithin t b other k
    → value t b i k ≡ value t other i k
