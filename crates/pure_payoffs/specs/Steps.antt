-- The steps in which the value of a node is computed, where this is the choice at each set.
use Rattle.std.specs.Prelude.{ℕ, zero, suc, if◌then◌else◌, List, [], ◌∷◌, ◌++◌, Option, Some, None}
use Rattle.game_theory.specs.Children.{child}
use Rattle.rational.specs.Tests.{eq_ℚ}
use Rattle.rational.specs.Rational.{ℚ, ◌*ℚ◌, zero_ℚ}
use Rattle.rational.specs.Sum.{sum_to}
use Rattle.frac128.specs.Steps.{Step, added_product_steps, step_of}
use Rattle.frac128.specs.declared.steps.Op.TheVariants.{Add}
use Rattle.game_theory.specs.Trees.{Tree}
use Rattle.game_theory.specs.Behaviour.{value, pure}

-- The steps with which a child's product with its probability is added to a sum: none where the
-- probability is 0, and else those of the child, the product and the addition.
abbrev pub branch_steps : ℚ → ℚ → ℚ → List Step → List Step
branch_steps prob sum v steps =
    if eq_ℚ prob zero_ℚ then [] else steps ++ added_product_steps sum prob v

-- the steps at a chance node, where these are the probabilities of its first actions, the values of
-- its children and the steps of these: for each action in order those with which the child's
-- product is added to the sum so far
abbrev pub chance_steps : ℕ → (ℕ → ℚ) → (ℕ → ℚ) → (ℕ → List Step) → List Step
chance_steps zero chances values later = []
chance_steps (suc a) chances values later =
    chance_steps a chances values later
    ++ branch_steps (chances a) (sum_to a (λ b. chances b *ℚ values b)) (values a) (later a)

-- the value of what comes after a node, by the owner of its set
abbrev pub value_after : Tree → (ℕ → ℕ) → ℕ → ℕ → ℕ → Option ℕ → ℚ
value_after t choice i k s None =
    sum_to (t.actions s) (λ a. t.chance s a *ℚ value t (pure choice) i (child t k a))
value_after t choice i k s (Some j) = value t (pure choice) i (child t k (choice s))

-- the steps of what comes after a node, by the owner of its set
abbrev pub steps_after : Tree → (ℕ → ℕ) → ℕ → (ℕ → List Step) → ℕ → ℕ → Option ℕ → List Step
steps_after t choice i later k s None =
    chance_steps (t.actions s) (t.chance s) (λ a. value t (pure choice) i (child t k a))
    (λ a. later (child t k a))
steps_after t choice i later k s (Some j) = later (child t k (choice s))

-- the steps at a node by its set: none at an end, and else those of what comes after it, and last
-- the addition of this to what the outcome pays
abbrev pub node_steps : Tree → (ℕ → ℕ) → ℕ → (ℕ → List Step) → ℕ → Option ℕ → List Step
node_steps t choice i later k None = []
node_steps t choice i later k (Some s) =
    steps_after t choice i later k s (t.owner s)
    ++ step_of Add (t.pays k i) (value_after t choice i k s (t.owner s)) ∷ []

-- the steps of node k's value for player i, where what lies d edges or more below has none
abbrev pub steps_to : Tree → (ℕ → ℕ) → ℕ → ℕ → ℕ → List Step
steps_to t choice i zero k = []
steps_to t choice i (suc d) k = node_steps t choice i (steps_to t choice i d) k (t.set k)

-- the steps of node k's value for player i, where this is the choice at each set
abbrev pub steps_at : Tree → (ℕ → ℕ) → ℕ → ℕ → List Step
steps_at t choice i k = steps_to t choice i t.size k

-- the steps of player i's payoff
abbrev pub payoff_steps : Tree → (ℕ → ℕ) → ℕ → List Step
payoff_steps t choice i = steps_at t choice i 0
