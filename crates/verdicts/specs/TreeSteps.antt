-- The steps in which it is checked that no reply of a player pays more than a behaviour on a tree.
use Rattle.std.specs.Prelude.{ℕ, zero, suc, ◌&&◌, nat_lt, Bool, true, false, if◌then◌else◌, List, [], ◌∷◌, ◌++◌, length, slice_index, reverse, Option, Some, None}
use Rattle.std.specs.List.{flat_map, range_with_len}
use Rattle.rational.specs.Rational.{ℚ, ◌*ℚ◌, zero_ℚ}
use Rattle.rational.specs.Sum.{sum_to}
use Rattle.frac128.specs.Steps.{step_of, Step, sum_steps}
use Rattle.frac128.specs.declared.steps.Op.TheVariants.{Add, Mul}
use Rattle.game_theory.specs.Trees.{Tree}
use Rattle.game_theory.specs.Behaviour.{Behaviour, action_probability, branch_probability, is_own, value}
use Rattle.game_theory.specs.Children.{child}
use Rattle.game_theory.specs.OwnSets.{own_sets, numbers_with}
use Rattle.pure_payoffs.specs.Steps.{chance_steps}
use Rattle.best_replies.specs.Reaching.{weight}
use Rattle.best_replies.specs.Replies.{reply_value}

-- ---- what the behaviour pays
-- the steps of what comes after a node of set s, and its value: the sum over the actions
abbrev pub behaviour_steps_after : Tree → Behaviour → ℕ → (ℕ → List Step) → ℕ → ℕ → List Step
behaviour_steps_after t b i later k s =
    chance_steps (t.actions s) (action_probability t b s) (λ a. value t b i (child t k a))
    (λ a. later (child t k a))

abbrev pub behaviour_value_after : Tree → Behaviour → ℕ → ℕ → ℕ → ℚ
behaviour_value_after t b i k s =
    sum_to (t.actions s) (λ a. action_probability t b s a *ℚ value t b i (child t k a))

-- the steps at a node by its set: none at an end, and else those of what comes after it, and last
-- the addition of this to what the outcome pays
abbrev pub behaviour_node_steps : Tree → Behaviour → ℕ → (ℕ → List Step) → ℕ → Option ℕ → List Step
behaviour_node_steps t b i later k None = []
behaviour_node_steps t b i later k (Some s) =
    behaviour_steps_after t b i later k s
    ++ step_of Add (t.pays k i) (behaviour_value_after t b i k s) ∷ []

-- the steps of node k's value, where what lies d edges or more below has none
abbrev pub behaviour_steps_to : Tree → Behaviour → ℕ → ℕ → ℕ → List Step
behaviour_steps_to t b i zero k = []
behaviour_steps_to t b i (suc d) k =
    behaviour_node_steps t b i (behaviour_steps_to t b i d) k (t.set k)

-- the steps of node k's value
abbrev pub behaviour_steps_at : Tree → Behaviour → ℕ → ℕ → List Step
behaviour_steps_at t b i k = behaviour_steps_to t b i t.size k

-- ---- weights
-- whether a node's weight has a factor more than its parent's: no player i's own action leads there
abbrev pub has_factor : Tree → ℕ → Option ℕ → Bool
has_factor t i None = false
has_factor t i (Some s) = if is_own t i s then false else true

-- the step of node c's weight: the product of the parent's weight and the action's probability
abbrev pub weight_step : Tree → Behaviour → ℕ → ℕ → List Step
weight_step t b i c =
    if nat_lt 0 c && has_factor t i (t.set (t.parent c))
    then step_of Mul (weight t b i (t.parent c)) (branch_probability t b c) ∷ [] else []

-- the steps of all weights, in the order of the nodes
abbrev pub tree_weight_steps : Tree → Behaviour → ℕ → List Step
tree_weight_steps t b i = flat_map (weight_step t b i) (range_with_len 0 t.size)

-- ---- reply values
-- the reply value of the node to which an action leads
abbrev pub child_value : Tree → Behaviour → ℕ → (ℕ → ℕ) → ℕ → ℕ → ℚ
child_value t b i choice k a = reply_value t b i choice (child t k a)

-- the steps of the sum of the reply values of all children of a node of set s, and the sum
abbrev pub children_steps : Tree → Behaviour → ℕ → (ℕ → ℕ) → (ℕ → List Step) → ℕ → ℕ → List Step
children_steps t b i choice later k s =
    sum_steps (t.actions s) (child_value t b i choice k) (λ a. later (child t k a))

abbrev pub children_sum : Tree → Behaviour → ℕ → (ℕ → ℕ) → ℕ → ℕ → ℚ
children_sum t b i choice k s = sum_to (t.actions s) (child_value t b i choice k)

-- The steps of the sum of the reply values after a node, by its set. At an own node only the
-- chosen child counts, and its reply value was computed when the set was decided.
abbrev pub after_steps : Tree → Behaviour → ℕ → (ℕ → ℕ) → (ℕ → List Step) → ℕ → Option ℕ
    → List Step
after_steps t b i choice later k None = []
after_steps t b i choice later k (Some s) =
    if is_own t i s then step_of Add zero_ℚ (child_value t b i choice k (choice s)) ∷ []
    else children_steps t b i choice later k s

-- that sum
abbrev pub after_sum : Tree → Behaviour → ℕ → (ℕ → ℕ) → ℕ → Option ℕ → ℚ
after_sum t b i choice k None = zero_ℚ
after_sum t b i choice k (Some s) =
    if is_own t i s then child_value t b i choice k (choice s)
    else children_sum t b i choice k s

-- a node's own two steps: its weight times what its outcome pays, and this plus the sum
abbrev pub own_steps : Tree → Behaviour → ℕ → ℕ → ℚ → List Step
own_steps t b i k sum =
    step_of Mul (weight t b i k) (t.pays k i) ∷ step_of Add (weight t b i k *ℚ t.pays k i) sum ∷ []

-- the steps of node k's reply value, where what lies d edges or more below has none
abbrev pub reply_steps_to : Tree → Behaviour → ℕ → (ℕ → ℕ) → ℕ → ℕ → List Step
reply_steps_to t b i choice zero k = []
reply_steps_to t b i choice (suc d) k =
    after_steps t b i choice (reply_steps_to t b i choice d) k (t.set k)
    ++ own_steps t b i k (after_sum t b i choice k (t.set k))

-- the steps of node k's reply value
abbrev pub reply_steps : Tree → Behaviour → ℕ → (ℕ → ℕ) → ℕ → List Step
reply_steps t b i choice k = reply_steps_to t b i choice t.size k

-- ---- decisions
-- the nodes of set s in order
abbrev pub members : Tree → ℕ → List ℕ
members t s = numbers_with t.set s t.size

-- the node to which action a of the set's node j leads
abbrev pub member_child : Tree → ℕ → ℕ → ℕ → ℕ
member_child t s a j = child t (slice_index (members t s) j) a

-- the steps of what action a at set s is worth: the sum over the set's nodes of the reply values
-- after that action
abbrev pub action_steps : Tree → Behaviour → ℕ → (ℕ → ℕ) → ℕ → ℕ → List Step
action_steps t b i choice s a =
    sum_steps (length (members t s)) (λ j. reply_value t b i choice (member_child t s a j))
    (λ j. reply_steps t b i choice (member_child t s a j))

-- the steps of a decision at set s: those of each action in order
abbrev pub decision_steps : Tree → Behaviour → ℕ → (ℕ → ℕ) → ℕ → List Step
decision_steps t b i choice s =
    flat_map (action_steps t b i choice s) (range_with_len 0 (t.actions s))

-- the steps of all decisions, from the last own set to the first
abbrev pub decisions : Tree → Behaviour → ℕ → (ℕ → ℕ) → List Step
decisions t b i choice = flat_map (decision_steps t b i choice) (reverse (own_sets t i))

-- ---- the steps of player i's best choices: the weights, the own sets from the last to the first,
-- and what the reply pays
abbrev pub best_steps : Tree → Behaviour → ℕ → (ℕ → ℕ) → List Step
best_steps t b i choice =
    tree_weight_steps t b i ++ decisions t b i choice ++ reply_steps t b i choice 0

-- all steps of player i: the payoff, and the best choices
abbrev pub tree_player_steps : Tree → Behaviour → ℕ → (ℕ → ℕ) → List Step
tree_player_steps t b i choice = behaviour_steps_at t b i 0 ++ best_steps t b i choice
