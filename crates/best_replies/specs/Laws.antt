-- The laws of best replies, each carried by the contract of a function of this crate.
use Rattle.std.specs.Prelude.{ℕ, suc, ◌<◌, ◌≡◌, ◌≢◌, ◌↔◌, true, false, Some, None, length, slice_index}
use Rattle.rational.specs.Rational.{ℚ, ◌+ℚ◌, ◌*ℚ◌, ◌≤ℚ◌, ◌<ℚ◌, zero_ℚ, one_ℚ}
use Rattle.rational.specs.Sum.{sum_to}
use Rattle.game_theory.specs.Profiles.{Game}
use Rattle.game_theory.specs.Mixed.{Mixed, IsValid as is_valid_profile, payoff as table_payoff, reply as table_reply}
use Rattle.game_theory.specs.Equilibrium.{IsEquilibrium as is_table_equilibrium}
use Rattle.game_theory.specs.Trees.{Tree, IsTree, IsChild, IsWithin}
use Rattle.game_theory.specs.Behaviour.{Behaviour, IsValid, branch_probability, payoff, IsChoice, reply}
use Rattle.game_theory.specs.TreeEquilibrium.{IsEquilibrium}
use Rattle.game_theory.specs.FirstNodes.{AreNumberedByFirstNodes}
use Rattle.game_theory.specs.Recall.{AllRecall, HasPerfectRecall}
use Rattle.best_replies.specs.Greatest.{HasFirstGreatest}
use Rattle.best_replies.specs.Order.{AscendOnPaths, AgreeFrom, ChoicesAgreeWithin}
use Rattle.best_replies.specs.Reaching.{reach, weight}
use Rattle.best_replies.specs.Replies.{reply_value, is_member, action_value, AreBestChoices, OthersBehaveAlike, HasBetterReply}
use Rattle.best_replies.specs.Strategies.{strategy_value, IsBestStrategy, HasBetterStrategy}

-- the root is reached, and any other node with the probability of its parent times that of the
-- action that leads to it
pub record ReachesAlongPaths : Type 0 where
  pub root : (t : Tree) (b : Behaviour) → reach t b 0 ≡ one_ℚ
  pub next : (t : Tree) (b : Behaviour) (c : ℕ) → IsTree t → 0 < c → c < t.size
      → reach t b c ≡ reach t b (t.parent c) *ℚ branch_probability t b c

-- a payoff is the sum over all nodes of what their outcomes pay, times the probability with which
-- the node is reached
abbrev pub PayoffsOverNodes : Type 0
PayoffsOverNodes =
    (t : Tree) (b : Behaviour) (i : ℕ) → IsTree t
    → payoff t b i ≡ sum_to t.size (λ k. reach t b k *ℚ t.pays k i)

-- Weights along a path: the root's is 1, an own action changes no weight, and any other action's
-- probability is a factor.
pub record WeightsAlongPaths : Type 0 where
  pub root : (t : Tree) (b : Behaviour) (i : ℕ) → weight t b i 0 ≡ one_ℚ
  pub own : (t : Tree) (b : Behaviour) (i c s : ℕ) → IsTree t → 0 < c → c < t.size
      → t.set (t.parent c) ≡ Some s → t.owner s ≡ Some i
      → weight t b i c ≡ weight t b i (t.parent c)
  pub other : (t : Tree) (b : Behaviour) (i c s : ℕ) → IsTree t → 0 < c → c < t.size
      → t.set (t.parent c) ≡ Some s → t.owner s ≢ Some i
      → weight t b i c ≡ weight t b i (t.parent c) *ℚ branch_probability t b c

-- Reply values: what the outcome pays by its weight, and the reply values of the children, of which
-- at an own node only the chosen one counts.
pub record ReplyValuesRecur : Type 0 where
  pub end : (t : Tree) (b : Behaviour) (i : ℕ) (choice : ℕ → ℕ) (k : ℕ) → IsTree t → k < t.size
      → t.set k ≡ None → reply_value t b i choice k ≡ weight t b i k *ℚ t.pays k i
  pub own : (t : Tree) (b : Behaviour) (i : ℕ) (choice : ℕ → ℕ) (k s c : ℕ) → IsTree t → k < t.size
      → t.set k ≡ Some s → t.owner s ≡ Some i → choice s < t.actions s → IsChild t k (choice s) c
      → reply_value t b i choice k ≡ (weight t b i k *ℚ t.pays k i) +ℚ reply_value t b i choice c
  pub other : (t : Tree) (b : Behaviour) (i : ℕ) (choice : ℕ → ℕ) (k s : ℕ) (child : ℕ → ℕ)
      → IsTree t → k < t.size → t.set k ≡ Some s → t.owner s ≢ Some i
      → ((a : ℕ) → a < t.actions s → IsChild t k a (child a))
      → reply_value t b i choice k
      ≡ (weight t b i k *ℚ t.pays k i)
      +ℚ sum_to (t.actions s) (λ a. reply_value t b i choice (child a))

-- what a reply pays is the root's reply value
abbrev pub RootReplyValueIsPayoff : Type 0
RootReplyValueIsPayoff =
    (t : Tree) (b : Behaviour) (i : ℕ) (choice : ℕ → ℕ)
    → reply_value t b i choice 0 ≡ payoff t (reply t b i choice) i

-- what an action is worth, by the nodes of its set: the sum of the reply values of their children
-- by that action
abbrev pub ActionValuesByMembers : Type 0
ActionValuesByMembers =
    (t : Tree) (b : Behaviour) (i : ℕ) (choice : ℕ → ℕ) (s a : ℕ) (child : ℕ → ℕ) → IsTree t
    → ((k : ℕ) → k < t.size → t.set k ≡ Some s → IsChild t k a (child k))
    → action_value t b i choice s a
    ≡ sum_to t.size (λ k. elim (is_member t s k) [
      | true ↦ reply_value t b i choice (child k)
      | false ↦ zero_ℚ
    ])

-- ---- best choices
-- under perfect recall no pure reply pays more than the best choices
abbrev pub BestChoicesPayMost : Type 0
BestChoicesPayMost =
    (t : Tree) (b : Behaviour) (i : ℕ) (choice other : ℕ → ℕ) → IsTree t → HasPerfectRecall t i
    → AreBestChoices t b i choice → IsChoice t i other
    → payoff t (reply t b i other) i ≤ℚ payoff t (reply t b i choice) i

-- and no other behaviour of the player does, random or not
abbrev pub NoBehaviourPaysMore : Type 0
NoBehaviourPaysMore =
    (t : Tree) (b other : Behaviour) (i : ℕ) (choice : ℕ → ℕ) → IsTree t → HasPerfectRecall t i
    → AreBestChoices t b i choice → IsValid t other → OthersBehaveAlike t i b other
    → payoff t other i ≤ℚ payoff t (reply t b i choice) i

-- so a better pure reply exists exactly where the best choices pay more
abbrev pub BestChoicesShowBetterReplies : Type 0
BestChoicesShowBetterReplies =
    (t : Tree) (b : Behaviour) (i : ℕ) (choice : ℕ → ℕ) → IsTree t → HasPerfectRecall t i
    → AreBestChoices t b i choice
    → (payoff t b i <ℚ reply_value t b i choice 0) ↔ HasBetterReply t b i

-- and a valid behaviour is an equilibrium exactly where no player's best choices pay more
abbrev pub EquilibriaByBestChoices : Type 0
EquilibriaByBestChoices =
    (t : Tree) (b : Behaviour) (choice : ℕ → ℕ → ℕ) → IsTree t
    → AllRecall t → ((i : ℕ) → i < t.players → AreBestChoices t b i (choice i)) → IsValid t b
    → IsEquilibrium t b ↔ ((i : ℕ) → i < t.players → reply_value t b i (choice i) 0 ≤ℚ payoff t b i)

-- ---- from the last set to the first
-- under perfect recall sets that are numbered by their first nodes ascend on each path
abbrev pub SetsAscendOnPaths : Type 0
SetsAscendOnPaths =
    (t : Tree) (i : ℕ) → IsTree t → HasPerfectRecall t i → AreNumberedByFirstNodes t
    → AscendOnPaths t i

-- the reply value of a node depends only on the choices in its subtree
abbrev pub ReplyValuesDependOnSubtrees : Type 0
ReplyValuesDependOnSubtrees =
    (t : Tree) (b : Behaviour) (i : ℕ) (choice other : ℕ → ℕ) (k : ℕ) → IsTree t → k < t.size
    → ChoicesAgreeWithin t i choice other k → reply_value t b i choice k ≡ reply_value t b i other k

-- and after an own set only on the choices at later sets
abbrev pub ReplyValuesDependOnLaterSets : Type 0
ReplyValuesDependOnLaterSets =
    (t : Tree) (b : Behaviour) (i : ℕ) (choice other : ℕ → ℕ) (s k c : ℕ) → IsTree t
    → AscendOnPaths t i → t.owner s ≡ Some i → t.set k ≡ Some s → c < t.size → IsWithin t k c
    → k ≢ c → AgreeFrom t i choice other (suc s)
    → reply_value t b i choice c ≡ reply_value t b i other c

-- and so does what an action is worth
abbrev pub ActionValuesDependOnLaterSets : Type 0
ActionValuesDependOnLaterSets =
    (t : Tree) (b : Behaviour) (i : ℕ) (choice other : ℕ → ℕ) (s a : ℕ) → IsTree t
    → AscendOnPaths t i → t.owner s ≡ Some i → AgreeFrom t i choice other (suc s)
    → action_value t b i choice s a ≡ action_value t b i other s a

-- best choices exist
abbrev pub BestChoicesExist : Type 0
BestChoicesExist =
    (t : Tree) (b : Behaviour) (i : ℕ) → IsTree t → AscendOnPaths t i
    → (choice : ℕ → ℕ) × AreBestChoices t b i choice

-- and are the only ones
abbrev pub OneListOfBestChoices : Type 0
OneListOfBestChoices =
    (t : Tree) (b : Behaviour) (i : ℕ) (choice other : ℕ → ℕ) → IsTree t → AscendOnPaths t i
    → AreBestChoices t b i choice → AreBestChoices t b i other → (s : ℕ) → s < t.sets
    → t.owner s ≡ Some i → choice s ≡ other s

-- of some numbers there is one that is the first of the greatest
abbrev pub FirstGreatestExists : Type 0
FirstGreatestExists = (n : ℕ) (v : ℕ → ℚ) → 0 < n → HasFirstGreatest n v

-- ---- strategies
-- what a strategy is worth is what the reply with it pays
abbrev pub StrategyValuesArePayoffs : Type 0
StrategyValuesArePayoffs =
    (g : Game) (m : Mixed) (i s : ℕ) → i < length g.strategies → s < slice_index g.strategies i
    → strategy_value g m i s ≡ table_payoff g (table_reply m i s) i

-- and a payoff is the mean of what the player's strategies are worth
abbrev pub PayoffIsMeanOfStrategies : Type 0
PayoffIsMeanOfStrategies =
    (g : Game) (m : Mixed) (i : ℕ) → i < length g.strategies
    → table_payoff g m i
    ≡ sum_to (slice_index g.strategies i) (λ s. m i s *ℚ strategy_value g m i s)

-- a better pure reply exists exactly where the best strategy is worth more
abbrev pub BestStrategiesShowBetterReplies : Type 0
BestStrategiesShowBetterReplies =
    (g : Game) (m : Mixed) (i s : ℕ) → i < length g.strategies → IsBestStrategy g m i s
    → (table_payoff g m i <ℚ strategy_value g m i s) ↔ HasBetterStrategy g m i

-- and a valid profile is an equilibrium exactly where no player's best strategy is worth more
abbrev pub EquilibriaByBestStrategies : Type 0
EquilibriaByBestStrategies =
    (g : Game) (m : Mixed) (best : ℕ → ℕ)
    → ((i : ℕ) → i < length g.strategies → IsBestStrategy g m i (best i))
    → is_valid_profile g.strategies m
    → is_table_equilibrium g m
    ↔ ((i : ℕ) → i < length g.strategies → strategy_value g m i (best i) ≤ℚ table_payoff g m i)
