-- A player's best reply to the others, chosen set by set. Source: von Stengel 1996; Kuhn 1953.
use Rattle.std.specs.Prelude.{ℕ, ◌<◌, ◌≡◌, ◌≢◌, ◌==◌, ◌&&◌, nat_lt, Bool, true, false, Some}
use Rattle.rational.specs.Rational.{ℚ, ◌*ℚ◌, ◌<ℚ◌, zero_ℚ}
use Rattle.rational.specs.Sum.{sum_to}
use Rattle.game_theory.specs.Trees.{Tree}
use Rattle.game_theory.specs.Behaviour.{Behaviour, is_index, value, payoff, IsChoice, reply}
use Rattle.best_replies.specs.Greatest.{IsFirstGreatest}
use Rattle.best_replies.specs.Reaching.{weight}

-- the reply value of node k: its weight times its value where player i replies with these choices
abbrev pub reply_value : Tree → Behaviour → ℕ → (ℕ → ℕ) → ℕ → ℚ
reply_value t b i choice k = weight t b i k *ℚ value t (reply t b i choice) i k

-- whether node k is one of set s
abbrev pub is_member : Tree → ℕ → ℕ → Bool
is_member t s k = is_index (t.set k) s

-- whether action a leads from a node of set s to node c
abbrev pub follows : Tree → ℕ → ℕ → ℕ → Bool
follows t s a c = nat_lt 0 c && (is_member t s (t.parent c) && (t.branch c == a))

-- what action a at set s is worth: the sum of the reply values of the nodes to which it leads
abbrev pub action_value : Tree → Behaviour → ℕ → (ℕ → ℕ) → ℕ → ℕ → ℚ
action_value t b i choice s a =
    sum_to t.size (λ c. elim (follows t s a c) [
      | true ↦ reply_value t b i choice c
      | false ↦ zero_ℚ
    ])

-- at each own set of player i the first action that is worth most
abbrev pub AreBestChoices : Tree → Behaviour → ℕ → (ℕ → ℕ) → Type 0
AreBestChoices t b i choice =
    (s : ℕ) → s < t.sets → t.owner s ≡ Some i
    → IsFirstGreatest (t.actions s) (action_value t b i choice s) (choice s)

-- the players other than i behave alike
abbrev pub OthersBehaveAlike : Tree → ℕ → Behaviour → Behaviour → Type 0
OthersBehaveAlike t i b other =
    (s j a : ℕ) → s < t.sets → t.owner s ≡ Some j → j ≢ i → a < t.actions s → other s a ≡ b s a

-- a pure reply of player i that pays more than the behaviour
pub record HasBetterReply (t : Tree) (b : Behaviour) (i : ℕ) : Type 0 where
  pub choice : ℕ → ℕ
  pub is_choice : IsChoice t i choice
  pub pays_more : payoff t b i <ℚ payoff t (reply t b i choice) i
