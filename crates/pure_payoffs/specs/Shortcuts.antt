-- Nodes at which the choices only lead on: what the node after gives, they give as well.
use Rattle.std.specs.Prelude.{ℕ, ◌<◌, ◌≤◌, ◌≡◌, length, slice_index, Some, Result, IfOk}
use Rattle.game_theory.specs.Children.{child}
use Rattle.rational.specs.Rational.{ℚ, zero_ℚ}
use Rattle.frac128.specs.Fraction.{Fits}
use Rattle.frac128.specs.declared.steps.Unfit.{Unfit}
use Rattle.game_theory.specs.Trees.{Tree}
use Rattle.game_theory.specs.Behaviour.{value, pure}
use Rattle.pure_payoffs.specs.declared.shortcuts.Entries.{Entries}
use Rattle.frac128.specs.Steps.{StepsGive}
use Rattle.pure_payoffs.specs.Steps.{steps_at}
use Rattle.pure_payoffs.specs.Settled.{KeepValues}

-- at node k a player chooses and nothing is paid, and the choice leads to node c
pub record OnlyLeadsTo (t : Tree) (choice : ℕ → ℕ) (k c : ℕ) : Type 0 where
  pub set : ℕ
  pub owner : ℕ
  pub at_set : t.set k ≡ Some set
  pub own : t.owner set ≡ Some owner
  pub pays_nothing : (i : ℕ) → t.pays k i ≡ zero_ℚ
  pub leads : c ≡ child t k (choice set)
  pub later : k < c
  pub within : c < t.size

-- what the steps of node s give, those of node k give as well
pub record StandsFor (t : Tree) (choice : ℕ → ℕ) (k s : ℕ) : Type 0 where
  pub not_before : k ≤ s
  pub within : s < t.size
  pub gives : (i : ℕ) (result : Result ℚ Unfit) → IfOk result Fits
      → StepsGive (steps_at t choice i s) (value t (pure choice) i s) result
      → StepsGive (steps_at t choice i k) (value t (pure choice) i k) result

-- there is room for the nodes, no entry is from a later round, and the values that are kept are
-- right for all choices
pub record HasRoom (t : Tree) (entries : Entries) : Type 0 where
  pub rounds_long : length entries.rounds.items ≡ t.size
  pub targets_long : length entries.targets.items ≡ t.size
  pub no_later : (k : ℕ) → slice_index entries.rounds.items k ≤ entries.round
  pub settled : KeepValues t entries.settled

-- the entries of the present round are true
pub record KeepShortcuts (t : Tree) (choice : ℕ → ℕ) (entries : Entries) : Type 0 where
  pub room : HasRoom t entries
  pub stand : (k : ℕ) → k < t.size → slice_index entries.rounds.items k ≡ entries.round
      → StandsFor t choice k (slice_index entries.targets.items k)
