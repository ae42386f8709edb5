use Rattle.std.proofs.Common.{ℕ, ◌≡◌, drop, get_or}
use Rattle.reduced_strategies.specs.Choices.{choice_at}
use Rattle.enumpure_trees.proofs.values.set_actions.Given as goal

-- what is chosen at the sets from this number on is written
abbrev pub invariant-loop-number : goal.invariant-loop-number
invariant-loop-number l = (s : ℕ) → get_or l.actions s 0 ≡ choice_at (drop l.number l.sets) (drop l.number l.choices) s
