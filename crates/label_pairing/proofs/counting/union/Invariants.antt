use Rattle.std.proofs.Common.{ℕ, ◌<◌, get_or}
use Rattle.label_pairing.specs.Matches.{HasBitsOf}
use Rattle.label_pairing.proofs.counting.union.Given as goal

abbrev pub invariant-loop-word : goal.invariant-loop-word
invariant-loop-word l = (k : ℕ) → k < l.word-index → HasBitsOf l.union (get_or l.words k 0)
