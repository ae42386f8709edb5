use Rattle.std.specs.Prelude.{MatchOption}
use Rattle.perfect_recall.specs.Members.{IsForgettingBelow, NobodyForgetsBelow}
use Rattle.perfect_recall.proofs.find.first_forgetting.Given as goal

abbrev pub invariant-loop-number : goal.invariant-loop-number
invariant-loop-number l = MatchOption l.found (NobodyForgetsBelow l.tree l.number) (IsForgettingBelow l.tree l.number)
