use Rattle.std.proofs.Common.{◌≡◌, length}
use Rattle.strategy_lists.specs.Ends.{IsAt, IsSameGame, later_ends}
use Rattle.strategy_lists.proofs.walk.Walk.back.Given as goal

abbrev pub invariant-loop-last : goal.invariant-loop-last
invariant-loop-last l = record {
  same : IsSameGame l.initial.self l.self;
  at : IsAt l.self (length l.self.decisions.now);
  ends : later_ends l.self ≡ later_ends l.initial.self;
}

abbrev pub decreases-loop-last : goal.decreases-loop-last
decreases-loop-last l = length l.self.fixed.items
