use Rattle.std.proofs.Common.{◌≡◌, ◌+◌, ◌*◌, ◌-◌, length}
use Rattle.claims.specs.ClaimWord.{KnowsWhole, pass_state}
use Rattle.claims.specs.Pieces.{ArePiecesOf}
use Rattle.claims.proofs.helping.+helping.Given as goal

abbrev pub invariant-helped-loop : goal.invariant-helped-loop
invariant-helped-loop g l = record {
  same : l.pass ≡ pass_state l.job.work.claims.now l.initial.pass.parts l.pass.claimed;
  claimed : length l.pass.claimed ≡ length l.initial.pass.claimed + 16 * l.counter;
  whole : KnowsWhole l.pass.parts l.pass.claimed;
  are_of : ArePiecesOf g.F.Fn l.job.work.f.now l.job.work.count l.pass.claimed l.pieces.items;
}

abbrev pub decreases-helped : goal.decreases-helped
decreases-helped g l = 5 * l.pass.now.parts

abbrev pub decreases-halved : goal.decreases-halved
decreases-halved g l = 5 * l.pass.now.parts - 1

abbrev pub decreases-in_halves : goal.decreases-in_halves
decreases-in_halves g l = 5 * l.pass.now.parts - 2

abbrev pub decreases-both_helped : goal.decreases-both_helped
decreases-both_helped g l = 5 * (l.pass.now.parts + l.other.now.parts) - 3

abbrev pub decreases-both_helped-helping : goal.decreases-both_helped-helping
decreases-both_helped-helping g l = 5 * l.other.now.parts + 1

abbrev pub decreases-both_helped-own : goal.decreases-both_helped-own
decreases-both_helped-own g l = 5 * l.pass.now.parts + 1
