use Rattle.std.proofs.Common.{◌≡◌, ◌+◌, length}
use Rattle.claims.specs.ClaimWord.{KnowsWhole, pass_state}
use Rattle.claims.specs.Pieces.{ArePiecesOf}
use Rattle.claims.proofs.helping.worked.Given as goal

abbrev pub invariant-loop : goal.invariant-loop
invariant-loop g l = record {
  same : l.pass ≡ pass_state l.work.claims.now l.initial.pass.parts l.pass.claimed;
  claimed : length l.pass.claimed ≡ length l.initial.pass.claimed + l.counter;
  whole : KnowsWhole l.pass.parts l.pass.claimed;
  are_of : ArePiecesOf g.F.Fn l.work.f.now l.work.count l.pass.claimed l.pieces.items;
}
