use Rattle.std.proofs.Common.{arith}
use Rattle.efg_reader.proofs.OpenBranchLemmas.{place_taken}
use Rattle.efg_reader.proofs.builder.take_branch.Goals as goal

pub returns-then-taken : goal.returns-then-taken
returns-then-taken c =
    let kept = c.args.branchings.now in
    let last = c.in_ok-last.ensures in
    place_taken kept.items c.in_ok-last.last c.index-taken.result.now c.index_mut.result.now (omega (arith, last.0, last.1, c.len.ensures, kept.ok.0)) c.index-taken.ensures c.index_mut.ensures.value c.if-taken.true
