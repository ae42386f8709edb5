use Rattle.std.proofs.Common.{rules, arith, ap, length, ◌+◌, ◌*◌, ◌/◌}
use Rattle.claims.specs.ClaimWord.{PassState}
use Rattle.claims.proofs.PieceLemmas.{both_done, few_alone, halves_few}
use Rattle.claims.proofs.helping.+helping.Goals as goal

pub in_halves-returns-clause-pass : goal.in_halves-returns-clause-pass
in_halves-returns-clause-pass g t c =
    let halves = c.both_helped-both.ensures in
    record {
      same = search rules;
      few = halves_few c.args.job.now.work.count (c.parts-theirs.result / 2) _ c.args.pass.now _ _ _ _ _ (omega (arith, c.parts-theirs.ensures.is)) c.split-other.ensures.kept c.split-other.ensures.given halves.pass halves.other (ap (λ (s : PassState). s.claimed) c.join.ensures.joined);
      whole = c.join.ensures.whole;
    }

pub in_halves-returns-clause-pieces : goal.in_halves-returns-clause-pieces
in_halves-returns-clause-pieces g t c =
    let halves = c.both_helped-both in
    let f = c.args.job.now.work.f.now in
    let count = c.args.job.now.work.count in
    both_done g.F.Fn f count halves.new.pass.claimed halves.new.other.claimed _ halves.new.pieces.items halves.new.rest.items halves.result.0 halves.result.1 (ap (λ (s : PassState). s.claimed) c.join.ensures.joined) halves.ensures.first halves.ensures.second

pub helped-returns-in-None-clause-pass : goal.helped-returns-in-None-clause-pass
helped-returns-in-None-clause-pass g t c = record {
  same = search rules;
  few = few_alone c.args.job.now.work.count (16 * c.loop.counter + 16) (length c.args.pass.now.claimed) (length c.worked.new.pass.claimed) c.args.pass.now.parts c.requires.work.some (omega (arith, c.loop-test.true)) (omega (arith, c.loop.invariant.claimed, c.worked.ensures.few));
  whole = c.worked.ensures.whole;
}
