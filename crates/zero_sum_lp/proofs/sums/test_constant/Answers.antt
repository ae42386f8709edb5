use Rattle.std.proofs.Common.{subst₂, arith}
use Rattle.sequence_data.specs.declared.types.Leaf.{Leaf}
use Rattle.zero_sum_lp.specs.FormPrograms.{AreFirstApart}
use Rattle.zero_sum_lp.proofs.ProgramStepLemmas.{same_next, all_same, first_apart, differ_by_test, same_by_test}
use Rattle.zero_sum_lp.proofs.sums.test_constant.Goals as goal

pub returns-then-ne : goal.returns-then-ne
returns-then-ne c =
    subst₂ (λ (a b : Leaf). AreFirstApart c.args.leaves.now (record { first = a.place; second = b.place; first_sum = c.index-sums-0.result; second_sum = c.index-sums-k.result })) c.index-leaves-0.is c.index-leaves-k.is
    (first_apart c.args.leaves.now c.args.sums.now c.requires.sums c.loop-k.k c.index-leaves-0.result c.index-leaves-k.result c.index-sums-k.result c.index-sums-0.result (omega arith) c.loop-k-test.true c.index-leaves-0.is c.index-leaves-k.is c.index-sums-k.is c.index-sums-0.is (differ_by_test c.index-sums-k.result c.index-sums-0.result c.ne.result c.ne.ensures c.if-ne.true) c.loop-k.invariant)

pub loop-k-preserved : goal.loop-k-preserved
loop-k-preserved c =
    same_next c.args.leaves.now c.args.sums.now c.requires.sums c.loop-k.k c.index-sums-k.result c.index-sums-0.result c.loop-k-test.true c.index-sums-k.is c.index-sums-0.is (same_by_test c.index-sums-k.result c.index-sums-0.result c.ne.result c.ne.ensures c.if-ne.false) c.loop-k.invariant

pub returns : goal.returns
returns c = all_same c.args.leaves.now c.args.sums.now c.requires.sums (λ j l. c.loop-k.invariant j (omega (arith, l)))
