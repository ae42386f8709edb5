use Rattle.std.proofs.Common.{arith}
use Rattle.sequence_data.proofs.OrderLemmas.{greatest-all, greatest-more, greatest-none, least-all, least-more, least-none}
use Rattle.sequence_data.proofs.payoffs.extreme_payoffs.Goals as goal

pub loop-leaf-init : goal.loop-leaf-init
loop-leaf-init c = record {
  one = greatest-none (λ x. x.one) c.args.leaves.now c.index-leaves-0.result c.requires c.index-leaves-0.is;
  two = greatest-none (λ x. x.two) c.args.leaves.now c.index-leaves-0.result c.requires c.index-leaves-0.is;
  least = least-none (λ x. x.one) c.args.leaves.now c.index-leaves-0.result c.requires c.index-leaves-0.is;
}

pub loop-leaf-preserved : goal.loop-leaf-preserved
loop-leaf-preserved c = record {
  one = greatest-more (λ x. x.one) c.args.leaves.now c.loop-leaf.leaf-index c.leaf-item.result c.loop-leaf.greatest_one c.max-greatest_one.result c.loop-leaf-test.true c.leaf-item.is c.loop-leaf.invariant.one c.max-greatest_one.ensures;
  two = greatest-more (λ x. x.two) c.args.leaves.now c.loop-leaf.leaf-index c.leaf-item.result c.loop-leaf.greatest_two c.max-greatest_two.result c.loop-leaf-test.true c.leaf-item.is c.loop-leaf.invariant.two c.max-greatest_two.ensures;
  least = least-more (λ x. x.one) c.args.leaves.now c.loop-leaf.leaf-index c.leaf-item.result c.loop-leaf.least_one c.min-least_one.result c.loop-leaf-test.true c.leaf-item.is c.loop-leaf.invariant.least c.min-least_one.ensures;
}

pub returns-clause-greatest_one : goal.returns-clause-greatest_one
returns-clause-greatest_one c = greatest-all (λ x. x.one) c.args.leaves.now c.loop-leaf.leaf-index c.loop-leaf.greatest_one (omega arith) c.loop-leaf.invariant.one

pub returns-clause-greatest_two : goal.returns-clause-greatest_two
returns-clause-greatest_two c = greatest-all (λ x. x.two) c.args.leaves.now c.loop-leaf.leaf-index c.loop-leaf.greatest_two (omega arith) c.loop-leaf.invariant.two

pub returns-clause-least_one : goal.returns-clause-least_one
returns-clause-least_one c = least-all (λ x. x.one) c.args.leaves.now c.loop-leaf.leaf-index c.loop-leaf.least_one (omega arith) c.loop-leaf.invariant.least
