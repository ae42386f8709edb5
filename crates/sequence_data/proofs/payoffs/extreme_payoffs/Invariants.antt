use Rattle.sequence_data.proofs.OrderLemmas.{IsGreatestOf, IsLeastOf}
use Rattle.sequence_data.proofs.payoffs.extreme_payoffs.Given as goal

abbrev pub invariant-loop-leaf : goal.invariant-loop-leaf
invariant-loop-leaf l = record {
  one : IsGreatestOf (λ x. x.one) l.leaves l.leaf-index l.greatest_one;
  two : IsGreatestOf (λ x. x.two) l.leaves l.leaf-index l.greatest_two;
  least : IsLeastOf (λ x. x.one) l.leaves l.leaf-index l.least_one;
}
