use Rattle.std.proofs.Common.{rules, is_lt}
use Rattle.std.specs.Cmp.Lexicographic.{slice_cmp}
use Rattle.std.specs.Ordering.{nat_cmp}
use Rattle.std.proofs.lemmas.Cmp.{nat_list_cmp_total}
use Rattle.std.proofs.lemmas.Fn.{always_returns_same}
use Rattle.std.proofs.lemmas.List.Sorted.{ranks_by}
use Rattle.enumpure_trees.specs.Orders.{completed_list}
use Rattle.enumpure_trees.proofs.orders.sort_completed.Goals as goal

pub returns-clause-sorted : goal.returns-clause-sorted
returns-clause-sorted c =
    c.in_ok-sort_by.ensures.sorted (λ a b. is_lt (slice_cmp nat_cmp (completed_list a.1.now) (completed_list b.1.now))) (ranks_by nat_list_cmp_total (λ a. completed_list a.1.now)) (always_returns_same _ _ _ (λ a r f k. search rules))
