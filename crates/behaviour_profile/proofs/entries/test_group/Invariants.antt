use Rattle.std.proofs.Common.{◌≡◌, All}
use Rattle.behaviour_profile.specs.EntryTests.{TestHolds}
use Rattle.behaviour_profile.proofs.GroupTestLemmas.{tests_below, sum_below}
use Rattle.behaviour_profile.proofs.entries.test_group.Given as goal

abbrev pub invariant-loop-k : goal.invariant-loop-k
invariant-loop-k l =
    record {
      so_far : l.sum ≡ sum_below l.entries l.place l.k;
      passed : All TestHolds (tests_below l.entries l.place l.k);
    }
