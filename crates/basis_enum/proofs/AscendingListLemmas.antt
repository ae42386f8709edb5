-- The ascending list of variables
use Rattle.std.proofs.Common.{ℕ, ◌≢◌, eqb, List}
use Rattle.std.specs.List.{AllPairs, Contains}
use Rattle.std.specs.List.Sorted.{IsPermutation, IsSorted}
use Rattle.std.specs.Ordering.{nat_cmp}
use Rattle.std.proofs.lemmas.Bool.Decides.{Decides-eqb}
use Rattle.std.proofs.lemmas.Cmp.{nat_eq_equiv}
use Rattle.std.proofs.lemmas.List.Sorted.{Contains-permutation, IsNonDecreasingBy-from_sort, IsPermutation-sym}
use Rattle.std.proofs.lemmas.Map.Keys.{IsDistinct-IsPermutation, IsStrictlyIncreasing-from_distinct}
use Rattle.std.proofs.lemmas.Map.Made.{IsDistinct-from_AllPairs}
use Rattle.lists.specs.Listed.{AreListed}

-- different variables ascend after a sort
pub ascending_is : (xs sorted : List ℕ) → AllPairs (λ v w. v ≢ w) xs → IsPermutation xs sorted → IsSorted nat_cmp sorted → AreListed (Contains xs) sorted
ascending_is xs sorted differ p order =
    record {
      ascending = IsStrictlyIncreasing-from_distinct sorted (IsNonDecreasingBy-from_sort (λ v. v) sorted order) (IsDistinct-IsPermutation eqb nat_eq_equiv.symm xs sorted p (IsDistinct-from_AllPairs Decides-eqb xs differ));
      sound = λ v c. Contains-permutation sorted xs v (IsPermutation-sym xs sorted p) c;
      complete = λ v c. Contains-permutation xs sorted v p c;
    }
