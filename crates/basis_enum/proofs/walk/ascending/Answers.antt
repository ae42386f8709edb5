use Rattle.std.proofs.Common.{subst}
use Rattle.std.specs.List.Sorted.{IsPermutation}
use Rattle.basis_enum.proofs.AscendingListLemmas.{ascending_is}
use Rattle.basis_enum.proofs.walk.ascending.Goals as goal

pub returns : goal.returns
returns c =
    ascending_is c.args.variables.now c.sort_unstable.new.self.items c.requires (subst (λ xs. IsPermutation xs c.sort_unstable.new.self.items) (c.in_ok-list.ensures.items_if_clones_equal (λ x y e. e)) c.sort_unstable.ensures.permutation) c.sort_unstable.ensures.sorted
