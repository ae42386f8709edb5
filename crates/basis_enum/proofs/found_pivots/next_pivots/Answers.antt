use Rattle.std.proofs.Common.{rules}
use Rattle.std.proofs.lemmas.Fn.{dedup_same}
use Rattle.std.proofs.lemmas.List.Sorted.{IsNonDecreasingBy-from_sort_by}
use Rattle.basis_enum.specs.Next.{rank_of, target_of}
use Rattle.basis_enum.proofs.FirstPivotLemmas.{next_of}
use Rattle.basis_enum.proofs.OrderLemmas.{is_tie}
use Rattle.basis_enum.proofs.found_pivots.next_pivots.Goals as goal

pub returns : goal.returns
returns c =
    next_of c.args.found.items c.sort_unstable_by.new.self.items c.dedup_by_key.new.self.items c.sort_unstable_by.ensures.permutation
    (IsNonDecreasingBy-from_sort_by rank_of _ c.sort_unstable_by.ensures.sorted (λ a r q k. search rules))
    c.requires
    (dedup_same _ (is_tie target_of) _ (λ x y b f u v k. search rules) _ _ c.dedup_by_key.ensures.filtered)
