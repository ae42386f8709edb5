use Rattle.std.proofs.Common.{rules}
use Rattle.std.proofs.lemmas.Fn.{dedup_same}
use Rattle.std.proofs.lemmas.List.Sorted.{IsNonDecreasingBy-from_sort_by_key}
use Rattle.linear_systems.specs.Vertices.{mask_of}
use Rattle.basis_enum.specs.Vertices.{mark_of}
use Rattle.basis_enum.proofs.OrderLemmas.{is_tie}
use Rattle.basis_enum.proofs.VertexMarkLemmas.{marks_in_order}
use Rattle.basis_enum.proofs.marking.in_order.Goals as goal

pub returns : goal.returns
returns c =
    marks_in_order c.args.vertices.items c.sort_unstable_by_key.new.self.items
    c.dedup_by_key.new.self.items c.sort_unstable_by_key.ensures.permutation
    (IsNonDecreasingBy-from_sort_by_key (λ v. mask_of (mark_of v)) _
    c.sort_unstable_by_key.ensures.sorted (λ a r f k. search rules))
    (dedup_same _ (is_tie (λ v. mask_of (mark_of v))) _ (λ x y b f u v k. search rules) _ _
    c.dedup_by_key.ensures.filtered)
