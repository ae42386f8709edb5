use Rattle.std.proofs.Common.{rules, ◌≡◌, ◌*◌, ◌∙◌, sym, length, slice_index}
use Rattle.claims.proofs.SharedMapLaws.{equals_map, map_by_places, IfOk-both}
use Rattle.worked_tableaux.proofs.shared.doubles.Goals as goal

pub returns : goal.returns
returns g c =
    let numbers = c.args.numbers.now in
    IfOk-both c.shared_map.result _ _ _ (λ v many each.
    let len : length v.items ≡ length numbers = search rules in
    equals_map _ _ (length numbers) (λ k. 2 * slice_index numbers k) (λ k r less gives. search rules) v.items len (λ i d less. each i d (search rules)) ∙ sym (map_by_places (λ n. 2 * n) numbers))
    c.shared_map.ensures.len c.shared_map.ensures.each
