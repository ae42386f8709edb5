use Rattle.std.proofs.Common.{rules, ◌≡◌, ◌*◌, length}
use Rattle.claims.proofs.SharedMapLaws.{equals_map, IfOk-both}
use Rattle.worked_tableaux.proofs.shared.squares.Goals as goal

pub returns : goal.returns
returns g c =
    IfOk-both c.shared_map.result _ _ _ (λ v many each.
    let len : length v.items ≡ c.args.count = search rules in
    equals_map _ _ c.args.count (λ k. k * k) (λ k r less gives. search rules) v.items len each)
    c.shared_map.ensures.len c.shared_map.ensures.each
