use Rattle.std.proofs.Common.{◌≡◌, ◌++◌, [], ◌∷◌, map, get_or, sym, ap, ap₂, ◌∙◌, arith}
use Rattle.std.proofs.lemmas.List.{map-append, get_or-map}
use Rattle.std.proofs.lemmas.List.FromFn.{map-range_with_len_more}
use Rattle.enumpure_trees.proofs.orders.numbered.Goals as goal

pub loop-number-preserved : goal.loop-number-preserved
loop-number-preserved c =
    let lists = map (λ v. v.items) c.args.strategies.now in
    let number = c.loop-number.number in
    let here : c.as_slice.result.now ≡ get_or lists number [] = c.as_slice.ensures.value ∙ ap (λ v. v.items) c.index-strategies-number.is ∙ sym (get_or-map (λ v. v.items) c.args.strategies.now number c.index-strategies-number.result [] c.loop-number-test.true) in
    let more = map-range_with_len_more (λ d. (d, get_or lists d [])) 0 number number (omega arith) in
    ap (map (λ p. (p.0, p.1.now))) (c.in_ok-push.ensures {u = tt}).items ∙ map-append (λ p. (p.0, p.1.now)) c.loop-number.numbered.items _ ∙ ap₂ (λ x y. x ++ (number, y) ∷ []) c.loop-number.invariant here ∙ sym more
