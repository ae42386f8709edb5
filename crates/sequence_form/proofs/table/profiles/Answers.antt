use Rattle.std.proofs.Common.{◌++◌, ◌∷◌, [], ◌∙◌, map, ap, sym, arith}
use Rattle.std.specs.List.{range_with_len}
use Rattle.std.proofs.lemmas.List.FromFn.{map-range_with_len_more}
use Rattle.sequence_form.specs.Forms.{profile_leaf}
use Rattle.sequence_form.proofs.table.profiles.Goals as goal

pub loop-number-preserved : goal.loop-number-preserved
loop-number-preserved c =
    let t = c.args.table.now in
    let more = map-range_with_len_more (profile_leaf t) 0 c.loop-number.number c.loop-number.number (omega arith) in
    c.in_ok-push.ensures.items ∙ ap (λ xs. xs ++ c.profile_leaf.result ∷ []) c.loop-number.invariant ∙ ap (λ x. map (profile_leaf t) (range_with_len 0 c.loop-number.number) ++ x ∷ []) c.profile_leaf.ensures ∙ sym more
