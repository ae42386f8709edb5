use Rattle.std.proofs.Common.{◌++◌, ◌∷◌, ◌∙◌, [], ap}
use Rattle.enummixed.proofs.LineTextLemmas.{line-joined}
use Rattle.enummixed.proofs.writing.push_joined.Goals as goal

pub returns : goal.returns
returns c = λ xs ys e f.
    let first = c.args.first.now in
    let second = c.args.second.now in
    c.in_ok-push.ensures.items
    ∙ ap (λ v. v ++ 10 ∷ []) (c.in_ok-extend_from_slice-3.ensures.items ∙ ap (λ v. v ++ second) (c.in_ok-extend_from_slice-2.ensures.items ∙ ap (λ v. v ++ first) c.in_ok-extend_from_slice.ensures.items))
    ∙ line-joined c.args.text.now.items c.line_start.result.now first second xs ys (c.line_start.ensures xs ys e f) e f
