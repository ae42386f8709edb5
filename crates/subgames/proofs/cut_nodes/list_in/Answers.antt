use Rattle.std.proofs.Common.{◌∙◌, ap, map, set}
use Rattle.std.proofs.lemmas.List.{map-set}
use Rattle.subgames.proofs.MemberListLemmas.{pushed-at}
use Rattle.subgames.proofs.cut_nodes.list_in.Goals as goal

pub returns : goal.returns
returns c =
    let lists = c.args.cuts.now.items in
    map-set (λ v. v.items) lists c.args.root c.push.new.self
    ∙ ap (set (map (λ v. v.items) lists) c.args.root) (pushed-at (λ v. v.items) lists c.args.root c.args.node c.index_mut.result.now c.push.new.self c.requires c.index_mut.ensures.value (c.in_ok-push.ensures {u = tt}).items)
