use Rattle.std.proofs.Common.{rules, ◌∙◌, ap, ◌≡◌, length}
use Rattle.std.proofs.lemmas.Result.{IfOk-weaker}
use Rattle.claims.specs.ClaimWord.{PassState}
use Rattle.claims.proofs.PieceLemmas.{AreDone-all, all_few, helped_below, gives_each}
use Rattle.claims.proofs.helping.helped_map.Goals as goal

pub in_order-requires : goal.in_order-requires
in_order-requires g c =
    let pass = c.helped.ensures.pass in
    let parts = ap (λ (s : PassState). s.parts) pass.same ∙ ap (λ (s : PassState). s.parts) c.requires.pass in
    let few = all_few c.args.count _ _ _ c.requires.pass pass in
    let each = pass.whole parts (helped_below c.args.count _ c.requires.count few) in
    let all = AreDone-all g.F.Fn c.args.f.now c.args.count _ c.helped.new.pieces.items each c.in_ok-helped.ensures.pieces in
    rw (all.2) (all.1)

pub returns : goal.returns
returns g c =
    let pass = c.helped.ensures.pass in
    let parts = ap (λ (s : PassState). s.parts) pass.same ∙ ap (λ (s : PassState). s.parts) c.requires.pass in
    let few = all_few c.args.count _ _ _ c.requires.pass pass in
    let each = pass.whole parts (helped_below c.args.count _ c.requires.count few) in
    let done = c.in_ok-helped.ensures.pieces in
    let all = AreDone-all g.F.Fn c.args.f.now c.args.count _ c.helped.new.pieces.items each done in
    let gives = gives_each g.F.Fn c.args.f.now c.args.count c.helped.new.pieces.items in
    record {
      pass = search rules;
      few = few;
      each_once = each;
      past = IfOk-weaker c.in_order.result _ _ (λ v perm. all.0) c.in_order.ensures;
      len = IfOk-weaker c.in_order.result _ _ (λ v perm. let here : length v.items ≡ c.args.count = (gives v.items (all.2) done.are_of.values perm).0 in search rules) c.in_order.ensures;
      each = IfOk-weaker c.in_order.result _ _ (λ v perm. (gives v.items (all.2) done.are_of.values perm).1) c.in_order.ensures;
    }
