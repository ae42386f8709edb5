use Rattle.std.proofs.Common.{◌<◌, None, length, get_or, ap, sym, subst, ◌∙◌, arith}
use Rattle.std.specs.Prelude.{IfSome}
use Rattle.pure_payoffs.specs.Settled.{Settles}
use Rattle.pure_payoffs.proofs.SettledPlaceLemmas.{place-read, places-kept}
use Rattle.pure_payoffs.proofs.settled.Settled.value.Goals as goal

pub returns-in-Some : goal.returns-in-Some
returns-in-Some c t keep =
    let lookup = c.in-Some.ensures.lookup.3 in
    let within : c.args.player < length c.index.result.now.items = subst (λ xs. c.args.player < length xs) c.deref.ensures.value lookup.0 in
    let inside : c.args.node < t.size = omega (arith, keep.one_for_each) in
    let place = place-read (λ v. v.items) t t.size c.args.self.now.places.items (places-kept t c.args.self.now keep) c.args.node c.args.player c.index.result.now inside c.index.ensures within in
    subst (λ place. IfSome place (Settles t c.args.player c.args.node)) (sym (lookup.1 None ∙ ap (λ xs. get_or xs c.args.player None) c.deref.ensures.value)) place.value
