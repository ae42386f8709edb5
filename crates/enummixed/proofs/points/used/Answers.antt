use Rattle.std.proofs.Common.{◌∙◌, false, ap}
use Rattle.std.proofs.lemmas.List.{take_all}
use Rattle.std.proofs.lemmas.List.FromFn.{fill_by_all}
use Rattle.enummixed.specs.Used.{occurs}
use Rattle.enummixed.proofs.points.used.Goals as goal

pub returns : goal.returns
returns c =
    fill_by_all (occurs c.args.places.now) c.loop-place.used.items c.args.count false c.loop-place.invariant.count
    (λ i l. c.loop-place.invariant.used i false l ∙ ap (λ places. occurs places i) (take_all c.loop-place.place-index c.args.places.now c.loop-place-test.false))
