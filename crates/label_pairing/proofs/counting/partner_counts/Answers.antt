use Rattle.std.proofs.Common.{◌∙◌, map, ap}
use Rattle.rayon.proofs.ToStd.{slice-map}
use Rattle.label_pairing.proofs.PartnerLemmas.{partners}
use Rattle.label_pairing.proofs.counting.partner_counts.Goals as goal

pub returns : goal.returns
returns g c =
    let slice = ap (λ it. it.base.slice.now) c.map.ensures.base ∙ ap (λ it. it.slice.now) c.with_min_len.ensures.base ∙ c.par_iter.ensures in
    let f = c.map.result.f in
    let h = c.in_ok-counts.ensures in
    let chain = h.1 in
    h.2 ∙ slice-map chain.0 c.args.first.now (chain.1 ∙ slice) (partners f.0.now.all f.0.now.low.now f.0.now.high.now) h.0 chain.2
    ∙ ap (λ f. map (partners f.0.now.all f.0.now.low.now f.0.now.high.now) c.args.first.now) c.map.ensures.f
