use Rattle.std.proofs.Common.{◌≡◌, ◌∙◌, IfOk, length, map, ap, subst}
use Rattle.std.proofs.lemmas.List.FromFn.{length-map-range_with_len}
use Rattle.answers.specs.Answers.{Gives, refused_by, map_ok}
use Rattle.enummixed.specs.Told.{scale_stop}
use Rattle.enummixed.specs.Used.{occurs, scaling_in}
use Rattle.enummixed.specs.declared.stop.MixedStop.TheVariants as stops
use Rattle.enummixed.proofs.UsedPointLemmas.{used-vertices, scaled-vertices}
use Rattle.enummixed.proofs.extreme.scaled_at.Goals as goal

pub scaled-requires-clause-used : goal.scaled-requires-clause-used
scaled-requires-clause-used c =
    ap length (c.as_slice.ensures.value ∙ c.in_ok-used.ensures) ∙ length-map-range_with_len (occurs c.args.places.now) 0 (length c.args.vertices.now)

pub returns-clause-fit : goal.returns-clause-fit
returns-clause-fit c =
    subst (λ points. Gives stops.Memory (refused_by (scale_stop c.args.polytope) (scaling_in points)) (map_ok c.scaled.result (λ points. tt)))
    (used-vertices c.args.vertices.now c.args.places.now c.as_slice.result.now (c.as_slice.ensures.value ∙ c.in_ok-used.ensures)) c.scaled.ensures.fit

pub returns-clause-scaled : goal.returns-clause-scaled
returns-clause-scaled c =
    subst (λ all. IfOk c.scaled.result (λ points. map (λ v. v.items) points.items ≡ all))
    (scaled-vertices c.args.vertices.now c.args.places.now c.as_slice.result.now (c.as_slice.ensures.value ∙ c.in_ok-used.ensures)) c.scaled.ensures.scaled
