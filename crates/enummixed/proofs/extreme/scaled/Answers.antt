use Rattle.std.proofs.Common.{rules}
use Rattle.basis_enum.specs.Vertices.{marks_of}
use Rattle.label_pairing.specs.declared.scaling.ScaleStop.TheVariants as scale_stops
use Rattle.enummixed.specs.Told.{scale_stop}
use Rattle.enummixed.specs.Used.{is_set, used_points, scaling_in}
use Rattle.enummixed.proofs.StageLemmas.{told-whole}
use Rattle.enummixed.proofs.extreme.scaled.Goals as goal

pub returns-clause-fit : goal.returns-clause-fit
returns-clause-fit c =
    told-whole scale_stops.Memory (scale_stop c.args.polytope) (scaling_in (used_points (marks_of c.args.vertices.now) (is_set c.args.used.now))) c.scaled_points.result c.map_err.result (λ points. tt) c.scaled_points.ensures.fit (search rules)
