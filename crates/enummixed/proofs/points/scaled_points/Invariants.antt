use Rattle.std.proofs.Common.{◌≡◌, All, [], map, cond}
use Rattle.std.specs.List.{filter, range_with_len}
use Rattle.basis_enum.specs.Vertices.{marks_of}
use Rattle.extreme_equilibria.specs.PairLines.{scaled_point}
use Rattle.frac128.specs.FirstUnfit.{StepsFit}
use Rattle.label_pairing.specs.Pairs.{mark_at}
use Rattle.label_pairing.specs.Scaling.{scale_steps}
use Rattle.enummixed.specs.Used.{is_set}
use Rattle.enummixed.proofs.points.scaled_points.Given as goal

abbrev pub invariant-loop-i : goal.invariant-loop-i
invariant-loop-i l = record {
  fit : All (StepsFit scale_steps) (map (λ i. (mark_at (marks_of l.vertices) i).point) (filter (is_set l.used) (range_with_len 0 l.i)));
  scaled : map (λ v. v.items) l.points.items ≡ map (λ i. cond (is_set l.used i) (scaled_point (mark_at (marks_of l.vertices) i).point) []) (range_with_len 0 l.i);
}
