-- The pairs and the scaled points, and why there are none
use Rattle.std.specs.Prelude.{ℕ, List, length}
use Rattle.answers.specs.Answers.{Answer, ◌>>◌, only, refused_by}
use Rattle.rational.specs.Rational.{ℚ}
use Rattle.linear_systems.specs.Vertices.{MarkedPoint}
use Rattle.extreme_equilibria.specs.PairLines.{scaled_point}
use Rattle.game_core.specs.Limits.{within}
use Rattle.game_core.specs.declared.too_large.What.TheVariants as what
use Rattle.frac128.specs.FirstUnfit.{all_steps_fit}
use Rattle.label_pairing.specs.Pairs.{all_pairs, most_pairs}
use Rattle.label_pairing.specs.Scaling.{scale_steps}
use Rattle.label_pairing.specs.declared.pairing.PairStop.{PairStop}
use Rattle.label_pairing.specs.declared.pairing.PairStop.TheVariants as pair_stops
use Rattle.label_pairing.specs.declared.scaling.ScaleStop.{ScaleStop}
use Rattle.label_pairing.specs.declared.scaling.ScaleStop.TheVariants as scale_stops

-- all pairs, or the limit where there are more
abbrev pub pairs_in : List ℕ → List MarkedPoint → List MarkedPoint → Answer PairStop (List (ℕ × ℕ))
pairs_in all first second =
    refused_by pair_stops.TooLarge
    (within what.Pairs most_pairs (length (all_pairs all first second)))
    >> only (all_pairs all first second)

-- the scaled point, or the first step that does not fit
abbrev pub scaled_in : List ℚ → Answer ScaleStop (List ℚ)
scaled_in point =
    refused_by scale_stops.Range (all_steps_fit (scale_steps point)) >> only (scaled_point point)
