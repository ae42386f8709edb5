-- The points of the vertices that stand in a pair, scaled in order
use Rattle.std.specs.Prelude.{ℕ, ◌==◌, Bool, false, if◌then◌else◌, List, [], ◌∷◌, length, map, get_or}
use Rattle.std.specs.List.{filter, list_any, range_with_len}
use Rattle.answers.specs.Answers.{Answer, refused_by}
use Rattle.rational.specs.Rational.{ℚ}
use Rattle.linear_systems.specs.Vertices.{MarkedPoint}
use Rattle.extreme_equilibria.specs.PairLines.{low_labels, high_labels, scaled_point}
use Rattle.frac128.specs.FirstUnfit.{all_fit}
use Rattle.label_pairing.specs.Pairs.{mark_at}
use Rattle.label_pairing.specs.Scaling.{scale_steps}
use Rattle.label_pairing.specs.declared.scaling.ScaleStop.{ScaleStop}
use Rattle.label_pairing.specs.declared.scaling.ScaleStop.TheVariants as stops

-- both words of the mask of n labels
abbrev pub all_labels : ℕ → List ℕ
all_labels n = low_labels n ∷ high_labels n ∷ []

-- whether a place is among these
abbrev pub occurs : List ℕ → ℕ → Bool
occurs places i = list_any (λ place. place == i) places

-- whether a place's flag is set
abbrev pub is_set : List Bool → ℕ → Bool
is_set flags i = get_or flags i false

-- the points at the places that are used, in order
abbrev pub used_points : List MarkedPoint → (ℕ → Bool) → List (List ℚ)
used_points list used =
    map (λ i. (mark_at list i).point) (filter used (range_with_len 0 (length list)))

-- the scaled points of the places that are used, each at its place
abbrev pub scaled_used : List MarkedPoint → (ℕ → Bool) → List (List ℚ)
scaled_used list used =
    map (λ i. if used i then scaled_point (mark_at list i).point else [])
    (range_with_len 0 (length list))

-- the steps of scaling these points fit, or the first that does not
abbrev pub scaling_in : List (List ℚ) → Answer ScaleStop (Unit {0})
scaling_in points = refused_by (λ stop. stops.Range stop.1) (all_fit scale_steps points)
