-- What the answers say of pairs and of scaled points, and that want of memory is no reason.
use Rattle.std.proofs.Common.{ℕ, ◌≡◌, inl, inr, All, Ok, Err, List, refl, subst}
use Rattle.answers.specs.Answers.{only}
use Rattle.answers.proofs.AnswerLemmas.{only-single, single-exclude, single-value}
use Rattle.rational.specs.Rational.{ℚ}
use Rattle.linear_systems.specs.Vertices.{MarkedPoint}
use Rattle.extreme_equilibria.specs.PairLines.{scaled_point}
use Rattle.frac128.specs.Steps.{Step, StepFits, IsFirstUnfit}
use Rattle.label_pairing.specs.Pairs.{all_pairs}
use Rattle.label_pairing.specs.Scaling.{scale_steps}
use Rattle.label_pairing.specs.Stops.{pairs_in, scaled_in}
use Rattle.label_pairing.specs.declared.pairing.PairStop.{PairStop}
use Rattle.label_pairing.specs.declared.pairing.PairStop.TheVariants as pair_stops
use Rattle.label_pairing.specs.declared.scaling.ScaleStop.{ScaleStop}
use Rattle.label_pairing.specs.declared.scaling.ScaleStop.TheVariants as scale_stops

-- ---- pairs
module _ (all : List ℕ) (first second : List MarkedPoint) where
  pub pairs_are : (pairs : List (ℕ × ℕ)) → pairs_in all first second (Ok pairs) → pairs ≡ all_pairs all first second
  pairs_are pairs h = single-value {E = PairStop} (only (all_pairs all first second)) pairs (all_pairs all first second) (only-single (all_pairs all first second)) h.2 refl

  pub pairs_not_memory : pairs_in all first second (Err pair_stops.Memory) → ⊥
  pairs_not_memory (inl (_, _, e)) = cc
  pairs_not_memory (inr (_, _, e)) = single-exclude (only (all_pairs all first second)) (all_pairs all first second) pair_stops.Memory (only-single (all_pairs all first second)) refl e

-- ---- scaled points
module _ (point : List ℚ) where
  pub scaled_is : (scaled : List ℚ) → scaled_in point (Ok scaled) → scaled ≡ scaled_point point
  scaled_is scaled h = single-value {E = ScaleStop} (only (scaled_point point)) scaled (scaled_point point) (only-single (scaled_point point)) h.2 refl

  pub scaled_fits : (scaled : List ℚ) → scaled_in point (Ok scaled) → All StepFits (scale_steps point)
  scaled_fits scaled h = h.1

  pub scaled_unfit : (step : Step) → scaled_in point (Err (scale_stops.Range step)) → IsFirstUnfit (scale_steps point) step
  scaled_unfit step (inl (stop, h, e)) = (let same : stop ≡ step = cc in subst (IsFirstUnfit (scale_steps point)) same h)
  scaled_unfit step (inr (_, _, e)) = absurd (single-exclude (only (scaled_point point)) (scaled_point point) (scale_stops.Range step) (only-single (scaled_point point)) refl e)

  pub scaled_not_memory : scaled_in point (Err scale_stops.Memory) → ⊥
  scaled_not_memory (inl (_, _, e)) = cc
  scaled_not_memory (inr (_, _, e)) = single-exclude (only (scaled_point point)) (scaled_point point) scale_stops.Memory (only-single (scaled_point point)) refl e
