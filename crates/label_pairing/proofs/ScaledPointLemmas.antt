-- A point that is scaled has exactly one answer.
use Rattle.std.proofs.Common.{List}
use Rattle.answers.specs.Answers.{IsSingle, only, refused_by}
use Rattle.answers.specs.Answered.{IsAnswered}
use Rattle.answers.proofs.AnswerLemmas.{bind-single, only-single, refused_by-single}
use Rattle.answers.proofs.AnsweredLemmas.{bind-answered, only-answered, refused_by-answered}
use Rattle.rational.specs.Rational.{ℚ}
use Rattle.frac128.specs.FirstUnfit.{all_steps_fit}
use Rattle.frac128.proofs.FirstUnfitLemmas.{all_steps_fit-answered, all_steps_fit-single}
use Rattle.extreme_equilibria.specs.PairLines.{scaled_point}
use Rattle.label_pairing.specs.Scaling.{scale_steps}
use Rattle.label_pairing.specs.Stops.{scaled_in}
use Rattle.label_pairing.specs.declared.scaling.ScaleStop.TheVariants as stops

pub scaled_points-single : (point : List ℚ) → IsSingle (scaled_in point)
scaled_points-single point =
    let fit = all_steps_fit (scale_steps point) in
    bind-single (refused_by stops.Range fit) (λ _. only (scaled_point point)) (refused_by-single stops.Range fit (all_steps_fit-single (scale_steps point))) (λ _ _. only-single (scaled_point point))

pub scaled_points-answered : (point : List ℚ) → IsAnswered (scaled_in point)
scaled_points-answered point =
    let fit = all_steps_fit (scale_steps point) in
    bind-answered (refused_by stops.Range fit) (λ _. only (scaled_point point)) (refused_by-answered stops.Range fit (all_steps_fit-answered (scale_steps point))) (λ _ _. only-answered (scaled_point point))
