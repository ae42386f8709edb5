-- A game has its pairs, or there is a reason why it has none.
use Rattle.std.proofs.Common.{List, map}
use Rattle.answers.specs.Answered.{IsAnswered}
use Rattle.answers.proofs.AnsweredLemmas.{bind-answered, only-answered, refused_by-answered}
use Rattle.rational.specs.Rational.{ℚ}
use Rattle.frac128.proofs.FirstUnfitLemmas.{all_fit-answered}
use Rattle.lex_tableau.specs.Starts.{LinearSystem}
use Rattle.reply_polytope.proofs.AnsweredPolytopeLemmas.{polytopes-answered}
use Rattle.reply_polytope.proofs.PolytopeLemmas.{polytopes_of}
use Rattle.basis_enum.specs.Enumeration.{vertices_in}
use Rattle.basis_enum.specs.Systems.{variable_count}
use Rattle.basis_enum.proofs.AnsweredVertexLemmas.{vertices-answered}
use Rattle.label_pairing.specs.Scaling.{scale_steps}
use Rattle.label_pairing.proofs.AnsweredPairLemmas.{pairs-answered}
use Rattle.enummixed.specs.AnsweredLaws.{ExtremePairsAreAnswered}
use Rattle.enummixed.specs.BothVertices.{both_vertices_in}
use Rattle.enummixed.specs.ExtremeText.{VertexPairs}
use Rattle.enummixed.specs.Told.{polytopes_stop, enumeration_stop, pairs_stop, scale_stop}
use Rattle.enummixed.specs.Used.{all_labels, occurs, used_points, scaling_in}
use Rattle.enummixed.proofs.StageLemmas.{one-enumerable, two-enumerable}

-- points are scaled, or a step does not fit
scaling-answered : (points : List (List ℚ)) → IsAnswered (scaling_in points)
scaling-answered points = refused_by-answered _ _ (all_fit-answered scale_steps points)

-- two systems have their vertices, or there is a reason why not
both-answered : (one two : LinearSystem) → IsAnswered (vertices_in one) → IsAnswered (vertices_in two) → IsAnswered (both_vertices_in one two)
both-answered one two h g =
    bind-answered _ _ (refused_by-answered (enumeration_stop 0) _ h) (λ first _.
    bind-answered _ _ (refused_by-answered (enumeration_stop 1) _ g) (λ second _. only-answered (first, second)))

-- a game has its pairs, or a reason why not
pub extreme_pairs-answered : ExtremePairsAreAnswered
extreme_pairs-answered game positive =
    bind-answered _ _ (refused_by-answered polytopes_stop _ (polytopes-answered game positive)) (λ systems is.
    let of = polytopes_of game systems.0 systems.1 is in
    bind-answered _ _ (both-answered systems.0 systems.1 (vertices-answered systems.0 of.is_first.valid (one-enumerable game systems.0 systems.1 is)) (vertices-answered systems.1 of.is_second.valid (two-enumerable game systems.0 systems.1 is))) (λ both _.
    bind-answered _ _ (refused_by-answered pairs_stop _ (pairs-answered (all_labels (variable_count systems.0)) both.0.list both.1.list)) (λ pairs _.
    bind-answered _ _ (refused_by-answered (scale_stop 0) _ (scaling-answered (used_points both.0.list (occurs (map (λ p. p.0) pairs))))) (λ _ _.
    bind-answered _ _ (refused_by-answered (scale_stop 1) _ (scaling-answered (used_points both.1.list (occurs (map (λ p. p.1) pairs))))) (λ _ _.
    only-answered (let e : VertexPairs = record { first = both.0; second = both.1; pairs = pairs } in e))))))
