-- Limits have an answer.
use Rattle.std.proofs.Common.{ℕ, List}
use Rattle.answers.specs.Answered.{IsAnswered}
use Rattle.answers.proofs.AnsweredLemmas.{bind-answered, only-answered, refuse_where-answered}
use Rattle.game_core.specs.Limits.{limited_text}

-- a text is within its limit, or passes it
pub limited_text-answered : (text : List ℕ) → IsAnswered (limited_text text)
limited_text-answered text = bind-answered _ _ (refuse_where-answered _ _) (λ _ _. only-answered text)
