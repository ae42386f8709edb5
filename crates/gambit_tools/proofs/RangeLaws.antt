-- The step that a refusal names does not fit.
use Rattle.std.proofs.Common.{ℕ, inl, inr, subst, Bool, List, [], Err, slice_index_or}
use Rattle.frac128.specs.Steps.{Step, StepFits}
use Rattle.game_text.specs.Stops.{tokens_of}
use Rattle.words.specs.Words.{Command, Check, Make}
use Rattle.refusals.specs.Told.{text_refusal}
use Rattle.refusals.specs.declared.refusal.Refusal.{Refusal}
use Rattle.refusals.specs.declared.refusal.Refusal.TheVariants as refusal
use Rattle.gambit_tools.specs.Check.{check}
use Rattle.gambit_tools.specs.Commands.{answer_of, game_answer}
use Rattle.gambit_tools.specs.Games.{game_in, within_bytes}
use Rattle.gambit_tools.specs.Laws.{NamesStep}
use Rattle.gambit_tools.proofs.CheckContentLemmas.{verdicts-contents}
use Rattle.gambit_tools.proofs.ContentLaws.{game-contents, text-contents, tool_of-contents}
use Rattle.gambit_tools.proofs.FormContentLemmas.{IsOfContents, told-contents}
use Rattle.gambit_tools.proofs.MakeLaws.{make-contents}

-- where a refusal comes from the contents, a step that it names does not fit
named-unfit : (r : Refusal) (step : Step) → IsOfContents r → NamesStep r step → ¬ (StepFits step)
named-unfit (refusal.Efg fault) named h is = h named is
named-unfit (refusal.Range place step) named h is = subst (λ s. ¬ (StepFits s)) is h
named-unfit (refusal.SubgameRange node place step) named h is = subst (λ s. ¬ (StepFits s)) is h
named-unfit r named h is = absurd is

module _ (r : Refusal) (step : Step) (names : NamesStep r step) where
  bytes-range : (bytes : List ℕ) → within_bytes bytes (Err r) → ⊥
  bytes-range bytes (_, e) = subst (λ x. NamesStep x step) e names

  game-range : (bytes : List ℕ) → game_in bytes (Err r) → IsOfContents r
  game-range bytes (inl (inl h)) = absurd (bytes-range bytes h)
  game-range bytes (inl (inr (_, _, h))) = told-contents text_refusal (tokens_of bytes) (text-contents bytes) r h
  game-range bytes (inr (tokens, _, h)) = game-contents tokens r h

  answer-range : (command : Command) (bytes : List ℕ) → game_answer command bytes (Err r) → IsOfContents r
  answer-range command bytes (inl h) = game-range bytes h
  answer-range command bytes (inr (game, _, h)) = tool_of-contents command game r h

  check-range : (strategic : Bool) (bytes lines : List ℕ) → check strategic bytes lines (Err r) → IsOfContents r
  check-range strategic bytes lines (inl h) = absurd (bytes-range bytes h)
  check-range strategic bytes lines (inr (_, _, inl h)) = absurd (bytes-range lines h)
  check-range strategic bytes lines (inr (_, _, inr (_, _, inl h))) = game-range bytes h
  check-range strategic bytes lines (inr (_, _, inr (_, _, inr (game, _, h)))) = verdicts-contents strategic game lines r h

  command-range : (command : Command) (contents : List (List ℕ)) → answer_of command contents (Err r) → IsOfContents r
  command-range (Check strategic game lines) contents h = check-range strategic (slice_index_or contents 0 []) (slice_index_or contents 1 []) h
  command-range (Make number rows columns workers) contents h = make-contents number rows columns r h
  command-range command contents h = answer-range command (slice_index_or contents 0 []) h

pub range-unfit : (command : Command) (contents : List (List ℕ)) (r : Refusal) (step : Step) → answer_of command contents (Err r) → NamesStep r step → ¬ (StepFits step)
range-unfit command contents r step h names = named-unfit r step (command-range r step names command contents h) names
