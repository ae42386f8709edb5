-- Steps at a node or a profile, one after another, and those of leaves.
use Rattle.std.proofs.Common.{ℕ, ◌≡◌, List, ◌++◌, All, Result, Ok, Err, MatchResult, subst, sym}
use Rattle.std.specs.Prelude.{IsErrAnd}
use Rattle.std.specs.List.{enumerate_from}
use Rattle.std.proofs.lemmas.Result.{err_from_is_err_and}
use Rattle.std.proofs.lemmas.List.Elements.{All-append}
use Rattle.answers.specs.Answers.{IsSingle, map_ok}
use Rattle.answers.proofs.AnswerLemmas.{refused_by-single}
use Rattle.rational.specs.Rational.{ℚ}
use Rattle.frac128.specs.Steps.{Step, StepFits, StepsGive}
use Rattle.frac128.proofs.FirstUnfitLemmas.{all_fit-single}
use Rattle.frac128.proofs.StepRunLemmas.{first_unfit-more, first_unfit-following}
use Rattle.sequence_data.specs.Steps.{gathering_in, fit_at, leaf_steps}
use Rattle.sequence_data.specs.declared.stop.SeqStop.{SeqStop}
use Rattle.sequence_data.specs.declared.stop.SeqStop.TheVariants as stops
use Rattle.sequence_data.specs.declared.types.Leaf.{Leaf}

module _ (place : ℕ) (xs ys : List Step) where
  -- what stops the first steps stops all
  pub fit_at-more : (stop : SeqStop) → fit_at place xs (Err stop) → fit_at place (xs ++ ys) (Err stop)
  fit_at-more stop (step, h, is) = (step, first_unfit-more xs ys step h, is)

  -- where the first fit the others tell the answer
  pub fit_at-following : (answer : Result (Unit {0}) SeqStop) → All StepFits xs → fit_at place ys answer → fit_at place (xs ++ ys) answer
  fit_at-following (Ok _) fit h = All-append StepFits xs ys fit h
  fit_at-following (Err stop) fit (step, h, is) = (step, first_unfit-following xs ys step fit h, is)

-- what the steps of a number gave is told, with their place where one does not fit
pub fit_at-told : (place : ℕ) (steps : List Step) (v : ℚ) (r : Result ℚ Step) (told : Result ℚ SeqStop) (Q : Step → SeqStop → Type 0) → ((e : Step) (s : SeqStop) → Q e s → s ≡ stops.Range place e) → StepsGive steps v r → MatchResult r (λ x. told ≡ Ok x) (λ e. IsErrAnd told (Q e)) → fit_at place steps (map_ok told (λ _. tt))
fit_at-told place steps v (Ok x) told Q f gives is = subst (λ t. fit_at place steps (map_ok t (λ _. tt))) (sym is) gives.1
fit_at-told place steps v (Err e) told Q f gives is =
    let p = err_from_is_err_and told is in
    subst (λ t. fit_at place steps (map_ok t (λ _. tt))) (sym p.1) (e, gives, f e p.0 p.2)

-- the steps of leaves have at most one answer
pub gathering_in-single : (leaves : List Leaf) → IsSingle (gathering_in leaves)
gathering_in-single leaves = refused_by-single (λ stop. stops.Range stop.0.1.place stop.1) _ (all_fit-single (leaf_steps leaves) (enumerate_from 0 leaves))
