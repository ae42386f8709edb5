-- The tool `make` has at most one answer, its refusals come from the table, and it reads nothing.
use Rattle.std.proofs.Common.{ℕ, inl, inr, sym, subst, refl, arith, List, [], Option, None, Some, Result, Ok, Err}
use Rattle.answers.specs.Answers.{Gives, IsSingle, map_ok, only, refused_by}
use Rattle.answers.proofs.AnswerLemmas.{bind-single, only-single, refused_by-single}
use Rattle.outside.specs.Inputs.{InputsSeen}
use Rattle.words.specs.Words.{Make}
use Rattle.game_core.specs.MadeTables.{made_table}
use Rattle.game_core.specs.Table.{game_of}
use Rattle.enummixed.specs.ExtremeText.{extreme_pairs}
use Rattle.enummixed.proofs.VertexPairLemmas.{pairs-single}
use Rattle.refusals.specs.Told.{mixed_refusal}
use Rattle.refusals.specs.declared.refusal.Refusal.{Refusal}
use Rattle.refusals.specs.declared.refusal.Refusal.TheVariants as refusal
use Rattle.gambit_tools.specs.Input.{CountsDetermine}
use Rattle.gambit_tools.specs.Make.{counts_text, make}
use Rattle.gambit_tools.specs.Outcome.{HasAnswer, HasReadBefore, IsComputed, IsRefusedIn}
use Rattle.gambit_tools.proofs.FormContentLemmas.{AreContents, contents-origin, only-contents, then-contents, told-contents}
use Rattle.gambit_tools.proofs.MixedContentLemmas.{pairs-contents}

pub make-single : (number rows columns : ℕ) → IsSingle (make number rows columns)
make-single number rows columns =
    let g = game_of (made_table number rows columns) in
    bind-single (refused_by mixed_refusal (extreme_pairs g)) (λ pairs. only (counts_text pairs))
    (refused_by-single mixed_refusal (extreme_pairs g) (pairs-single g)) (λ pairs _. only-single (counts_text pairs))

pub make-contents : (number rows columns : ℕ) → AreContents (make number rows columns)
make-contents number rows columns =
    let g = game_of (made_table number rows columns) in
    then-contents (refused_by mixed_refusal (extreme_pairs g)) (λ pairs. only (counts_text pairs))
    (told-contents mixed_refusal (extreme_pairs g) (pairs-contents g)) (λ pairs. only-contents (counts_text pairs))

-- no count rises where nothing happens
no_counts : (seen : InputsSeen) (refused : Option Refusal) → CountsDetermine seen seen refused
no_counts seen refused = record {
  opening = λ less. absurd (omega (arith, less));
  reading = λ less. absurd (omega (arith, less));
}

module _ (number rows columns workers : ℕ) (seen : InputsSeen) where
  of_table : (r : Refusal) → make number rows columns (Err r) → IsComputed (Make number rows columns workers) seen seen (Err r)
  of_table r g =
      let o = contents-origin r (make-contents number rows columns r g) in
      let answer : HasAnswer (Make number rows columns workers) seen (Err r) = record { contents = []; are_contents = tt; is_answer = g } in
      record {
        answers = subst (λ o. IsRefusedIn (Make number rows columns workers) seen seen r o) (sym o) answer;
        has_read = subst (λ o. HasReadBefore [] seen seen o) (sym o) refl;
        selects_few = omega arith;
        counts = no_counts seen (Some r);
        inputs_stay = λ name. refl;
      }

  -- what the tool answers is computed without a look at the inputs
  pub make_computed : {X : Type 0} (answer : Result X Refusal) (view : X → List ℕ) → Gives refusal.Memory (make number rows columns) (map_ok answer view) → IsComputed (Make number rows columns workers) seen seen (map_ok answer view)
  make_computed (Ok x) view g = record {
    answers = record { contents = []; are_contents = tt; is_answer = g };
    has_read = refl;
    selects_few = omega arith;
    counts = no_counts seen None;
    inputs_stay = λ name. refl;
  }
  make_computed (Err r) view (inl e) = subst (λ r. IsComputed (Make number rows columns workers) seen seen (Err r)) (sym e) (record {
    answers = tt;
    has_read = inl refl;
    selects_few = omega arith;
    counts = no_counts seen (Some refusal.Memory);
    inputs_stay = λ name. refl;
  })
  make_computed (Err r) view (inr g) = of_table r g
