-- What the listing of choices gives.
use Rattle.std.proofs.Common.{ℕ, ◌≡◌, inl, inr, Bool, List, Result, Ok, Err, ap, ◌∙◌}
use Rattle.std.specs.Result.{IsErrAnd}
use Rattle.answers.specs.Answers.{Answer, Gives, ◌>>=◌, ◌>>◌, map_ok, refused_by, such_that}
use Rattle.answers.proofs.AnswerLemmas.{gives_bind_as, gives_exit}
use Rattle.enumpure.specs.declared.listing.ListStop.{ListStop}
use Rattle.enumpure.specs.declared.listing.ListStop.TheVariants as list
use Rattle.game_core.specs.Limits.{limited_text}
use Rattle.game_theory.specs.Trees.{Tree}
use Rattle.enumpure_trees.specs.TestNodes.{AreTestNodes}
use Rattle.enumpure_trees.specs.PassingStops.{passing_text, values_in}
use Rattle.enumpure_trees.specs.PassingText.{IsPassingText}
use Rattle.enumpure_trees.specs.Told.{text_stop}
use Rattle.enumpure_trees.specs.declared.stop.ChoiceStop.{ChoiceStop}
use Rattle.enumpure_trees.specs.declared.stop.ChoiceStop.TheVariants as stops

-- the text where the values fit
abbrev text_in : (agents perfect : Bool) → Tree → Answer ChoiceStop (List ℕ)
text_in agents perfect t = do
  text ← such_that (IsPassingText agents perfect t)
  refused_by stops.TooLarge (limited_text text)

-- a reason why the lines are not listed
told_exit : {X : Type 0} (text : List ℕ) (stop : ListStop) (answer : Result X ChoiceStop) (view : X → List ℕ) → Gives list.Memory (refused_by list.TooLarge (limited_text text)) (Err stop) → IsErrAnd answer (λ q. q ≡ text_stop stop) → Gives stops.Memory (refused_by stops.TooLarge (limited_text text)) (map_ok answer view)
told_exit text stop (Ok x) view g e = elim e [ ]
told_exit text stop (Err q) view (inl m) e = inl (e ∙ ap text_stop m)
told_exit text stop (Err q) view (inr h) e = inr (h.0, h.1, e ∙ ap text_stop h.2)

module _ (agents perfect : Bool) (t : Tree) (nodes : List ℕ) (tested : AreTestNodes perfect t nodes) where
  -- a reason why there are no values
  pub gives-values_exit : {X : Type 0} (stop : ChoiceStop) (answer : Result X ChoiceStop) (view : X → List ℕ) → Gives stops.Memory (values_in t nodes) (Err stop) → IsErrAnd answer (λ q. q ≡ stop) → Gives stops.Memory (passing_text agents perfect t) (map_ok answer view)
  gives-values_exit stop answer view g e =
      gives_bind_as stops.Memory (such_that (AreTestNodes perfect t)) (λ ks. values_in t ks >> text_in agents perfect t) nodes answer view tested (gives_exit stops.Memory (values_in t nodes) (λ _. text_in agents perfect t) stop answer view g e)

  -- the answer of the text
  pub gives-text : {X : Type 0} (text : List ℕ) (answer : Result X ChoiceStop) (view : X → List ℕ) → values_in t nodes (Ok tt) → IsPassingText agents perfect t text → Gives stops.Memory (refused_by stops.TooLarge (limited_text text)) (map_ok answer view) → Gives stops.Memory (passing_text agents perfect t) (map_ok answer view)
  gives-text text answer view fit is g =
      gives_bind_as stops.Memory (such_that (AreTestNodes perfect t)) (λ ks. values_in t ks >> text_in agents perfect t) nodes answer view tested (gives_bind_as stops.Memory (values_in t nodes) (λ _. text_in agents perfect t) tt answer view fit (gives_bind_as stops.Memory (such_that (IsPassingText agents perfect t)) (λ v. refused_by stops.TooLarge (limited_text v)) text answer view is g))

  -- a reason why it is not listed
  pub gives-text_exit : {X : Type 0} (text : List ℕ) (stop : ListStop) (answer : Result X ChoiceStop) (view : X → List ℕ) → values_in t nodes (Ok tt) → IsPassingText agents perfect t text → Gives list.Memory (refused_by list.TooLarge (limited_text text)) (Err stop) → IsErrAnd answer (λ q. q ≡ text_stop stop) → Gives stops.Memory (passing_text agents perfect t) (map_ok answer view)
  gives-text_exit text stop answer view fit is g e = gives-text text answer view fit is (told_exit text stop answer view g e)
