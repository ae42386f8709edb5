-- Lines that are judged one after another.
use Rattle.std.proofs.Common.{ℕ, ◌+◌, ◌<◌, ◌≤◌, ◌≡◌, List, [], ◌∷◌, ◌++◌, length, inl, inr, refl, sym, subst, arith, append_assoc, append-nil, Result, Ok, Err}
use Rattle.std.specs.Result.{IsErrAnd}
use Rattle.answers.specs.Answers.{Answer, Gives, ◌>>=◌, map_ok}
use Rattle.answers.proofs.AnswerLemmas.{gives_bind_as, gives_exit}
use Rattle.game_core.specs.Limits.{most_text}
use Rattle.ne_checker.specs.LineChecks.{limited}
use Rattle.ne_checker.specs.Lines.{IsEnoughOf, lines_answer}
use Rattle.ne_printer.specs.TextLines.{lines_of}
use Rattle.ne_checker.specs.declared.stops.CheckStop.{CheckStop}
use Rattle.ne_checker.specs.declared.stops.CheckStop.TheVariants as stops

-- what is told of the lines after, of which the first has this number, is told of all lines, with this text before it
pub record AreJudged (judge : ℕ → List ℕ → Answer CheckStop (List ℕ)) (lines : List (List ℕ)) (number : ℕ) (following : List (List ℕ)) (text : List ℕ) : Type 0 where
  pub goes_on : (more : List ℕ) → lines_answer judge number following (Ok more) → lines_answer judge 1 lines (Ok (text ++ more))
  pub stops : (r : CheckStop) → lines_answer judge number following (Err r) → lines_answer judge 1 lines (Err r)

-- all lines before the rest of a text are judged, and as much of their texts is kept as is asked for
pub record IsOnWay (judge : ℕ → List ℕ → Answer CheckStop (List ℕ)) (text : List ℕ) (number : ℕ) (rest kept : List ℕ) : Type 0 where
  pub whole : List ℕ
  pub judged : AreJudged judge (lines_of text) number (lines_of rest) whole
  pub is_kept : IsEnoughOf whole kept
  pub few : number + length rest ≤ 1 + length text

-- no line is judged yet
pub at_start : (judge : ℕ → List ℕ → Answer CheckStop (List ℕ)) (text kept : List ℕ) → kept ≡ [] → IsOnWay judge text 1 text kept
at_start judge text kept e =
    record { whole = []; judged = record { goes_on = λ more h. h; stops = λ r h. h }; is_kept = inl e; few = omega arith }

-- one more line is
one_judged : (judge : ℕ → List ℕ → Answer CheckStop (List ℕ)) (lines : List (List ℕ)) (number : ℕ) (line : List ℕ) (following : List (List ℕ)) (text piece : List ℕ) → judge number line (Ok piece) → AreJudged judge lines number (line ∷ following) text → AreJudged judge lines (number + 1) following (text ++ piece)
one_judged judge lines number line following text piece h j = record {
  goes_on = λ more k. subst (λ all. lines_answer judge 1 lines (Ok all)) (sym (append_assoc text piece more)) (j.goes_on (piece ++ more) (piece, h, (more, k, refl)));
  stops = λ r k. j.stops r (inr (piece, h, inl k));
}

pub at_next : (judge : ℕ → List ℕ → Answer CheckStop (List ℕ)) (text : List ℕ) (number : ℕ) (rest kept line following piece next : List ℕ) → IsOnWay judge text number rest kept → lines_of rest ≡ line ∷ lines_of following → length following < length rest → judge number line (Ok piece) → ((whole : List ℕ) → IsEnoughOf whole kept → IsEnoughOf (whole ++ piece) next) → IsOnWay judge text (number + 1) following next
at_next judge text number rest kept line following piece next w e shorter h k = record {
  whole = w.whole ++ piece;
  judged = one_judged judge (lines_of text) number line (lines_of following) w.whole piece h (subst (λ lines. AreJudged judge (lines_of text) number lines w.whole) e w.judged);
  is_kept = k w.whole w.is_kept;
  few = omega (arith, w.few);
}

-- a refused line
pub at_stop : (judge : ℕ → List ℕ → Answer CheckStop (List ℕ)) (text : List ℕ) (number : ℕ) (rest kept line following : List ℕ) (r : CheckStop) {X : Type 0} (answer : Result X CheckStop) (view : X → List ℕ) → IsOnWay judge text number rest kept → lines_of rest ≡ line ∷ lines_of following → Gives stops.Memory (judge number line) (Err r) → IsErrAnd answer (λ q. q ≡ r) → Gives stops.Memory (lines_answer judge 1 (lines_of text) >>= limited) (map_ok answer view)
at_stop judge text number rest kept line following r answer view w e (inl m) is =
    gives_exit stops.Memory (lines_answer judge 1 (lines_of text)) limited r answer view (inl m) is
at_stop judge text number rest kept line following r answer view w e (inr h) is =
    gives_exit stops.Memory (lines_answer judge 1 (lines_of text)) limited r answer view (inr (w.judged.stops r (subst (λ lines. lines_answer judge number lines (Err r)) (sym e) (inl h)))) is

-- all lines are judged
pub at_end : (judge : ℕ → List ℕ → Answer CheckStop (List ℕ)) (text : List ℕ) (number : ℕ) (rest kept : List ℕ) {X : Type 0} (answer : Result X CheckStop) (view : X → List ℕ) → IsOnWay judge text number rest kept → rest ≡ [] → ((whole : List ℕ) → IsEnoughOf whole kept → Gives stops.Memory (limited whole) (map_ok answer view)) → Gives stops.Memory (lines_answer judge 1 (lines_of text) >>= limited) (map_ok answer view)
at_end judge text number rest kept answer view w e g =
    let all = w.judged.goes_on [] (subst (λ rest. lines_answer judge number (lines_of rest) (Ok [])) (sym e) refl) in
    gives_bind_as stops.Memory (lines_answer judge 1 (lines_of text)) limited w.whole answer view (subst (λ t. lines_answer judge 1 (lines_of text) (Ok t)) (append-nil w.whole) all) (g w.whole w.is_kept)

-- more than the limit of a text was kept only of a longer text
pub longer : (whole kept : List ℕ) → IsEnoughOf whole kept → most_text < length kept → most_text < length whole
longer whole kept (inl e) h = subst (λ t. most_text < length t) e h
longer whole kept (inr more) h = omega (arith, more.0, more.1)
