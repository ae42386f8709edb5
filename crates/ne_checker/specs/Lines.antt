-- What is told of lines one after another.
use Rattle.std.specs.Prelude.{ℕ, ◌+◌, ◌≡◌, ◌⊎◌, ◌<◌, ◌≤◌, List, [], ◌∷◌, ◌++◌, length}
use Rattle.answers.specs.Answers.{Answer, ◌>>=◌, only}
use Rattle.game_core.specs.Limits.{most_text}
use Rattle.ne_checker.specs.declared.stops.CheckStop.{CheckStop}

-- the texts of lines, of which the first has this number, one after another
abbrev pub lines_answer
    : (ℕ → List ℕ → Answer CheckStop (List ℕ)) → ℕ → List (List ℕ) → Answer CheckStop (List ℕ)
lines_answer judge number [] = only []
lines_answer judge number (line ∷ lines) = do
  text ← judge number line
  texts ← lines_answer judge (number + 1) lines
  only (text ++ texts)

-- as much of a text as the limit on texts asks for: all of it, or more than the limit
abbrev pub IsEnoughOf : List ℕ → List ℕ → Type 0
IsEnoughOf text kept = (kept ≡ text) ⊎ ((most_text < length kept) × (length kept ≤ length text))
