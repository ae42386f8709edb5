-- That there is something, as an answer of a stage.
use Rattle.answers.specs.Answers.{Answer}

-- something has this property: it cannot be that nothing has
abbrev pub HasSome : {Y : Type 0} → (Y → Type 0) → Type 0
HasSome {Y} P = ¬ ((y : Y) → ¬ (P y))

-- there is an answer
abbrev pub IsAnswered : {E Y : Type 0} → Answer E Y → Type 0
IsAnswered p = HasSome p
