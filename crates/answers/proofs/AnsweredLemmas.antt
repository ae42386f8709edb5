-- Stages that have an answer. Each lemma is proved from the premise that there is none.
use Rattle.std.proofs.Common.{inl, inr, refl, Result, Ok, Err}
use Rattle.answers.specs.Answers.{Answer, only, such_that, refuse_where, by_case, ◌>>=◌, refused_by}
use Rattle.answers.specs.Answered.{IsAnswered}

-- a stage with this answer
pub answered : {E Y : Type 0} (p : Answer E Y) (answer : Result Y E) → p answer → IsAnswered p
answered p answer h none = none answer h

-- a value and nothing else
pub only-answered : {E Y : Type 0} (y : Y) → IsAnswered (only {E = E} y)
only-answered y none = none (Ok y) refl

-- a value with a property that some value has
pub such_that-answered : {E Y : Type 0} (P : Y → Type 0) → ¬ ((y : Y) → ¬ (P y)) → IsAnswered (such_that {E = E} P)
such_that-answered P some none = some (λ y h. none (Ok y) h)

-- a refusal where P holds
pub refuse_where-answered : {E : Type 0} (P : Type 0) (refusal : E) → IsAnswered (refuse_where P refusal)
refuse_where-answered P refusal none = none (Ok tt) (λ h. none (Err refusal) (h, refl))

-- one of two stages, if each has an answer where it is taken
pub by_case-answered : {E Y : Type 0} (P : Type 0) (p q : Answer E Y) → (P → IsAnswered p) → (¬ P → IsAnswered q) → IsAnswered (by_case P p q)
by_case-answered P p q first second none =
    let fails : ¬ P = λ h. first h (λ answer a. none answer (inl (h, a))) in
    second fails (λ answer a. none answer (inr (fails, a)))

-- stages one after another, if each has an answer
pub bind-answered : {E Y Z : Type 0} (p : Answer E Y) (f : Y → Answer E Z) → IsAnswered p → ((y : Y) → p (Ok y) → IsAnswered (f y)) → IsAnswered (p >>= f)
bind-answered {E} {Y} {Z} p f first second none = first by
  where
    then : (y : Y) → p (Ok y) → (answer : Result Z E) → ¬ (f y answer)
    then y h (Ok z) a = none (Ok z) (y, h, a)
    then y h (Err r) a = none (Err r) (inr (y, h, a))

    by : (answer : Result Y E) → ¬ (p answer)
    by (Ok y) h = second y h (then y h)
    by (Err r) h = none (Err r) (inl h)

-- a stage whose reasons to stop are told by refusals
pub refused_by-answered : {S E Y : Type 0} (told : S → E) (p : Answer S Y) → IsAnswered p → IsAnswered (refused_by told p)
refused_by-answered {S} {E} {Y} told p stage none = stage by
  where
    by : (answer : Result Y S) → ¬ (p answer)
    by (Ok y) h = none (Ok y) h
    by (Err r) h = none (Err (told r)) (r, h, refl)
