-- What a computation in stages may answer. A stage is a relation between its input and its answer:
-- a value, or why it is refused. Stages one after another are a monad. Source: Wadler 1995, "Monads
-- for functional programming".
use Rattle.std.specs.Prelude.{◌≡◌, ◌⊎◌, Result, Ok, Err}

infixl 45 ◌>>=◌
infixl 45 ◌>>◌
-- what may be answered, where refusals are of type E and values of type Y
abbrev pub Answer : Type 0 → Type 0 → Type 1
Answer E Y = Result Y E → Type 0

-- a value and nothing else
abbrev pub only : {E Y : Type 0} → Y → Answer E Y
only y answer = answer ≡ Ok y

-- a refusal and nothing else
abbrev pub refused : {E Y : Type 0} → E → Answer E Y
refused refusal answer = answer ≡ Err refusal

-- a value with this property, and no refusal
abbrev pub such_that : {E Y : Type 0} → (Y → Type 0) → Answer E Y
such_that P (Ok y) = P y
such_that P (Err r) = ⊥

-- nothing but a refusal, where P holds
abbrev pub refuse_where : {E : Type 0} → Type 0 → E → Answer E (Unit {0})
refuse_where P refusal (Ok _) = ¬ P
refuse_where P refusal (Err r) = P × (r ≡ refusal)

-- one stage where P holds, and else another
abbrev pub by_case : {E Y : Type 0} → Type 0 → Answer E Y → Answer E Y → Answer E Y
by_case P p q answer = (P × p answer) ⊎ ((¬ P) × q answer)

-- one stage, and then another that may speak of its value
abbrev pub ◌>>=◌ : {E Y Z : Type 0} → Answer E Y → (Y → Answer E Z) → Answer E Z
◌>>=◌ {E} {Y} {Z} p f (Ok z) = (y : Y) × p (Ok y) × f y (Ok z)
◌>>=◌ {E} {Y} {Z} p f (Err r) = p (Err r) ⊎ ((y : Y) × p (Ok y) × f y (Err r))

-- the same under a name
abbrev pub then : {E Y Z : Type 0} → Answer E Y → (Y → Answer E Z) → Answer E Z
then p f = p >>= f

abbrev pub ◌>>◌ : {E Y Z : Type 0} → Answer E Y → Answer E Z → Answer E Z
◌>>◌ p q = p >>= (λ _. q)

-- a stage whose reasons to stop are told by refusals
abbrev pub refused_by : {S E Y : Type 0} → (S → E) → Answer S Y → Answer E Y
refused_by {S} told p (Ok y) = p (Ok y)
refused_by {S} told p (Err r) = (stop : S) × p (Err stop) × (r ≡ told stop)

-- an answer with a value that stands for another
abbrev pub map_ok : {E X Y : Type 0} → Result X E → (X → Y) → Result Y E
map_ok (Ok x) view = Ok (view x)
map_ok (Err r) view = Err r

-- an answer whose reason to stop is told by a refusal
abbrev pub map_err : {S E Y : Type 0} → (S → E) → Result Y S → Result Y E
map_err told (Ok y) = Ok y
map_err told (Err stop) = Err (told stop)

-- at most one answer
abbrev pub IsSingle : {E Y : Type 0} → Answer E Y → Type 0
IsSingle {E} {Y} p = (one other : Result Y E) → p one → p other → one ≡ other

-- what a call ensures that computes a stage: its answer, or want of memory
abbrev pub Gives : {E Y : Type 0} → E → Answer E Y → Result Y E → Type 0
Gives memory p (Ok y) = p (Ok y)
Gives memory p (Err r) = (r ≡ memory) ⊎ p (Err r)
