-- Laws of answers.
use Rattle.std.proofs.Common.{◌≡◌, ◌∙◌, inl, inr, ap, sym, subst, refl, Result, Ok, Err}
use Rattle.std.specs.Result.{IsErrAnd}
use Rattle.std.specs.Prelude.{IfErr}
use Rattle.answers.specs.Answers.{Answer, only, refused, such_that, refuse_where, by_case, ◌>>=◌, refused_by, map_err, map_ok, IsSingle, Gives}

-- two values of one answer
pub ok_same : {E Y : Type 0} (a b : Y) → ◌≡◌ {A = Result Y E} (Ok a) (Ok b) → a ≡ b
ok_same a b e = cc

-- two refusals of one answer
pub err_same : {E Y : Type 0} (a b : E) → ◌≡◌ {A = Result Y E} (Err a) (Err b) → a ≡ b
err_same a b e = cc

-- a value is no refusal
ok_no_err : {E Y : Type 0} (a : Y) (r : E) → ◌≡◌ {A = Result Y E} (Ok a) (Err r) → ⊥
ok_no_err a r e = cc

-- ---- at most one answer
-- the values of a single stage are the same
pub single-value : {E Y : Type 0} (p : Answer E Y) (a b : Y) → IsSingle p → p (Ok a) → p (Ok b) → a ≡ b
single-value p a b s h k = ok_same _ _ (s (Ok a) (Ok b) h k)

-- a single stage with a value is not refused
pub single-exclude : {E Y : Type 0} (p : Answer E Y) (a : Y) (r : E) → IsSingle p → p (Ok a) → p (Err r) → ⊥
single-exclude p a r s h k = ok_no_err _ _ (s (Ok a) (Err r) h k)

-- stages one after another are single, if each is
pub bind-single : {E Y Z : Type 0} (p : Answer E Y) (f : Y → Answer E Z) → IsSingle p → ((y : Y) → p (Ok y) → IsSingle (f y)) → IsSingle (p >>= f)
bind-single p f s t (Ok a) (Ok b) h k =
    t k.0 k.1 (Ok a) (Ok b) (subst (λ y. f y (Ok a)) (single-value p h.0 k.0 s h.1 k.1) h.2) k.2
bind-single p f s t (Ok a) (Err r) h (inl k) = absurd (single-exclude p h.0 r s h.1 k)
bind-single p f s t (Ok a) (Err r) h (inr k) =
    t k.0 k.1 (Ok a) (Err r) (subst (λ y. f y (Ok a)) (single-value p h.0 k.0 s h.1 k.1) h.2) k.2
bind-single p f s t (Err r) (Ok b) (inl h) k = absurd (single-exclude p k.0 r s k.1 h)
bind-single p f s t (Err r) (Ok b) (inr h) k =
    t k.0 k.1 (Err r) (Ok b) (subst (λ y. f y (Err r)) (single-value p h.0 k.0 s h.1 k.1) h.2) k.2
bind-single p f s t (Err r) (Err q) (inl h) (inl k) = ap Err (err_same _ _ (s (Err r) (Err q) h k))
bind-single p f s t (Err r) (Err q) (inl h) (inr k) = absurd (single-exclude p k.0 r s k.1 h)
bind-single p f s t (Err r) (Err q) (inr h) (inl k) = absurd (single-exclude p h.0 q s h.1 k)
bind-single p f s t (Err r) (Err q) (inr h) (inr k) =
    t k.0 k.1 (Err r) (Err q) (subst (λ y. f y (Err r)) (single-value p h.0 k.0 s h.1 k.1) h.2) k.2

-- a value and nothing else is single
pub only-single : {E Y : Type 0} (y : Y) → IsSingle (only {E = E} y)
only-single y one other h k = h ∙ sym k

-- so is a refusal and nothing else
pub refused-single : {E Y : Type 0} (refusal : E) → IsSingle (refused {Y = Y} refusal)
refused-single refusal one other h k = h ∙ sym k

-- so is a value with a property that one value alone has
pub such_that-single : {E Y : Type 0} (P : Y → Type 0) → ((a b : Y) → P a → P b → a ≡ b) → IsSingle (such_that {E = E} P)
such_that-single P same (Ok a) (Ok b) h k = ap Ok (same a b h k)
such_that-single P same (Ok a) (Err r) h k = elim k [ ]
such_that-single P same (Err r) (Ok b) h k = elim h [ ]
such_that-single P same (Err r) (Err q) h k = elim h [ ]

-- so is a refusal where P holds
pub refuse_where-single : {E : Type 0} (P : Type 0) (refusal : E) → IsSingle (refuse_where P refusal)
refuse_where-single P refusal (Ok _) (Ok _) h k = refl
refuse_where-single P refusal (Ok _) (Err r) h k = absurd (h k.0)
refuse_where-single P refusal (Err r) (Ok _) h k = absurd (k h.0)
refuse_where-single P refusal (Err r) (Err q) h k = ap Err (h.1 ∙ sym k.1)

-- one of two stages is single, if each is where it is taken
pub by_case-single : {E Y : Type 0} (P : Type 0) (p q : Answer E Y) → (P → IsSingle p) → (¬ P → IsSingle q) → IsSingle (by_case P p q)
by_case-single P p q s t one other (inl h) (inl k) = s h.0 one other h.1 k.1
by_case-single P p q s t one other (inl h) (inr k) = absurd (k.0 h.0)
by_case-single P p q s t one other (inr h) (inl k) = absurd (h.0 k.0)
by_case-single P p q s t one other (inr h) (inr k) = t h.0 one other h.1 k.1

-- telling a stage's reasons to stop by refusals keeps it single
pub refused_by-single : {S E Y : Type 0} (told : S → E) (p : Answer S Y) → IsSingle p → IsSingle (refused_by told p)
refused_by-single told p s (Ok a) (Ok b) h k = ap Ok (single-value p a b s h k)
refused_by-single told p s (Ok a) (Err r) h k = absurd (single-exclude p a k.0 s h k.1)
refused_by-single told p s (Err r) (Ok b) h k = absurd (single-exclude p b h.0 s k h.1)
refused_by-single told p s (Err r) (Err q) h k = ap Err (h.2 ∙ ap told (err_same _ _ (s (Err h.0) (Err k.0) h.1 k.1)) ∙ sym k.2)

-- ---- what calls give
-- the answer of the second of two stages is that of both
pub gives_bind : {E Y Z : Type 0} (memory : E) (p : Answer E Y) (f : Y → Answer E Z) (y : Y) (answer : Result Z E) → p (Ok y) → Gives memory (f y) answer → Gives memory (p >>= f) answer
gives_bind memory p f y (Ok z) h g = (y, h, g)
gives_bind memory p f y (Err r) h (inl m) = inl m
gives_bind memory p f y (Err r) h (inr g) = inr (inr (y, h, g))

-- a refusal of the first is that of both
pub gives_first : {E Y Z : Type 0} (memory : E) (p : Answer E Y) (f : Y → Answer E Z) (r : E) → Gives memory p (Err r) → Gives memory (p >>= f) (Err r)
gives_first memory p f r (inl m) = inl m
gives_first memory p f r (inr h) = inr (inl h)

-- what a call gives whose reasons to stop are told by refusals
pub gives_refused : {S E Y : Type 0} (memory : S) (told : S → E) (p : Answer S Y) (answer : Result Y S) → Gives memory p answer → Gives (told memory) (refused_by told p) (map_err told answer)
gives_refused memory told p (Ok y) g = g
gives_refused memory told p (Err r) (inl m) = inl (ap told m)
gives_refused memory told p (Err r) (inr h) = inr (r, h, refl)

-- the same where the answer's value stands for another
pub gives_bind_as : {E X Y Z : Type 0} (memory : E) (p : Answer E Y) (f : Y → Answer E Z) (y : Y) (answer : Result X E) (view : X → Z) → p (Ok y) → Gives memory (f y) (map_ok answer view) → Gives memory (p >>= f) (map_ok answer view)
gives_bind_as memory p f y answer view h g = gives_bind memory p f y (map_ok answer view) h g

-- what the exit of a `?` gives
pub gives_exit : {E X Y Z : Type 0} (memory : E) (p : Answer E Y) (f : Y → Answer E Z) (r : E) (answer : Result X E) (view : X → Z) → Gives memory p (Err r) → IsErrAnd answer (λ q. q ≡ r) → Gives memory (p >>= f) (map_ok answer view)
gives_exit memory p f r (Ok x) view g e = elim e [ ]
gives_exit memory p f r (Err q) view g e = subst (λ r. Gives memory (p >>= f) (Err r)) (sym e) (gives_first memory p f r g)

-- a call that stops so gives this
pub gives_stop : {E Z : Type 0} (memory : E) (p : Answer E Z) (r : E) (answer : Result Z E) → Gives memory p (Err r) → IsErrAnd answer (λ q. q ≡ r) → Gives memory p answer
gives_stop memory p r (Ok z) g e = elim e [ ]
gives_stop memory p r (Err q) g e = subst (λ r. Gives memory p (Err r)) (sym e) g

-- the same where the answer's value stands for another
pub gives_stop_as : {E X Z : Type 0} (memory : E) (p : Answer E Z) (r : E) (answer : Result X E) (view : X → Z) → Gives memory p (Err r) → IsErrAnd answer (λ q. q ≡ r) → Gives memory p (map_ok answer view)
gives_stop_as memory p r (Ok x) view g e = elim e [ ]
gives_stop_as memory p r (Err q) view g e = subst (λ r. Gives memory p (Err r)) (sym e) g

-- what holds of the refusal that is given
pub if_stop : {E X : Type 0} (P : E → Type 0) (r : E) (answer : Result X E) → P r → IsErrAnd answer (λ q. q ≡ r) → IfErr answer P
if_stop P r (Ok x) h e = tt
if_stop P r (Err q) h e = subst P (sym e) h

-- what the exit of a `?` gives that tells a stage's reason to stop by a refusal
pub gives_told_exit : {S E X Y Z : Type 0} (memory : S) (told : S → E) (p : Answer S Y) (f : Y → Answer E Z) (stop : S) (answer : Result X E) (view : X → Z) → Gives memory p (Err stop) → IsErrAnd answer (λ q. q ≡ told stop) → Gives (told memory) (refused_by told p >>= f) (map_ok answer view)
gives_told_exit memory told p f stop (Ok x) view g e = elim e [ ]
gives_told_exit memory told p f stop (Err q) view g e =
    subst (λ r. Gives (told memory) (refused_by told p >>= f) (Err r)) (sym e) (gives_first (told memory) (refused_by told p) f (told stop) (gives_refused memory told p (Err stop) g))

-- what calls of stages one after another give
pub ruleset stages = (gives_bind_as, gives_exit, gives_told_exit)
