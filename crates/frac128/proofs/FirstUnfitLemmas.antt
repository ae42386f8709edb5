-- The first step that does not fit is one.
use Rattle.std.proofs.Common.{ℕ, ◌≡◌, ◌<◌, ◌+◌, suc, length, take, drop, get_or, map, add-one, List, [], ◌∷◌, ◌++◌, All, Result, Ok, Err, inl, inr, refl, sym, ap, ap₂, ◌∙◌, subst, append_assoc, arith}
use Rattle.std.proofs.Math.Seq.{take-suc}
use Rattle.std.proofs.lemmas.List.{take-append-drop, map-append}
use Rattle.std.proofs.lemmas.List.Elements.{All-nil, All-cons, All-append}
use Rattle.answers.specs.Answers.{IsSingle}
use Rattle.answers.specs.Answered.{IsAnswered}
use Rattle.lists.proofs.DeniedLemmas.{all_or_first}
use Rattle.frac128.specs.Steps.{Step, StepFits, IsFirstUnfit}
use Rattle.frac128.specs.FirstUnfit.{StepsFit, IsFirstUnfitOf, all_fit, all_steps_fit}

-- what holds of all holds of each
pub front_has : {X : Type 0} (P : X → Type 0) (before after : List X) (x : X) → All P (before ++ x ∷ after) → P x
front_has P [] after x h = h 0 x (omega arith)
front_has P (y ∷ before) after x h = front_has P before after x (λ k d l. h (suc k) d (omega arith))

-- one is the first of which a thing does not hold
pub front_one : {X : Type 0} (P : X → Type 0) (xs ys r q : List X) (one other : X) → xs ++ one ∷ r ≡ ys ++ other ∷ q → All P xs → All P ys → (P one → ⊥) → (P other → ⊥) → one ≡ other
front_one P [] [] r q one other e f g h k = cc
front_one P [] (y ∷ ys) r q one other e f g h k = (let same : one ≡ y = cc in absurd (h (subst P (sym same) (g 0 y (omega arith)))))
front_one P (x ∷ xs) [] r q one other e f g h k = (let same : x ≡ other = cc in absurd (k (subst P same (f 0 x (omega arith)))))
front_one P (x ∷ xs) (y ∷ ys) r q one other e f g h k =
    (let rest : xs ++ one ∷ r ≡ ys ++ other ∷ q = cc in front_one P xs ys r q one other rest (λ j d l. f (suc j) d (omega arith)) (λ j d l. g (suc j) d (omega arith)) h k)

-- steps have one first step that does not fit
pub unfit_once : (steps : List Step) (one other : Step) → IsFirstUnfit steps one → IsFirstUnfit steps other → one ≡ other
unfit_once steps one other h g =
    front_one StepFits h.before g.before h.following g.following one other (sym h.is_there ∙ g.is_there) h.earlier_fit g.earlier_fit h.does_not_fit g.does_not_fit

-- there is none among steps that fit
pub unfit_among : (steps : List Step) (step : Step) → IsFirstUnfit steps step → All StepFits steps → ⊥
unfit_among steps step h fit = h.does_not_fit (front_has StepFits h.before h.following step (subst (All StepFits) h.is_there fit))

-- steps all fit, or one is the first that does not
pub all_steps_fit-single : (steps : List Step) → IsSingle (all_steps_fit steps)
all_steps_fit-single steps (Ok _) (Ok _) h g = refl
all_steps_fit-single steps (Ok _) (Err step) h g = absurd (unfit_among steps step g h)
all_steps_fit-single steps (Err step) (Ok _) h g = absurd (unfit_among steps step h g)
all_steps_fit-single steps (Err one) (Err other) h g = ap Err (unfit_once steps one other h g)

-- the first thing and its step are one
pub same_stop : {X : Type 0} (steps : X → List Step) (xs : List X) (x y : X) (one other : Step) → IsFirstUnfitOf steps xs x one → IsFirstUnfitOf steps xs y other → (x ≡ y) × (one ≡ other)
same_stop steps xs x y one other h g = (same, unfit_once (steps x) one other h.first_unfit (subst (λ z. IsFirstUnfit (steps z) other) (sym same) g.first_unfit))
  where
    same : x ≡ y
    same =
        front_one (StepsFit steps) h.before g.before h.after g.after x y (sym h.is_there ∙ g.is_there) h.earlier_fit g.earlier_fit
        (unfit_among (steps x) one h.first_unfit) (unfit_among (steps y) other g.first_unfit)

-- there is none where the steps of all fit
pub no_stop : {X : Type 0} (steps : X → List Step) (xs : List X) (x : X) (one : Step) → IsFirstUnfitOf steps xs x one → All (StepsFit steps) xs → ⊥
no_stop steps xs x one h fit =
    unfit_among (steps x) one h.first_unfit (front_has (StepsFit steps) h.before h.after x (subst (All (StepsFit steps)) h.is_there fit))

pub all_fit-single : {X : Type 0} (steps : X → List Step) (xs : List X) → IsSingle (all_fit steps xs)
all_fit-single steps xs (Ok _) (Ok _) h g = refl
all_fit-single steps xs (Ok _) (Err stop) h g = absurd (no_stop steps xs stop.0 stop.1 g h)
all_fit-single steps xs (Err stop) (Ok _) h g = absurd (no_stop steps xs stop.0 stop.1 h g)
all_fit-single steps xs (Err (x, one)) (Err (y, other)) h g =
    (let s = same_stop steps xs x y one other h g in ap₂ (λ a b. Err (a, b)) s.0 s.1)

-- ---- one thing after another
module _ {X : Type 0} (steps : X → List Step) (xs : List X) (k : ℕ) (x : X) (l : k < length xs) (is : x ≡ get_or xs k x) where
  taken : take (suc k) xs ≡ take k xs ++ x ∷ []
  taken = take-suc xs k x l ∙ ap (λ y. take k xs ++ y ∷ []) (sym is)

  -- the first k and then this one
  pub split_here : xs ≡ take k xs ++ x ∷ drop (suc k) xs
  split_here = sym (take-append-drop (suc k) xs) ∙ ap (λ t. t ++ drop (suc k) xs) taken ∙ append_assoc (take k xs) (x ∷ []) (drop (suc k) xs)

  pub fits_next : All (StepsFit steps) (take k xs) → StepsFit steps x → All (StepsFit steps) (take (k + 1) xs)
  fits_next h f =
      subst (λ n. All (StepsFit steps) (take n xs)) (sym (add-one k)) (subst (All (StepsFit steps)) (sym taken) (All-append (StepsFit steps) (take k xs) (x ∷ []) h (All-cons (StepsFit steps) x [] f (All-nil (StepsFit steps)))))

  pub first_unfit_here : (step : Step) → All (StepsFit steps) (take k xs) → IsFirstUnfit (steps x) step → IsFirstUnfitOf steps xs x step
  first_unfit_here step h f = record { before = take k xs; after = drop (suc k) xs; is_there = split_here; earlier_fit = h; first_unfit = f }

  -- and what is made of each
  pub made_next : {Y : Type 0} (f : X → Y) (made new : List Y) (y : Y) → made ≡ map f (take k xs) → y ≡ f x → new ≡ made ++ y ∷ [] → new ≡ map f (take (k + 1) xs)
  made_next f made new y e g n =
      n ∙ ap₂ (λ a b. a ++ b ∷ []) e g ∙ sym (map-append f (take k xs) (x ∷ [])) ∙ ap (map f) (sym taken) ∙ ap (λ n. map f (take n xs)) (sym (add-one k))

-- ---- there is an answer
-- steps all fit, or there is the first that does not
pub all_steps_fit-answered : (steps : List Step) → IsAnswered (all_steps_fit steps)
all_steps_fit-answered steps none =
    all_or_first StepFits steps (λ found. elim found [
      | inl fit ↦ none (Ok tt) fit
      | inr first ↦ none (Err first.1) (record { before = first.0; following = first.2; is_there = first.3; earlier_fit = first.4; does_not_fit = first.5 })
    ])

-- the steps of all things fit, or there is the first with one that does not
pub all_fit-answered : {X : Type 0} (steps : X → List Step) (xs : List X) → IsAnswered (all_fit steps xs)
all_fit-answered {X} steps xs none =
    all_or_first (StepsFit steps) xs (λ found. elim found [
      | inl fit ↦ none (Ok tt) fit
      | inr first ↦ all_steps_fit-answered (steps first.1) (by first.1 first.0 first.2 first.3 first.4 first.5)
    ])
  where
    by : (x : X) (before after : List X) → xs ≡ before ++ x ∷ after → All (StepsFit steps) before → ¬ (StepsFit steps x) → (answer : Result (Unit {0}) Step) → ¬ (all_steps_fit (steps x) answer)
    by x before after at earlier fails (Ok _) fit = fails fit
    by x before after at earlier fails (Err step) first = none (Err (x, step)) (record { before = before; after = after; is_there = at; earlier_fit = earlier; first_unfit = first })
