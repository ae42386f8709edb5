-- What uses say, first and later.
use Rattle.std.proofs.Common.{◌≡◌, Bool, true, false, List, [], ◌∷◌, ◌++◌, Option, Some, None, Decides, All, true≢false, if◌then◌else◌, refl, sym}
use Rattle.std.proofs.lemmas.List.Elements.{All-pop}
use Rattle.std.specs.Option.{option_or}
use Rattle.written_trees.specs.Described.{first_some}

-- what one more use says first
pub first_some-push : {A : Type 0} (said : List (Option A)) (x : Option A) → first_some (said ++ x ∷ []) ≡ option_or (first_some said) x
first_some-push [] None = refl
first_some-push [] (Some y) = refl
first_some-push (None ∷ said) x = first_some-push said x
first_some-push (Some y ∷ said) x = refl

-- a list and its last element
pub All-front : {X : Type 0} (P : X → Type 0) (xs : List X) (x : X) → All P (xs ++ x ∷ []) → All P xs × P x
All-front P xs x h = All-pop P (xs ++ x ∷ []) xs (Some x) refl h

-- an answer that a test gives
pub tested_so : {A P : Type 0} (b : Bool) (x answer : A) → Decides b P → (if b then Some x else None) ≡ Some answer → P × (answer ≡ x)
tested_so true x answer d h = (d.0 refl, cc)
tested_so false x answer d h = absurd (cc)

-- and the test gives it
pub tested_if : {A P : Type 0} (b : Bool) (x : A) → Decides b P → P → (if b then Some x else None) ≡ Some x
tested_if true x d h = refl
tested_if false x d h = absurd (true≢false (sym (d.1 h)))
