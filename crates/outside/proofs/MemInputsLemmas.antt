-- Look-ups by name, and reads from the front.
use Rattle.std.proofs.Common.{◌≡◌, ◌<◌, ◌≤◌, ◌+◌, ◌↔◌, ◌∙◌, sym, ap, refl, ℕ, Bool, true, false, List, [], ◌∷◌, ◌++◌, Some, length, map, take, drop, min, eqb, get_or, arith, add-one, suc, IsTrue, Contains}
use Rattle.std.specs.List.{IsAnyAnswer}
use Rattle.std.specs.Str.{bytes_eq}
use Rattle.std.proofs.Math.Seq.{drop-cons}
use Rattle.std.proofs.lemmas.Bool.{false≢true}
use Rattle.std.proofs.lemmas.Bool.Decides.{Decides-eqb}
use Rattle.std.proofs.lemmas.List.{take-append-drop, take-append-le, length-take-le, length-take, length-drop, length-append, drop_all, take-take}
use Rattle.std.proofs.lemmas.List.Elements.{contains_decides, Decides-contains}
use Rattle.outside.specs.MemInputs.{first_named}

-- what `contains` answers at numbers
contains_iff : (xs : List ℕ) (x : ℕ) (r : Bool) → IsAnyAnswer (λ y t. eqb y x ≡ t) xs r → IsTrue r ↔ Contains xs x
contains_iff xs x true answer = let d = Decides-contains xs x true (contains_decides eqb Decides-eqb xs x true answer) in (λ _. d.0 refl, λ _. refl)
contains_iff xs x false answer = let d = Decides-contains xs x false (contains_decides eqb Decides-eqb xs x false answer) in (λ h. absurd (false≢true h), λ h. absurd (false≢true (d.1 h)))

-- the same of an equal list and number
pub contains_iff_at : (xs ys : List ℕ) (x y : ℕ) (r : Bool) → xs ≡ ys → x ≡ y → IsAnyAnswer (λ z t. eqb z x ≡ t) xs r → IsTrue r ↔ Contains ys y
contains_iff_at xs ys x y r lists numbers answer = rw (← lists, ← numbers) (contains_iff xs x r answer)

-- a list from a place on, by the element there
from_place : {X : Type 0} (xs : List X) (i : ℕ) (x : X) → i < length xs → x ≡ get_or xs i x → drop i xs ≡ x ∷ drop (i + 1) xs
from_place xs i x below here = drop-cons xs i x below ∙ ap (λ y. y ∷ drop (suc i) xs) (sym here) ∙ ap (λ k. x ∷ drop k xs) (sym (add-one i))

-- a pair with another name is passed by
pub first_named-other : {X : Type 0} (f : X → List ℕ × List ℕ) (xs : List X) (i : ℕ) (x : X) (name : List ℕ) → i < length xs → x ≡ get_or xs i x → bytes_eq (f x).0 name ≡ false → first_named (map f (drop i xs)) name ≡ first_named (map f (drop (i + 1) xs)) name
first_named-other f xs i x name below here other = rw (from_place xs i x below here) (rw other refl)

-- a pair with the name is the first one
pub first_named-found : {X : Type 0} (f : X → List ℕ × List ℕ) (xs : List X) (i : ℕ) (x : X) (name : List ℕ) → i < length xs → x ≡ get_or xs i x → bytes_eq (f x).0 name ≡ true → first_named (map f (drop i xs)) name ≡ Some (f x).1
first_named-found f xs i x name below here same = rw (from_place xs i x below here) (rw same refl)

-- a read that fills the front of a buffer consumes what it gives, and gives nothing only with no room or at the end
pub read_front : (left old new after : List ℕ) (n : ℕ) → n ≡ min (length left) (length old) → new ≡ take n left ++ drop n old → after ≡ drop n left → (left ≡ take n new ++ after) × (n ≡ 0 → 0 < length new → after ≡ [])
read_front left old new after n count filled rest =
    let short : n ≤ length left = omega arith in
    let front : take n new ≡ take n left = rw filled (take-append-le n (take n left) (drop n old) (rw length-take-le (omega arith)) ∙ take-take n n left (omega arith)) in
    let room : length new ≡ length old = rw filled (simp (length-append, length-take, length-drop) (omega arith)) in
    (rw (front, rest) (sym (take-append-drop n left)), λ none some. rest ∙ drop_all n left (omega arith))
