-- The longest front of a list whose bytes pass a test, and what comes after it.
use Rattle.std.proofs.Common.{◌≡◌, ℕ, ◌+◌, Bool, true, false, cond, List, [], ◌∷◌, ◌++◌, take, drop, refl, ap, one-add}
use Rattle.std.specs.List.{prefix_len, take_while, AllByRecursion}
use Rattle.std.proofs.lemmas.List.Sums.{prefix_len-le-length}
use Rattle.game_text.specs.NumberReading.{following}

pub ruleset prefix_lengths = (prefix_len-le-length)

-- the first byte, if there is one, fails the test
abbrev pub Stops : (ℕ → Bool) → List ℕ → Type 0
Stops p [] = Unit {0}
Stops p (b ∷ bytes) = p b ≡ false

-- each byte of the front passes
pub front-passes : (p : ℕ → Bool) (bytes : List ℕ) → AllByRecursion (λ b. p b ≡ true) (take_while p bytes)
front-passes p [] = tt
front-passes p (b ∷ bytes) =
    let E : Bool → Type 0 = λ v. p b ≡ v → AllByRecursion (λ b. p b ≡ true) (take (cond v (1 + prefix_len p bytes) 0) (b ∷ bytes)) in
    let by : (v : Bool) → E v = λ v. elim v as E [ true ↦ λ e. rw one-add (e, front-passes p bytes) | false ↦ λ _. tt ] in
    by (p b) refl

-- what comes after does not begin with a byte that passes
pub following-stops : (p : ℕ → Bool) (bytes : List ℕ) → Stops p (following p bytes)
following-stops p [] = tt
following-stops p (b ∷ bytes) =
    let E : Bool → Type 0 = λ v. p b ≡ v → Stops p (drop (cond v (1 + prefix_len p bytes) 0) (b ∷ bytes)) in
    let by : (v : Bool) → E v = λ v. elim v as E [ true ↦ λ _. rw one-add (following-stops p bytes) | false ↦ λ e. e ] in
    by (p b) refl

-- no other front is the longest
pub front-is : (p : ℕ → Bool) (front rest : List ℕ) → AllByRecursion (λ b. p b ≡ true) front → Stops p rest → take_while p (front ++ rest) ≡ front
front-is p [] [] h s = refl
front-is p [] (b ∷ rest) h s = rw s refl
front-is p (b ∷ front) rest h s = rw (h.0, one-add) (ap (λ t. b ∷ t) (front-is p front rest h.1 s))

-- nor does anything else come after it
pub following-is : (p : ℕ → Bool) (front rest : List ℕ) → AllByRecursion (λ b. p b ≡ true) front → Stops p rest → following p (front ++ rest) ≡ rest
following-is p [] [] h s = refl
following-is p [] (b ∷ rest) h s = rw s refl
following-is p (b ∷ front) rest h s = rw (h.0, one-add) (following-is p front rest h.1 s)
