-- Lists of the numbers that pass, and indices in a list
use Rattle.std.proofs.Common.{ℕ, zero, suc, ◌+◌, ◌<◌, ◌≡◌, ◌⊎◌, inl, inr, refl, ap, subst, arith, List, [], ◌∷◌, ◌++◌, Option, Some, None}
use Rattle.std.specs.List.{Contains}
use Rattle.std.specs.List.Sorted.{IsStrictlyIncreasing}
use Rattle.std.proofs.lemmas.Bool.{cases_eq, cases_lt}
use Rattle.std.proofs.lemmas.List.Elements.{Contains-get_or, Contains-append_left, Contains-push, Contains-push_cases}
use Rattle.std.proofs.lemmas.List.Kept.{AllPairs-from_increasing}
use Rattle.lists.specs.Listed.{AreListed, IsIndexOf}
use Rattle.lists.proofs.AscendingNumberLemmas.{increasing_push, increasing_same}
use Rattle.lists.proofs.ElementLemmas.{index_of}

-- there is one list
pub listed-once : (P : ℕ → Type 0) (xs ys : List ℕ) → AreListed P xs → AreListed P ys → xs ≡ ys
listed-once P xs ys one two =
    increasing_same xs ys one.ascending two.ascending (λ k c. two.complete k (one.sound k c)) (λ k c. one.complete k (two.sound k c))

-- ---- more that pass
module _ (P Q : ℕ → Type 0) (xs : List ℕ) (h : AreListed P xs) (more : (k : ℕ) → P k → Q k) where
  -- the same numbers pass
  pub listed-same : ((k : ℕ) → Q k → P k) → AreListed Q xs
  listed-same back = record { ascending = h.ascending; sound = λ k c. more k (h.sound k c); complete = λ k q. h.complete k (back k q) }

  -- one more does, after them
  pub listed-push : (x : ℕ) → ((k : ℕ) → P k → k < x) → Q x → ((k : ℕ) → Q k → P k ⊎ (x ≡ k)) → AreListed Q (xs ++ x ∷ [])
  listed-push x after here back = record {
    ascending = increasing_push xs x h.ascending (λ k c. after k (h.sound k c));
    sound = λ k c. elim (Contains-push_cases xs x k c) [ inl before ↦ more k (h.sound k before) | inr last ↦ subst Q last here ];
    complete = λ k q. elim (back k q) [ inl before ↦ Contains-append_left xs (x ∷ []) k (h.complete k before) | inr last ↦ subst (Contains (xs ++ x ∷ [])) last (Contains-push xs x) ];
  }

-- ---- numbers below a bound
-- the numbers below n that pass
abbrev pub IsPassingBelow : (ℕ → Type 0) → ℕ → ℕ → Type 0
IsPassingBelow P n k = (k < n) × P k

module _ (P : ℕ → Type 0) (n : ℕ) (xs : List ℕ) (h : AreListed (IsPassingBelow P n) xs) where
  -- the next number passes
  pub listed_below-push : P n → AreListed (IsPassingBelow P (n + 1)) (xs ++ n ∷ [])
  listed_below-push passes =
      listed-push (IsPassingBelow P n) (IsPassingBelow P (n + 1)) xs h (λ k q. (omega (arith, q.0), q.1)) n (λ k q. q.0) (omega arith, passes)
      (λ k q. elim (cases_eq n k) [ inl same ↦ inr same | inr apart ↦ inl (omega (arith, q.0, apart), q.1) ])

  -- the next number does not
  pub listed_below-skip : (P n → ⊥) → AreListed (IsPassingBelow P (n + 1)) xs
  listed_below-skip fails =
      listed-same (IsPassingBelow P n) (IsPassingBelow P (n + 1)) xs h (λ k q. (omega (arith, q.0), q.1))
      (λ k q. elim (cases_eq k n) [ inl same ↦ absurd (fails (subst P same q.1)) | inr apart ↦ (omega (arith, q.0, apart), q.1) ])

-- there is a list, where it is decided which numbers pass
pub some_listed : (P : ℕ → Type 0) → ((k : ℕ) → P k ⊎ (P k → ⊥)) → (n : ℕ) → (xs : List ℕ) × AreListed (IsPassingBelow P n) xs
some_listed P decide zero = ([], record { ascending = λ k l. absurd (omega (arith, l)); sound = λ k c. absurd (omega (arith, c.1)); complete = λ k q. absurd (omega (arith, q.0)) })
some_listed P decide (suc n) =
    let before = some_listed P decide n in
    let next : n + 1 ≡ suc n = omega arith in
    subst (λ m. (xs : List ℕ) × AreListed (IsPassingBelow P m) xs) next (elim (decide n) [
      | inl passes ↦ (before.0 ++ n ∷ [], listed_below-push P n before.0 before.1 passes)
      | inr fails ↦ (before.0, listed_below-skip P n before.0 before.1 fails)
    ])

-- ---- indices
-- a number without an index does not stand in the list
pub index-none : (numbers : List ℕ) (k : ℕ) → IsIndexOf numbers k None → ¬ Contains numbers k
index-none numbers k none there = let at = index_of numbers k there in none at.0 at.1 at.2

-- a number that does not stand in the list has no index
pub none-index : (numbers : List ℕ) (k : ℕ) → ¬ Contains numbers k → IsIndexOf numbers k None
none-index numbers k absent j below is = absent (subst (Contains numbers) is (Contains-get_or numbers j 0 below))

-- an ascending list has one index of a number
pub index-once : (numbers : List ℕ) (k : ℕ) (a b : Option ℕ) → IsStrictlyIncreasing numbers → IsIndexOf numbers k a → IsIndexOf numbers k b → a ≡ b
index-once numbers k None None rises one two = refl
index-once numbers k None (Some j) rises one two = absurd (one j two.0 two.1)
index-once numbers k (Some i) None rises one two = absurd (two i one.0 one.1)
index-once numbers k (Some i) (Some j) rises one two = ap Some (elim (cases_lt i j) [
  | inl less ↦ absurd (omega (arith, one.1, two.1, AllPairs-from_increasing numbers rises i j 0 less two.0))
  | inr more ↦ elim (cases_eq i j) [ inl is ↦ is | inr other ↦ absurd (omega (arith, one.1, two.1, AllPairs-from_increasing numbers rises j i 0 (omega (arith, more, other)) one.0)) ]
])
