-- What cannot be denied: facts on finitely many numbers and elements, each of which holds or not.
use Rattle.std.proofs.Common.{ℕ, zero, suc, ◌+◌, ◌<◌, ◌≡◌, ◌⊎◌, ◌↔◌, inl, inr, refl, ap, subst, arith, Bool, true, false, List, [], ◌∷◌, ◌++◌, length, get_or, All, IsTrue}
use Rattle.std.proofs.lemmas.Bool.{cases_lt, false≢true}
use Rattle.std.proofs.lemmas.List.Elements.{All-nil, All-cons}
use Rattle.lists.specs.Listed.{AreListed}
use Rattle.lists.proofs.ListedLemmas.{IsPassingBelow, listed_below-push, listed_below-skip}

-- a fact holds or not
pub holds_or_not : {A : Type 0} → ¬ ¬ (A ⊎ ¬ A)
holds_or_not none = none (inr (λ a. none (inl a)))

-- what holds of the numbers below n and of n holds below n + 1
one_more : (P : ℕ → Type 0) (n : ℕ) → ((k : ℕ) → k < n → P k) → P n → (k : ℕ) → k < suc n → P k
one_more P n all last k below = elim (cases_lt k n) [ inl before ↦ all k before | inr after ↦ (let same : n ≡ k = omega arith in subst P same last) ]

-- what cannot be denied of each number below a bound cannot be denied of all
pub each_below : (P : ℕ → Type 0) (n : ℕ) → ((k : ℕ) → k < n → ¬ ¬ (P k)) → ¬ ¬ ((k : ℕ) → k < n → P k)
each_below P zero each none = none (λ k below. absurd (omega (arith, below)))
each_below P (suc n) each none =
    each_below P n (λ k below. each k (omega (arith, below))) (λ all. each n (omega arith) (λ last. none (one_more P n all last)))

-- a property holds of each number below a bound, or there is the first of which it does not
pub all_or_first_below : (P : ℕ → Type 0) (n : ℕ) → ¬ ¬ (((k : ℕ) → k < n → P k) ⊎ ((k : ℕ) × (k < n) × (¬ (P k)) × ((j : ℕ) → j < k → P j)))
all_or_first_below P zero none = none (inl (λ k below. absurd (omega (arith, below))))
all_or_first_below P (suc n) none =
    all_or_first_below P n (λ before. elim before [
      | inl all ↦ holds_or_not {A = P n} (λ next. elim next [
        | inl last ↦ none (inl (one_more P n all last))
        | inr fails ↦ none (inr (n, omega arith, fails, all))
      ])
      | inr first ↦ none (inr (first.0, omega (arith, first.1), first.2, first.3))
    ])

-- a property holds of all elements, or there is the first of which it does not
pub all_or_first : {X : Type 0} (P : X → Type 0) (xs : List X) → ¬ ¬ (All P xs ⊎ ((before : List X) × (x : X) × (after : List X) × (xs ≡ before ++ x ∷ after) × All P before × ¬ (P x)))
all_or_first P [] none = none (inl (All-nil P))
all_or_first P (x ∷ xs) none =
    holds_or_not {A = P x} (λ first. elim first [
      | inl here ↦ all_or_first P xs (λ rest. elim rest [
        | inl all ↦ none (inl (All-cons P x xs here all))
        | inr found ↦ none (inr (x ∷ found.0, found.1, found.2, ap (λ ys. x ∷ ys) found.3, All-cons P x found.0 here found.4, found.5))
      ])
      | inr fails ↦ none (inr ([], x, xs, refl, All-nil P, fails))
    ])

-- the numbers below a bound that pass have a list
pub listed_below : (P : ℕ → Type 0) (n : ℕ) → ¬ ¬ ((xs : List ℕ) × AreListed (IsPassingBelow P n) xs)
listed_below P zero none = none (
  [],
  record {
    ascending = λ k l. absurd (omega (arith, l));
    sound = λ k c. absurd (omega (arith, c.1));
    complete = λ k q. absurd (omega (arith, q.0));
  },
)
listed_below P (suc n) none =
    let next : n + 1 ≡ suc n = omega arith in
    listed_below P n (λ before. holds_or_not {A = P n} (λ last. none (subst (λ m. (xs : List ℕ) × AreListed (IsPassingBelow P m) xs) next (elim last [
      | inl passes ↦ (before.0 ++ n ∷ [], listed_below-push P n before.0 before.1 passes)
      | inr fails ↦ (before.0, listed_below-skip P n before.0 before.1 fails)
    ]))))

-- flags tell which of the numbers below a bound pass
abbrev pub AreFlags : (ℕ → Type 0) → ℕ → List Bool → Type 0
AreFlags P n flags = (length flags ≡ n) × ((k : ℕ) → k < n → IsTrue (get_or flags k false) ↔ P k)

-- there are such flags
pub flags_below : (P : ℕ → Type 0) (n : ℕ) → ¬ ¬ ((flags : List Bool) × AreFlags P n flags)
flags_below P zero none = none ([], (refl, λ k below. absurd (omega (arith, below))))
flags_below P (suc n) none =
    flags_below (λ k. P (suc k)) n (λ rest. holds_or_not {A = P 0} (λ first. elim first [
      | inl passes ↦ none (true ∷ rest.0, (ap suc rest.1.0, front true rest.0 rest.1.1 (λ _. passes) (λ _. refl)))
      | inr fails ↦ none (false ∷ rest.0, (ap suc rest.1.0, front false rest.0 rest.1.1 (λ h. absurd (false≢true h)) (λ h. absurd (fails h))))
    ]))
  where
    front : (flag : Bool) (flags : List Bool) → ((k : ℕ) → k < n → IsTrue (get_or flags k false) ↔ P (suc k)) → (IsTrue flag → P 0) → (P 0 → IsTrue flag) → (k : ℕ) → k < suc n → IsTrue (get_or (flag ∷ flags) k false) ↔ P k
    front flag flags tells to from zero below = (to, from)
    front flag flags tells to from (suc k) below = tells k (omega (arith, below))
