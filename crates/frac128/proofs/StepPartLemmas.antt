-- Steps that come in parts, one after another.
use Rattle.std.proofs.Common.{ℕ, zero, suc, ◌+◌, ◌<◌, ◌≤◌, ◌≡◌, inl, inr, List, [], ◌++◌, All, Result, Ok, Err, MatchResult, length, sym, ap, ap₂, ◌∙◌, subst, append_assoc, length-append, add-one, zero-add, arith, eq-or-lt_of_le, le_of_suc-le-suc}
use Rattle.std.specs.List.{range_with_len, flat_map}
use Rattle.std.proofs.lemmas.List.{append-nil, get_or-append-add, get_or_append_left}
use Rattle.std.proofs.lemmas.List.Elements.{All-append}
use Rattle.lists.proofs.ElementLemmas.{made-more}
use Rattle.rational.specs.Rational.{ℚ}
use Rattle.frac128.specs.Steps.{Step, StepFits, IsFirstUnfit, StepsGive}
use Rattle.frac128.proofs.StepRunLemmas.{first_unfit-more, first_unfit-following}

-- ---- the parts of numbers
module _ (f : ℕ → List Step) where
  -- the steps of n numbers, from a on
  abbrev pub steps_of : ℕ → ℕ → List Step
  steps_of a n = flat_map f (range_with_len a n)

  -- the steps of one number more
  pub steps-next : (a n : ℕ) → steps_of a (suc n) ≡ steps_of a n ++ f (a + n)
  steps-next a n = made-more f a n

  steps-joined : (a n : ℕ) → steps_of 0 (a + n) ≡ steps_of 0 a ++ steps_of a n
  steps-joined a zero = ap (steps_of 0) (omega arith) ∙ sym (append-nil (steps_of 0 a))
  steps-joined a (suc n) =
      ap (steps_of 0) (let e : a + suc n ≡ suc (a + n) = omega arith in e) ∙ steps-next 0 (a + n)
      ∙ ap₂ (λ v k. v ++ f k) (steps-joined a n) (let e : 0 + (a + n) ≡ a + n = omega arith in e)
      ∙ append_assoc (steps_of 0 a) (steps_of a n) (f (a + n)) ∙ ap (λ v. steps_of 0 a ++ v) (sym (steps-next a n))

  -- all fit
  pub part-fits : (a n : ℕ) → All StepFits (steps_of a n) → All StepFits (f (a + n)) → All StepFits (steps_of a (suc n))
  part-fits a n h g = subst (All StepFits) (sym (steps-next a n)) (All-append StepFits (steps_of a n) (f (a + n)) h g)

  pub parts-more : (n : ℕ) → All StepFits (steps_of 0 n) → All StepFits (f n) → All StepFits (steps_of 0 (n + 1))
  parts-more n h g = rw add-one (part-fits 0 n h (subst (λ k. All StepFits (f k)) (sym (zero-add n)) g))

  pub fits-joined : (a n : ℕ) → All StepFits (steps_of 0 a) → All StepFits (steps_of a n) → All StepFits (steps_of 0 (a + n))
  fits-joined a n h g = subst (All StepFits) (sym (steps-joined a n)) (All-append StepFits (steps_of 0 a) (steps_of a n) h g)

  -- the first that does not stays the first before further ones
  unfit-longer : (a m n : ℕ) (u : Step) → m ≤ n → IsFirstUnfit (steps_of a m) u → IsFirstUnfit (steps_of a n) u
  unfit-longer a m zero u l h = let e : m ≡ 0 = omega arith in subst (λ k. IsFirstUnfit (steps_of a k) u) e h
  unfit-longer a m (suc n) u l h = elim (eq-or-lt_of_le l) [
    | inl e ↦ subst (λ k. IsFirstUnfit (steps_of a k) u) e h
    | inr b ↦ subst (λ ss. IsFirstUnfit ss u) (sym (steps-next a n)) (first_unfit-more (steps_of a n) (f (a + n)) u (unfit-longer a m n u (le_of_suc-le-suc b) h))
  ]

  pub part-unfit : (a k n : ℕ) (u : Step) → k < n → All StepFits (steps_of a k) → IsFirstUnfit (f (a + k)) u → IsFirstUnfit (steps_of a n) u
  part-unfit a k n u l h g =
      unfit-longer a (suc k) n u (omega (arith, l)) (subst (λ ss. IsFirstUnfit ss u) (sym (steps-next a k)) (first_unfit-following (steps_of a k) (f (a + k)) u h g))

  pub part-refused : (k n : ℕ) (u : Step) → k < n → All StepFits (steps_of 0 k) → IsFirstUnfit (f k) u → IsFirstUnfit (steps_of 0 n) u
  part-refused k n u l h g = part-unfit 0 k n u l h (subst (λ j. IsFirstUnfit (f j) u) (sym (zero-add k)) g)

  -- and after those that fit
  pub unfit-joined : (a k n : ℕ) (u : Step) → a + k ≤ n → All StepFits (steps_of 0 a) → IsFirstUnfit (steps_of a k) u → IsFirstUnfit (steps_of 0 n) u
  unfit-joined a k n u l h g = unfit-longer 0 (a + k) n u l (subst (λ ss. IsFirstUnfit ss u) (sym (steps-joined a k)) (first_unfit-following (steps_of 0 a) (steps_of a k) u h g))

  -- numbers without steps change nothing
  pub none-more : (a n : ℕ) → ((k : ℕ) → a ≤ k → k < a + n → f k ≡ []) → steps_of 0 (a + n) ≡ steps_of 0 a
  none-more a zero h = ap (steps_of 0) (omega arith)
  none-more a (suc n) h =
      ap (steps_of 0) (let e : a + suc n ≡ suc (a + n) = omega arith in e) ∙ steps-next 0 (a + n)
      ∙ ap₂ (λ v w. v ++ w) (none-more a n (λ k l b. h k l (omega (arith, b)))) (ap f (let e : 0 + (a + n) ≡ a + n = omega arith in e) ∙ h (a + n) (omega arith) (omega arith)) ∙ append-nil (steps_of 0 a)

  -- where all fit, those of each number do
  pub fits-at : (n k : ℕ) → k < n → All StepFits (steps_of 0 n) → All StepFits (f k)
  fits-at zero k l h = absurd (omega (arith, l))
  fits-at (suc n) k l h = elim (eq-or-lt_of_le (le_of_suc-le-suc l)) [
    | inl e ↦ subst (λ j. All StepFits (f j)) (let same : 0 + n ≡ k = omega (arith, e) in same)
        (λ i d b. subst StepFits (get_or-append-add (steps_of 0 n) (f (0 + n)) i d) (all (length (steps_of 0 n) + i) d (omega (arith, b, length-append (steps_of 0 n) (f (0 + n))))))
    | inr b ↦ fits-at n k b (λ i d m. subst StepFits (get_or_append_left (steps_of 0 n) (f (0 + n)) d i m) (all i d (omega (arith, m, length-append (steps_of 0 n) (f (0 + n))))))
  ]
    where
      all : All StepFits (steps_of 0 n ++ f (0 + n))
      all = subst (All StepFits) (steps-next 0 n) h

-- ---- three parts
module _ (first second third : List Step) where
  -- the first part's first step that does not fit
  pub first-refused : (u : Step) → IsFirstUnfit first u → IsFirstUnfit (first ++ second ++ third) u
  first-refused u h = first_unfit-more (first ++ second) third u (first_unfit-more first second u h)

  module _ (fit : All StepFits first) where
    -- the second's
    pub second-refused : (u : Step) → IsFirstUnfit second u → IsFirstUnfit (first ++ second ++ third) u
    second-refused u h = first_unfit-more (first ++ second) third u (first_unfit-following first second u fit h)

    -- what is told by the third part, and with it another fact
    pub third-gives : All StepFits second → (v : ℚ) (answer : Result ℚ Step) {P : Type 0} → StepsGive third v answer → P → MatchResult answer (λ x. (x ≡ v) × All StepFits (first ++ second ++ third) × P) (IsFirstUnfit (first ++ second ++ third))
    third-gives more v (Ok x) gives p = (gives.0, All-append StepFits (first ++ second) third (All-append StepFits first second fit more) gives.1, p)
    third-gives more v (Err u) gives p = first_unfit-following (first ++ second) third u (All-append StepFits first second fit more) gives
