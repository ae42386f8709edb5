-- Entries whose tests are all passed are those of a valid mixed profile.
use Rattle.std.proofs.Common.{ℕ, zero, suc, ◌+◌, ◌<◌, ◌≤◌, ◌≡◌, inl, inr, List, [], ◌∷◌, ◌++◌, All, length, take, drop, Ok, refl, sym, ap, ap₂, ◌∙◌, subst, arith, length-append, length-drop, get_or-drop, append_assoc, eq-or-lt_of_le, le_of_suc-le-suc}
use Rattle.std.specs.Prelude.{sum}
use Rattle.std.proofs.lemmas.List.{get_or-append-add, get_or_append_left, take-append-drop}
use Rattle.std.proofs.lemmas.List.Elements.{All-nil, All-cons, All-append, All-head, All-tail}
use Rattle.lists.proofs.ElementLemmas.{All-left, All-right, made-next}
use Rattle.rational.specs.Rational.{ℚ, ◌≤ℚ◌, zero_ℚ}
use Rattle.rational.specs.Sum.{entry_at, IsDistribution}
use Rattle.rational.proofs.SumLemmas.{sum_to-same}
use Rattle.game_theory.specs.Lines.{listed, entries}
use Rattle.game_theory.specs.Mixed.{Mixed, IsValid, later}
use Rattle.game_theory.proofs.ProfileLineLemmas.{entries-same, length-entries, length-listed, get_or-listed}
use Rattle.behaviour_profile.specs.EntryTests.{mixed_of, SumsToOne, TestHolds, entry_tests, group_tests, tests_from, profile_in}
use Rattle.behaviour_profile.specs.EntryLaws.{AdditionFits, TestedEntriesAreProfiles}
use Rattle.behaviour_profile.proofs.GroupListLemmas.{sum-cons, sum-nil}
use Rattle.behaviour_profile.proofs.ProfileAnswerLemmas.{entries_pass, passed_count, passed_tests}
use Rattle.behaviour_profile.proofs.GroupTestLemmas.{addition_at, sign_at, tests_below, sum_below}

-- ---- a group
module _ (list : List ℚ) (place : ℕ) where
  abbrev at : ℕ → ℚ
  at k = entry_at list (place + k)

  below-positive : (n : ℕ) → All TestHolds (tests_below list place n) → (k : ℕ) → k < n → zero_ℚ ≤ℚ at k
  below-positive zero h k l = absurd (omega (arith, l))
  below-positive (suc n) h k l = elim (eq-or-lt_of_le (le_of_suc-le-suc l)) [
    | inl e ↦ subst (λ j. zero_ℚ ≤ℚ at j) (sym e) (All-head TestHolds (sign_at list place n) (addition_at list place n ∷ []) last)
    | inr b ↦ below-positive n (All-left TestHolds (tests_below list place n) (entry_tests list place n) all) k b
  ]
    where
      all : All TestHolds (tests_below list place n ++ entry_tests list place n)
      all = subst (All TestHolds) (made-next (entry_tests list place) n) h

      last : All TestHolds (entry_tests list place n)
      last = All-right TestHolds (tests_below list place n) (entry_tests list place n) all

  -- a group that passes is a lottery
  lottery : (group n : ℕ) → All TestHolds (group_tests list place group n) → IsDistribution n at
  lottery group n h =
      record {
        not_negative = below-positive n (All-left TestHolds (tests_below list place n) (SumsToOne group (sum_below list place n) ∷ []) h);
        sum_is_one = All-head TestHolds (SumsToOne group (sum_below list place n)) [] (All-right TestHolds (tests_below list place n) (SumsToOne group (sum_below list place n) ∷ []) h);
      }

  below-passes : (n : ℕ) → ((k : ℕ) → k < n → zero_ℚ ≤ℚ at k) → All AdditionFits (tests_below list place n) → All TestHolds (tests_below list place n)
  below-passes zero positive fit = All-nil TestHolds
  below-passes (suc n) positive fit =
      subst (All TestHolds) (sym (made-next (entry_tests list place) n))
      (All-append TestHolds (tests_below list place n) (entry_tests list place n)
      (below-passes n (λ k l. positive k (omega (arith, l))) (All-left AdditionFits (tests_below list place n) (entry_tests list place n) all))
      (All-cons TestHolds (sign_at list place n) (addition_at list place n ∷ []) (positive n (omega arith))
      (All-cons TestHolds (addition_at list place n) [] (All-head AdditionFits (addition_at list place n) [] (All-tail AdditionFits (sign_at list place n) (addition_at list place n ∷ []) last)) (All-nil TestHolds))))
    where
      all : All AdditionFits (tests_below list place n ++ entry_tests list place n)
      all = subst (All AdditionFits) (made-next (entry_tests list place) n) fit

      last : All AdditionFits (entry_tests list place n)
      last = All-right AdditionFits (tests_below list place n) (entry_tests list place n) all

  -- and a lottery that can be added passes
  lottery-passes : (group n : ℕ) → IsDistribution n at → All AdditionFits (group_tests list place group n) → All TestHolds (group_tests list place group n)
  lottery-passes group n h fit =
      All-append TestHolds (tests_below list place n) (SumsToOne group (sum_below list place n) ∷ [])
      (below-passes n h.not_negative (All-left AdditionFits (tests_below list place n) (SumsToOne group (sum_below list place n) ∷ []) fit))
      (All-cons TestHolds (SumsToOne group (sum_below list place n)) [] h.sum_is_one (All-nil TestHolds))

lottery-same : (n : ℕ) (f g : ℕ → ℚ) → ((k : ℕ) → k < n → f k ≡ g k) → IsDistribution n f → IsDistribution n g
lottery-same n f g same h =
    record { not_negative = λ k l. subst (λ q. zero_ℚ ≤ℚ q) (same k l) (h.not_negative k l); sum_is_one = sym (sum_to-same n f g same) ∙ h.sum_is_one }

-- ---- groups one after another
-- the first group after some entries
first_group : (before following : List ℚ) (n : ℕ) (f : ℕ → ℚ) (k : ℕ) → k < n → entry_at (before ++ (listed n f ++ following)) (length before + k) ≡ f k
first_group before following n f k l =
    get_or-append-add before (listed n f ++ following) k zero_ℚ ∙ get_or_append_left (listed n f) following zero_ℚ k (omega (arith, l, length-listed n f)) ∙ get_or-listed n f k zero_ℚ l

module _ (n : ℕ) (sizes : List ℕ) (m : Mixed) where
  pub valid-first : IsValid (n ∷ sizes) m → IsDistribution n (m 0)
  valid-first v = v 0 (omega arith)

  pub valid-later : IsValid (n ∷ sizes) m → IsValid sizes (later m)
  valid-later v i l = v (suc i) (omega (arith, l))

  pub valid-both : IsDistribution n (m 0) → IsValid sizes (later m) → IsValid (n ∷ sizes) m
  valid-both h v zero l = h
  valid-both h v (suc i) l = v i (omega (arith, l))

moved : (before following : List ℚ) (n : ℕ) (f : ℕ → ℚ) → before ++ (listed n f ++ following) ≡ (before ++ listed n f) ++ following
moved before following n f = sym (append_assoc before (listed n f) following)

place-moved : (before : List ℚ) (n : ℕ) (f : ℕ → ℚ) → length before + n ≡ length (before ++ listed n f)
place-moved before n f = omega (arith, length-append before (listed n f), length-listed n f)

tests-moved : (before following : List ℚ) (n group : ℕ) (f : ℕ → ℚ) (sizes : List ℕ)
    → tests_from (before ++ (listed n f ++ following)) (length before + n) group sizes ≡ tests_from ((before ++ listed n f) ++ following) (length (before ++ listed n f)) group sizes
tests-moved before following n group f sizes = ap₂ (λ l p. tests_from l p group sizes) (moved before following n f) (place-moved before n f)

passed-valid : (sizes : List ℕ) (before : List ℚ) (group : ℕ) (m : Mixed) → All TestHolds (tests_from (before ++ entries sizes m) (length before) group sizes) → IsValid sizes m
passed-valid [] before group m h = λ i l. absurd (omega (arith, l))
passed-valid (n ∷ sizes) before group m h =
    (let list : List ℚ = before ++ (listed n (m 0) ++ entries sizes (later m)) in
    let head = All-left TestHolds (group_tests list (length before) group n) (tests_from list (length before + n) (suc group) sizes) h in
    let rest = All-right TestHolds (group_tests list (length before) group n) (tests_from list (length before + n) (suc group) sizes) h in
    valid-both n sizes m
    (lottery-same n (at list (length before)) (m 0) (first_group before (entries sizes (later m)) n (m 0)) (lottery list (length before) group n head))
    (passed-valid sizes (before ++ listed n (m 0)) (suc group) (later m) (subst (All TestHolds) (tests-moved before (entries sizes (later m)) n (suc group) (m 0) sizes) rest)))

valid-passed : (sizes : List ℕ) (before : List ℚ) (group : ℕ) (m : Mixed) → IsValid sizes m → All AdditionFits (tests_from (before ++ entries sizes m) (length before) group sizes)
    → All TestHolds (tests_from (before ++ entries sizes m) (length before) group sizes)
valid-passed [] before group m v h = All-nil TestHolds
valid-passed (n ∷ sizes) before group m v h =
    (let list : List ℚ = before ++ (listed n (m 0) ++ entries sizes (later m)) in
    let head = All-left AdditionFits (group_tests list (length before) group n) (tests_from list (length before + n) (suc group) sizes) h in
    let rest = All-right AdditionFits (group_tests list (length before) group n) (tests_from list (length before + n) (suc group) sizes) h in
    let moved_tests = tests-moved before (entries sizes (later m)) n (suc group) (m 0) sizes in
    All-append TestHolds (group_tests list (length before) group n) (tests_from list (length before + n) (suc group) sizes)
    (lottery-passes list (length before) group n (lottery-same n (m 0) (at list (length before)) (λ k l. sym (first_group before (entries sizes (later m)) n (m 0) k l)) (valid-first n sizes m v)) head)
    (subst (All TestHolds) (sym moved_tests) (valid-passed sizes (before ++ listed n (m 0)) (suc group) (later m) (valid-later n sizes m v) (subst (All AdditionFits) moved_tests rest))))

-- ---- the profile of entries
abbrev profile_of : List ℕ → List ℚ → Mixed
profile_of [] list i s = zero_ℚ
profile_of (n ∷ sizes) list zero s = entry_at list s
profile_of (n ∷ sizes) list (suc i) s = profile_of sizes (drop n list) i s

-- the first entries of a list
pub listed-front : (n : ℕ) (list : List ℚ) → n ≤ length list → listed n (entry_at list) ≡ take n list
listed-front zero list l = refl
listed-front (suc n) [] l = absurd (omega (arith, l))
listed-front (suc n) (x ∷ list) l = ap (λ v. x ∷ v) (listed-front n list (omega (arith, l)))

entries-profile_of : (sizes : List ℕ) (list : List ℚ) → length list ≡ sum sizes → entries sizes (profile_of sizes list) ≡ list
entries-profile_of [] [] e = refl
entries-profile_of [] (x ∷ list) e = absurd (omega (arith, e, sum-nil))
entries-profile_of (n ∷ sizes) list e =
    (let all = sum-cons n sizes in
    let few : n ≤ length list = omega (arith, e, all) in
    let rest : length (drop n list) ≡ sum sizes = omega (arith, e, all, length-drop n list) in
    ap₂ (λ v w. v ++ w) (listed-front n list few) (entries-profile_of sizes (drop n list) rest) ∙ take-append-drop n list)

-- each entry stands after those of the players before
profile_of-at : (sizes : List ℕ) (list : List ℚ) (i s : ℕ) → i < length sizes → profile_of sizes list i s ≡ mixed_of sizes list i s
profile_of-at [] list i s l = absurd (omega (arith, l))
profile_of-at (n ∷ sizes) list zero s l = ap (entry_at list) (omega (arith, sum-nil))
profile_of-at (n ∷ sizes) list (suc i) s l =
    profile_of-at sizes (drop n list) i s (omega (arith, l)) ∙ get_or-drop n list (sum (take i sizes) + s) zero_ℚ
    ∙ ap (entry_at list) (omega (arith, sum-cons n (take i sizes)))

pub entries-mixed_of : (sizes : List ℕ) (list : List ℚ) → length list ≡ sum sizes → entries sizes (mixed_of sizes list) ≡ list
entries-mixed_of sizes list e =
    entries-same sizes (mixed_of sizes list) (profile_of sizes list) (λ i s l _. sym (profile_of-at sizes list i s l)) ∙ entries-profile_of sizes list e

pub tested_entries : TestedEntriesAreProfiles
tested_entries = record { sound = sound; complete = complete }
  where
    sound : (sizes : List ℕ) (list : List ℚ) → profile_in sizes list (Ok list) → (m : Mixed) × (list ≡ entries sizes m) × IsValid sizes m
    sound sizes list h =
        (let e = entries-profile_of sizes list (passed_count sizes list list h) in
        (profile_of sizes list, sym e, passed-valid sizes [] 0 (profile_of sizes list) (subst (λ l. All TestHolds (tests_from l 0 0 sizes)) (sym e) (passed_tests sizes list list h))))

    complete : (sizes : List ℕ) (m : Mixed) → IsValid sizes m → All AdditionFits (tests_from (entries sizes m) 0 0 sizes) → profile_in sizes (entries sizes m) (Ok (entries sizes m))
    complete sizes m v fit = entries_pass sizes (entries sizes m) (length-entries sizes m) (valid-passed sizes [] 0 m v fit)
