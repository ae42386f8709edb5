-- Entries in groups, and what is tested of them: a group is one player's strategies, or the actions
-- of one set.
use Rattle.std.specs.Prelude.{ℕ, suc, ◌+◌, ◌≡◌, ◌≢◌, List, [], ◌∷◌, ◌++◌, length, sum, take, All, Ok, Err}
use Rattle.std.specs.List.{range_with_len, flat_map}
use Rattle.answers.specs.Answers.{Answer, ◌>>◌, only, refuse_where, refused_by}
use Rattle.rational.specs.Rational.{ℚ, ◌≤ℚ◌, zero_ℚ, one_ℚ}
use Rattle.rational.specs.Sum.{entry_at, sum_to}
use Rattle.frac128.specs.Steps.{step_of, Step, StepFits}
use Rattle.frac128.specs.declared.steps.Op.TheVariants.{Add}
use Rattle.game_theory.specs.Mixed.{Mixed}
use Rattle.behaviour_profile.specs.declared.entries.ProfileFault.{ProfileFault}
use Rattle.behaviour_profile.specs.declared.entries.ProfileFault.TheVariants as faults

-- ---- tests
-- a test of an entry, of its addition to those before it in its group, or of a group's sum
pub data Test : Type 0 where
  IsNotNegative : (place : ℕ) → (entry : ℚ) → Test
  CanBeAdded : (step : Step) → Test
  SumsToOne : (group : ℕ) → (sum : ℚ) → Test

-- a test holds
abbrev pub TestHolds : Test → Type 0
TestHolds (IsNotNegative place entry) = zero_ℚ ≤ℚ entry
TestHolds (CanBeAdded step) = StepFits step
TestHolds (SumsToOne group sum) = sum ≡ one_ℚ

-- what is wrong where it does not
abbrev pub fault_of : Test → ProfileFault
fault_of (IsNotNegative place entry) = faults.Negative place
fault_of (CanBeAdded step) = faults.Unfit step
fault_of (SumsToOne group sum) = faults.Sum group

-- the tests of entry k of a group that stands from a place on: it is not negative, and it can be
-- added to those before it
abbrev pub entry_tests : List ℚ → ℕ → ℕ → List Test
entry_tests entries place k =
    let sum_before : ℚ = sum_to k (λ j. entry_at entries (place + j)) in
    IsNotNegative (place + k) (entry_at entries (place + k))
    ∷ CanBeAdded (step_of Add sum_before (entry_at entries (place + k)))
    ∷ []

-- the tests of a group whose n entries stand from a place on: those of each entry in order, and
-- of the sum
abbrev pub group_tests : List ℚ → ℕ → ℕ → ℕ → List Test
group_tests entries place group n =
    flat_map (entry_tests entries place) (range_with_len 0 n)
    ++ SumsToOne group (sum_to n (λ j. entry_at entries (place + j))) ∷ []

-- the tests of groups of these sizes, from a place and a group's number on
abbrev pub tests_from : List ℚ → ℕ → ℕ → List ℕ → List Test
tests_from entries place group [] = []
tests_from entries place group (n ∷ sizes) =
    group_tests entries place group n ++ tests_from entries (place + n) (suc group) sizes

-- the first of these tests that does not hold
pub record IsFirstFailed (tests : List Test) (test : Test) : Type 0 where
  pub before : List Test
  pub following : List Test
  pub is_there : tests ≡ before ++ test ∷ following
  pub earlier_pass : All TestHolds before
  pub fails : TestHolds test → ⊥

-- these tests all hold; or the first that does not
abbrev pub all_pass : List Test → Answer Test (Unit {0})
all_pass tests (Ok _) = All TestHolds tests
all_pass tests (Err test) = IsFirstFailed tests test

-- the tests of a group all hold; or what is wrong at the first that does not
abbrev pub group_in : List ℚ → ℕ → ℕ → ℕ → Answer ProfileFault (Unit {0})
group_in entries place group n = refused_by fault_of (all_pass (group_tests entries place group n))

-- ---- profiles
-- Entries in groups of these sizes, whose count is right and whose tests all hold; or what is wrong
-- first.
abbrev pub profile_in : List ℕ → List ℚ → Answer ProfileFault (List ℚ)
profile_in sizes entries =
    refuse_where (length entries ≢ sum sizes) faults.Count
    >> (refused_by fault_of (all_pass (tests_from entries 0 0 sizes)) >> only entries)

-- the mixed profile with these entries, where the players have so many strategies
abbrev pub mixed_of : List ℕ → List ℚ → Mixed
mixed_of sizes entries i s = entry_at entries (sum (take i sizes) + s)
