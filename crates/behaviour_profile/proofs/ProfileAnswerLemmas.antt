-- What is answered of entries.
use Rattle.std.proofs.Common.{ℕ, ◌≡◌, ◌≢◌, inl, inr, List, All, Ok, Err, length, refl}
use Rattle.std.specs.Prelude.{sum}
use Rattle.std.proofs.lemmas.Bool.{cases_eq}
use Rattle.answers.specs.Answers.{◌>>◌, IsSingle, only, refuse_where}
use Rattle.answers.proofs.AnswerLemmas.{bind-single, only-single, refuse_where-single, refused_by-single}
use Rattle.rational.specs.Rational.{ℚ}
use Rattle.behaviour_profile.specs.declared.entries.ProfileFault.{ProfileFault}
use Rattle.behaviour_profile.specs.declared.entries.ProfileFault.TheVariants as faults
use Rattle.behaviour_profile.specs.EntryTests.{TestHolds, all_pass, fault_of, group_in, group_tests, profile_in, tests_from}
use Rattle.behaviour_profile.proofs.FirstFaultLemmas.{all_pass-single, tests_in}

pub group_once : (entries : List ℚ) (place group n : ℕ) → IsSingle (group_in entries place group n)
group_once entries place group n =
    let tests = group_tests entries place group n in
    refused_by-single fault_of (all_pass tests) (all_pass-single tests)

module _ (sizes : List ℕ) (entries : List ℚ) where
  pub profile_once : IsSingle (profile_in sizes entries)
  profile_once =
      let tests = tests_from entries 0 0 sizes in
      bind-single (refuse_where (length entries ≢ sum sizes) faults.Count) (λ _. tests_in tests >> only entries) (refuse_where-single (length entries ≢ sum sizes) faults.Count)
      (λ _ _. bind-single (tests_in tests) (λ _. only entries) (refused_by-single fault_of (all_pass tests) (all_pass-single tests)) (λ _ _. only-single entries))

  -- ---- what is answered
  -- entries with a fault
  pub tests_refused : (fault : ProfileFault) → length entries ≡ sum sizes → tests_in (tests_from entries 0 0 sizes) (Err fault) → profile_in sizes entries (Err fault)
  tests_refused fault right h = inr (tt, (λ wrong. wrong right), inl h)

  -- entries that pass
  pub entries_pass : length entries ≡ sum sizes → All TestHolds (tests_from entries 0 0 sizes) → profile_in sizes entries (Ok entries)
  entries_pass right passed = (tt, (λ wrong. wrong right), (tt, passed, refl))

  -- ---- what an answer tells
  pub passed_count : (tested : List ℚ) → profile_in sizes entries (Ok tested) → length entries ≡ sum sizes
  passed_count tested h = elim (cases_eq (length entries) (sum sizes)) [
    | inl right ↦ right
    | inr wrong ↦ absurd (h.1 wrong)
  ]

  pub passed_tests : (tested : List ℚ) → profile_in sizes entries (Ok tested) → All TestHolds (tests_from entries 0 0 sizes)
  passed_tests tested h = h.2.1

  -- the entries are answered themselves
  pub passed_same : (tested : List ℚ) → profile_in sizes entries (Ok tested) → tested ≡ entries
  passed_same tested h = (let e = h.2.2 in cc)
