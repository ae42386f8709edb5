-- The first test that is not passed, in lists of tests that are put together.
use Rattle.std.proofs.Common.{◌≡◌, List, [], ◌∷◌, ◌++◌, All, Ok, Err, refl, sym, ap, ◌∙◌, subst, append_assoc}
use Rattle.std.proofs.lemmas.List.Elements.{All-nil, All-append}
use Rattle.answers.specs.Answers.{Answer, IsSingle, refused_by}
use Rattle.frac128.proofs.FirstUnfitLemmas.{front_has, front_one}
use Rattle.behaviour_profile.specs.declared.entries.ProfileFault.{ProfileFault}
use Rattle.behaviour_profile.specs.EntryTests.{Test, TestHolds, IsFirstFailed, all_pass, fault_of}

-- these tests are all passed; or what is wrong at the first that is not
abbrev pub tests_in : List Test → Answer ProfileFault (Unit {0})
tests_in tests = refused_by fault_of (all_pass tests)

-- the first stays the first before further tests
pub fault-more : (tests rest : List Test) (fault : ProfileFault) → tests_in tests (Err fault) → tests_in (tests ++ rest) (Err fault)
fault-more tests rest fault h =
    let f = h.1 in (
      h.0,
      record { before = f.before; following = f.following ++ rest; is_there = ap (λ s. s ++ rest) f.is_there ∙ append_assoc f.before (h.0 ∷ f.following) rest; earlier_pass = f.earlier_pass; fails = f.fails },
      h.2,
    )

-- and after tests that are passed
pub fault-following : (tests rest : List Test) (fault : ProfileFault) → All TestHolds tests → tests_in rest (Err fault) → tests_in (tests ++ rest) (Err fault)
fault-following tests rest fault passed h =
    let f = h.1 in (
      h.0,
      record { before = tests ++ f.before; following = f.following; is_there = ap (λ s. tests ++ s) f.is_there ∙ sym (append_assoc tests f.before (h.0 ∷ f.following)); earlier_pass = All-append TestHolds tests f.before passed f.earlier_pass; fails = f.fails },
      h.2,
    )

-- a test that is not passed is the first from itself on
pub fault-here : (test : Test) (rest : List Test) (fault : ProfileFault) → (TestHolds test → ⊥) → fault ≡ fault_of test → tests_in (test ∷ rest) (Err fault)
fault-here test rest fault fails is = (test, record { before = []; following = rest; is_there = refl; earlier_pass = All-nil TestHolds; fails = fails }, is)

-- one test is the first that is not passed
first_once : (tests : List Test) (one other : Test) → IsFirstFailed tests one → IsFirstFailed tests other → one ≡ other
first_once tests one other h g =
    front_one TestHolds h.before g.before h.following g.following one other (sym h.is_there ∙ g.is_there) h.earlier_pass g.earlier_pass h.fails g.fails

-- and none where all are passed
first_among : (tests : List Test) (test : Test) → IsFirstFailed tests test → All TestHolds tests → ⊥
first_among tests test h passed = h.fails (front_has TestHolds h.before h.following test (subst (All TestHolds) h.is_there passed))

pub all_pass-single : (tests : List Test) → IsSingle (all_pass tests)
all_pass-single tests (Ok _) (Ok _) h g = refl
all_pass-single tests (Ok _) (Err test) h g = absurd (first_among tests test g h)
all_pass-single tests (Err test) (Ok _) h g = absurd (first_among tests test h g)
all_pass-single tests (Err one) (Err other) h g = ap Err (first_once tests one other h g)
