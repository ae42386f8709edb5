-- Plans have a behaviour, or a first quotient that does not fit, and entries pass, or something is wrong first.
use Rattle.std.proofs.Common.{ℕ, ◌≢◌, inl, inr, List, Ok, Err, length}
use Rattle.std.specs.Prelude.{sum}
use Rattle.answers.specs.Answers.{◌>>◌, only, refuse_where}
use Rattle.answers.specs.Answered.{IsAnswered}
use Rattle.answers.proofs.AnsweredLemmas.{bind-answered, only-answered, refuse_where-answered, refused_by-answered}
use Rattle.lists.proofs.DeniedLemmas.{all_or_first}
use Rattle.rational.specs.Rational.{ℚ}
use Rattle.frac128.proofs.FirstUnfitLemmas.{all_fit-answered}
use Rattle.game_theory.specs.TreeEntries.{tree_entries}
use Rattle.sequence_forms.specs.PlanBehaviour.{behaviour_of}
use Rattle.game_core.specs.Tree.{GameTree}
use Rattle.game_core.specs.TreeGame.{game_of_tree}
use Rattle.behaviour_profile.specs.declared.entries.ProfileFault.TheVariants as faults
use Rattle.behaviour_profile.specs.EntryTests.{Test, TestHolds, all_pass, fault_of, profile_in, tests_from}
use Rattle.behaviour_profile.specs.Plans.{both_plans, own_actions, own_quotients_in, plan_behaviour, quotient_steps, quotient_stop}
use Rattle.behaviour_profile.proofs.FirstFaultLemmas.{tests_in}

-- ---- plans
-- the quotients of a player all fit, or there is the first that does not
quotients-answered : (t : GameTree) (plans : ℕ → ℕ → ℚ) (i : ℕ) → IsAnswered (own_quotients_in t plans i)
quotients-answered t plans i = refused_by-answered (quotient_stop t) _ (all_fit-answered (quotient_steps (game_of_tree t) plans) (own_actions (game_of_tree t) i))

-- two lists of weights have an answer: their behaviour, or the first quotient that does not fit
pub plan_behaviour-answered : (t : GameTree) (one two : List ℚ) → IsAnswered (plan_behaviour t one two)
plan_behaviour-answered t one two =
    let plans = both_plans one two in
    let entries = tree_entries (game_of_tree t) (behaviour_of (game_of_tree t) plans) in
    bind-answered (own_quotients_in t plans 0) (λ _. own_quotients_in t plans 1 >> only entries) (quotients-answered t plans 0)
    (λ _ _. bind-answered (own_quotients_in t plans 1) (λ _. only entries) (quotients-answered t plans 1) (λ _ _. only-answered entries))

-- ---- entries
-- tests all hold, or there is the first that does not
all_pass-answered : (tests : List Test) → IsAnswered (all_pass tests)
all_pass-answered tests none =
    all_or_first TestHolds tests (λ found. elim found [
      | inl passed ↦ none (Ok tt) passed
      | inr first ↦ none (Err first.1) (record { before = first.0; following = first.2; is_there = first.3; earlier_pass = first.4; fails = first.5 })
    ])

-- entries have an answer: that they are all right, or what is wrong with them first
pub profile_in-answered : (sizes : List ℕ) (entries : List ℚ) → IsAnswered (profile_in sizes entries)
profile_in-answered sizes entries =
    let tests = tests_from entries 0 0 sizes in
    bind-answered (refuse_where (length entries ≢ sum sizes) faults.Count) (λ _. tests_in tests >> only entries) (refuse_where-answered (length entries ≢ sum sizes) faults.Count)
    (λ _ _. bind-answered (tests_in tests) (λ _. only entries) (refused_by-answered fault_of (all_pass tests) (all_pass-answered tests)) (λ _ _. only-answered entries))
