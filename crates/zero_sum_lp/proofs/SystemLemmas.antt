-- The entries of a program, one after another, make its system.
use Rattle.std.proofs.Common.{ℕ, zero, suc, ◌<◌, ◌≤◌, ◌≡◌, ◌≢◌, ◌+◌, ◌*◌, ◌-◌, ◌^◌, inl, inr, List, [], ◌∷◌, ◌++◌, length, get_or, refl, sym, ap, ap₂, ◌∙◌, arith, tests, add-one}
use Rattle.std.proofs.lemmas.Bool.{cases_eq, cases_lt}
use Rattle.std.proofs.lemmas.List.{length_push, get_or_past, get_or_push, get_or_append_left}
use Rattle.rational.specs.Rational.{ℚ, neg_ℚ, zero_ℚ}
use Rattle.rational.proofs.RationalRing.{rational_ring}
use Rattle.rational.proofs.Ring.{ring, num, :neg}
use Rattle.linear_systems.specs.Tableau.{Tableau}
use Rattle.linear_systems.specs.Rows.{Alike}
use Rattle.game_core.specs.Limits.{most_rows}
use Rattle.sequence_forms.specs.Matrices.{right_side}
use Rattle.sequence_forms.specs.Sides.{Side, sequences}
use Rattle.zero_sum_lp.specs.Programs.{columns_of, constraints, objective_cell, program_of}
use Rattle.linear_systems.proofs.AgreementLemmas.{alike_distinct}
use Rattle.zero_sum_lp.proofs.ProgramLemmas.{basic_is, basic_last, distinct}
use Rattle.lex_tableau.specs.Starts.{linear_system, system_of, IsSystem}
use Rattle.sequence_data.specs.Data.{SideData, side_of}
use Rattle.lex_tableau.specs.Entries.{AreEntries, AreNumbered}
use Rattle.lex_tableau.proofs.EntryLemmas.{cell_at, right_at}
use Rattle.zero_sum_lp.specs.Systems.{IsSystemFor}

-- the objective row is 0 but at Q 0
pub objective_elsewhere : (d : Side) (j : ℕ) → j ≢ sequences d → zero_ℚ ≡ objective_cell d j
objective_elsewhere d j ne = elim (cases_lt j (sequences d)) [
  | inl l ↦ sym (first_part l)
  | inr l ↦ (second_part l)
]
  where
    first_part : j < sequences d → objective_cell d j ≡ zero_ℚ
    first_part l = grind (arith, tests)

    beyond : sequences d ≤ j → objective_cell d j ≡ neg_ℚ (right_side (j - sequences d))
    beyond l = grind (arith, tests)

    later : (n : ℕ) → n ≢ 0 → right_side n ≡ zero_ℚ
    later zero h = absurd (h refl)
    later (suc n) h = refl

    none : sequences d ≤ j → right_side (j - sequences d) ≡ zero_ℚ
    none l = later (j - sequences d) (λ e. ne (omega (arith, e, l)))

    second_part : sequences d ≤ j → zero_ℚ ≡ objective_cell d j
    second_part l = ring rational_ring [] (num 0) (:neg (num 0)) refl ∙ sym (ap neg_ℚ (none l)) ∙ sym (beyond l)

-- ---- variables
past_end : (xs : List ℕ) (i : ℕ) → length xs ≤ i → get_or xs i 0 ≡ 0
past_end xs i h = get_or_past xs i 0 h

-- ---- the system
module _ (first second : SideData) (gain : ℕ → ℕ → ℚ) (m n : ℕ) (basics others nonbasics : List ℕ) (cells : List ℚ) (m_is : m ≡ constraints (side_of first) (side_of second)) (n_is : n ≡ columns_of (side_of first) (side_of second)) (few : m + n ≤ most_rows) (slacks : AreNumbered 1 m others) (basics_are : basics ≡ others ++ (m + n + 1) ∷ []) (nonbasics_are : AreNumbered (m + 1) n nonbasics) (cells_are : AreEntries (program_of (side_of first) (side_of second) gain) (n + 1) ((m + 1) * (n + 1)) cells) where
  abbrev t : Tableau
  t = program_of (side_of first) (side_of second) gain

  basics_length : length basics ≡ suc m
  basics_length = ap length basics_are ∙ length_push others (m + n + 1) ∙ ap (λ k. k + 1) slacks.length_is ∙ add-one m

  slack : (i : ℕ) → i < m → get_or basics i 0 ≡ suc i
  slack i l = ap (λ xs. get_or xs i 0) basics_are ∙ get_or_append_left others ((m + n + 1) ∷ []) 0 i (let c : length others ≡ m = slacks.length_is in omega arith) ∙ slacks.number_is i l ∙ (let e : 1 + i ≡ suc i = omega arith in e)

  goal_variable : (i : ℕ) → i ≡ m → get_or basics i 0 ≡ suc (m + n)
  goal_variable i e = ap (λ xs. get_or xs i 0) basics_are ∙ get_or_push others (m + n + 1) 0 i (slacks.length_is ∙ sym e) ∙ add-one (m + n)

  basic_same : (i : ℕ) → i < suc (constraints (side_of first) (side_of second)) → (program_of (side_of first) (side_of second) gain).basic i ≡ get_or basics i 0
  basic_same i l = elim (cases_eq i m) [
    | inl e ↦ sym (goal_variable i e ∙ ap₂ (λ a b. suc (a + b)) m_is n_is ∙ sym (basic_last (side_of first) (side_of second) gain i (omega (arith, e, m_is))))
    | inr ne ↦ (let k : i < m = omega (arith, l, m_is, ne) in sym (slack i k ∙ sym (basic_is (side_of first) (side_of second) gain i (omega (arith, k, m_is)))))
  ]

  system_program : Alike (program_of (side_of first) (side_of second) gain) (system_of (linear_system basics nonbasics cells m))
  system_program =
      record {
        rows = ap suc (sym m_is) ∙ sym basics_length;
        width = sym n_is ∙ sym nonbasics_are.length_is;
        basic = basic_same;
        nonbasic = λ j l. sym (nonbasics_are.number_is j (omega (arith, l, n_is)) ∙ omega (arith, m_is));
        cell = λ i j hi hj. cell_at t (m + 1) n cells cells_are i j (omega (arith, hi, m_is)) (omega (arith, hj, n_is)) n_is ∙ at_size i j;
        right = λ i hi. right_at t (m + 1) n cells cells_are i (omega (arith, hi, m_is)) n_is ∙ ap₂ (λ a b. get_or cells (i * (a + 1) + b) zero_ℚ) (sym nonbasics_are.length_is) (sym nonbasics_are.length_is);
      }
    where
      at_size : (i j : ℕ) → get_or cells (i * (n + 1) + j) zero_ℚ ≡ get_or cells (i * (length nonbasics + 1) + j) zero_ℚ
      at_size i j = ap (λ a. get_or cells (i * (a + 1) + j) zero_ℚ) (sym nonbasics_are.length_is)

  pub system_valid : IsSystem (linear_system basics nonbasics cells m)
  system_valid =
      record {
        distinct = alike_distinct (program_of (side_of first) (side_of second) gain) (system_of (linear_system basics nonbasics cells m)) system_program (distinct (side_of first) (side_of second) gain);
        shape = cells_are.count ∙ ap₂ (λ a b. a * (b + 1)) (add-one m ∙ sym basics_length) (sym nonbasics_are.length_is);
        rated = (let b = basics_length in omega (arith, b));
        basics_small = basics_small;
        nonbasics_small = nonbasics_small;
        few = (let b = basics_length in omega (arith, b, few));
      }
    where
      basics_small : (i : ℕ) → get_or basics i 0 < 2 ^ 32
      basics_small i = elim (cases_lt i m) [
        | inl l ↦ (let e = slack i l in omega (arith, e, l, few))
        | inr l ↦ elim (cases_eq i m) [
          | inl q ↦ (let e = goal_variable i q in omega (arith, e, few))
          | inr q ↦ (let e = past_end basics i (let b = basics_length in omega (arith, b, l, q)) in omega (arith, e))
        ]
      ]

      nonbasics_small : (j : ℕ) → get_or nonbasics j 0 < 2 ^ 32
      nonbasics_small j = elim (cases_lt j n) [
        | inl l ↦ (let e = nonbasics_are.number_is j l in omega (arith, e, l, few))
        | inr l ↦ (let e = past_end nonbasics j (let b : length nonbasics ≡ n = nonbasics_are.length_is in omega (arith, b, l)) in omega (arith, e))
      ]

  pub system_for : IsSystemFor first second gain (linear_system basics nonbasics cells m)
  system_for = record { valid = system_valid; program = system_program; rated = m_is }
