-- The entries of a problem, one after another, make its system.
use Rattle.std.proofs.Common.{ℕ, suc, ◌<◌, ◌≤◌, ◌≡◌, ◌+◌, ◌*◌, ◌^◌, inl, inr, List, length, get_or, sym, ap, ap₂, ◌∙◌, subst, arith}
use Rattle.std.proofs.lemmas.Bool.{cases_lt}
use Rattle.std.proofs.lemmas.List.{get_or_past}
use Rattle.rational.specs.Rational.{ℚ, zero_ℚ}
use Rattle.linear_systems.specs.Rows.{Alike}
use Rattle.linear_systems.specs.Tableau.{Tableau}
use Rattle.linear_systems.proofs.AgreementLemmas.{alike_distinct}
use Rattle.lemke_pivot.specs.Problems.{costs_of, matrix, right_sides}
use Rattle.lemke_pivot.proofs.KeyLemmas.{is_start}
use Rattle.game_core.specs.Limits.{most_rows}
use Rattle.lex_tableau.specs.Entries.{AreEntries, AreNumbered}
use Rattle.lex_tableau.specs.Starts.{linear_system, system_of, IsSystem}
use Rattle.lex_tableau.proofs.EntryLemmas.{cell_at, right_at}
use Rattle.sequence_data.specs.Data.{SideData, side_of}
use Rattle.lemke_pivot.specs.Parts.{size_for, start_tableau}
use Rattle.lemke_pivot.specs.Systems.{IsSystemFor}

-- numbers one after another are small
numbered_small : (first count : ℕ) (xs : List ℕ) → AreNumbered first count xs → first + count < 2 ^ 32 → (i : ℕ) → get_or xs i 0 < 2 ^ 32
numbered_small first count xs w h i = elim (cases_lt i count) [
  | inl l ↦ (let e = w.number_is i l in omega (arith, e, l, h))
  | inr l ↦ (let e = get_or_past xs i 0 (let c : length xs ≡ count = w.length_is in omega (arith, c, l)) in omega (arith, e, h))
]

module _ (first second : SideData) (one two : ℕ → ℕ → ℚ) (n : ℕ) (basics nonbasics : List ℕ) (cells : List ℚ) (n_is : n ≡ size_for first second) (few : n ≤ most_rows) (basics_are : AreNumbered 1 n basics) (nonbasics_are : AreNumbered (n + 1) (n + 1) nonbasics) (cells_are : AreEntries (start_tableau (side_of first) (side_of second) one two) (n + 2) (n * (n + 2)) cells) where
  abbrev t : Tableau
  t = start_tableau (side_of first) (side_of second) one two

  width_is : n + 1 ≡ t.width
  width_is = let e = n_is in omega (arith, e)

  entries : AreEntries t (n + 1 + 1) (n * (n + 1 + 1)) cells
  entries = let e : n + 2 ≡ n + 1 + 1 = omega arith in subst (λ k. AreEntries t k (n * k) cells) e cells_are

  begins : Alike t (system_of (linear_system basics nonbasics cells n))
  begins =
      record {
        rows = sym n_is ∙ sym basics_are.length_is;
        width = sym width_is ∙ sym nonbasics_are.length_is;
        basic = λ i l. sym (basics_are.number_is i (omega (arith, l, n_is)) ∙ (let e : 1 + i ≡ suc i = omega arith in e));
        nonbasic = λ j l. sym (nonbasics_are.number_is j (omega (arith, l, n_is)) ∙ omega (arith, n_is));
        cell = λ i j hi hj. cell_at t n (n + 1) cells entries i j (omega (arith, hi, n_is)) (omega (arith, hj, n_is)) width_is ∙ ap (λ a. get_or cells (i * (a + 1) + j) zero_ℚ) (sym nonbasics_are.length_is);
        right = λ i hi. right_at t n (n + 1) cells entries i (omega (arith, hi, n_is)) width_is ∙ ap₂ (λ a b. get_or cells (i * (a + 1) + b) zero_ℚ) (sym nonbasics_are.length_is) (sym nonbasics_are.length_is);
      }

  valid : IsSystem (linear_system basics nonbasics cells n)
  valid =
      record {
        distinct = (let s = costs_of (side_of first) (side_of second) one two in alike_distinct t (system_of (linear_system basics nonbasics cells n)) begins (is_start (size_for first second) (matrix s) (right_sides s)).proper);
        shape = entries.count ∙ ap₂ (λ a b. a * (b + 1)) (sym basics_are.length_is) (sym nonbasics_are.length_is);
        rated = (let b : length basics ≡ n = basics_are.length_is in omega (arith, b));
        basics_small = numbered_small 1 n basics basics_are (omega (arith, few));
        nonbasics_small = numbered_small (n + 1) (n + 1) nonbasics nonbasics_are (omega (arith, few));
        few = (let b : length basics ≡ n = basics_are.length_is in omega (arith, b, few));
      }

  pub system_for : IsSystemFor first second one two (linear_system basics nonbasics cells n)
  system_for = record { valid = valid; begins = begins; rated = n_is }
