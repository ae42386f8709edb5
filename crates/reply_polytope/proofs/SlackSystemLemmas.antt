-- The entries of a system of slacks, one after another, with numbered variables make the system.
use Rattle.std.proofs.Common.{ℕ, ◌+◌, ◌*◌, ◌^◌, ◌<◌, ◌≢◌, inl, inr, List, get_or, refl, sym, ap, ap₂, ◌∙◌, arith}
use Rattle.std.proofs.lemmas.Bool.{cases_lt}
use Rattle.std.proofs.lemmas.List.{get_or_past}
use Rattle.rational.specs.Rational.{ℚ, zero_ℚ}
use Rattle.linear_systems.specs.Rows.{HasDistinctVariables, Alike}
use Rattle.linear_systems.proofs.AgreementLemmas.{alike_distinct}
use Rattle.lex_tableau.specs.Entries.{AreEntries, AreNumbered}
use Rattle.lex_tableau.specs.Starts.{linear_system, system_of, IsSystem}
use Rattle.lex_tableau.proofs.EntryLemmas.{cell_at, right_at}
use Rattle.reply_polytope.specs.declared.systems.Shape.{Shape}
use Rattle.reply_polytope.specs.Polytopes.{IsRatedSystem}
use Rattle.reply_polytope.specs.Shapes.{IsReadable, slack_system}

-- the variables of a shape are apart
shape_distinct : (count : ℕ) (numbers : List ℚ) (s : Shape) → IsReadable count s → HasDistinctVariables (slack_system numbers s)
shape_distinct count numbers s h =
    record { basic_once = λ i k a b e. omega (arith, e); nonbasic_once = λ i k a b e. omega (arith, e); apart = apart }
  where
    apart : (i j : ℕ) → i < s.rows → j < s.width → s.first_basic + i ≢ s.first_nonbasic + j
    apart i j a b e = elim h.apart [ inl l ↦ omega (arith, a, b, e, l) | inr l ↦ omega (arith, a, b, e, l) ]

module _ (count : ℕ) (numbers : List ℚ) (s : Shape) (readable : IsReadable count s) (basics nonbasics : List ℕ) (cells : List ℚ) (basics_are : AreNumbered s.first_basic s.rows basics) (nonbasics_are : AreNumbered s.first_nonbasic s.width nonbasics) (cells_are : AreEntries (slack_system numbers s) (s.width + 1) (s.rows * (s.width + 1)) cells) where
  is_alike : Alike (slack_system numbers s) (system_of (linear_system basics nonbasics cells s.rows))
  is_alike =
      record {
        rows = sym basics_are.length_is;
        width = sym nonbasics_are.length_is;
        basic = λ i l. sym (basics_are.number_is i l);
        nonbasic = λ j l. sym (nonbasics_are.number_is j l);
        cell = λ i j a b. cell_at (slack_system numbers s) s.rows s.width cells cells_are i j a b refl ∙ ap (λ w. get_or cells (i * (w + 1) + j) zero_ℚ) (sym nonbasics_are.length_is);
        right = λ i a. right_at (slack_system numbers s) s.rows s.width cells cells_are i a refl ∙ ap (λ w. get_or cells (i * (w + 1) + w) zero_ℚ) (sym nonbasics_are.length_is);
      }

  is_valid : IsSystem (linear_system basics nonbasics cells s.rows)
  is_valid =
      record {
        distinct = alike_distinct (slack_system numbers s) (system_of (linear_system basics nonbasics cells s.rows)) is_alike (shape_distinct count numbers s readable);
        shape = cells_are.count ∙ ap₂ (λ r w. r * (w + 1)) (sym basics_are.length_is) (sym nonbasics_are.length_is);
        rated = omega (arith, basics_are.length_is);
        basics_small = basics_small;
        nonbasics_small = nonbasics_small;
        few = omega (arith, basics_are.length_is, readable.few_rows);
      }
    where
      basics_small : (i : ℕ) → get_or basics i 0 < 2 ^ 32
      basics_small i = elim (cases_lt i s.rows) [
        | inl l ↦ omega (arith, basics_are.number_is i l, l, readable.few_rows)
        | inr l ↦ omega (arith, get_or_past basics i 0 (omega (arith, basics_are.length_is, l)))
      ]

      nonbasics_small : (j : ℕ) → get_or nonbasics j 0 < 2 ^ 32
      nonbasics_small j = elim (cases_lt j s.width) [
        | inl l ↦ omega (arith, nonbasics_are.number_is j l, l, readable.few_columns)
        | inr l ↦ omega (arith, get_or_past nonbasics j 0 (omega (arith, nonbasics_are.length_is, l)))
      ]

  pub rated_system : IsRatedSystem (slack_system numbers s) (linear_system basics nonbasics cells s.rows)
  rated_system = record { valid = is_valid; alike = is_alike; rated = refl }
