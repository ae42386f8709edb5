-- The start of a program's system.
use Rattle.std.proofs.Common.{ℕ, suc, ◌<◌, ◌≤◌, ◌≡◌, ◌+◌, length, get_or, ap, ◌∙◌, arith}
use Rattle.sequence_forms.specs.Sides.{sequences}
use Rattle.rational.specs.Rational.{ℚ}
use Rattle.linear_systems.specs.Rows.{Alike}
use Rattle.zero_sum_lp.specs.Programs.{constraints, program_of, IsProgramOf}
use Rattle.zero_sum_lp.specs.ExactPaths.{linear_program}
use Rattle.linear_systems.proofs.AgreementLemmas.{alike_trans}
use Rattle.game_core.specs.Limits.{most_rows}
use Rattle.lex_tableau.specs.Rows.{WholeTableau, tableau, IsTableau}
use Rattle.lex_tableau.specs.Starts.{LinearSystem, system_of, IsStartOf}
use Rattle.sequence_data.specs.Data.{SideData, side_of}
use Rattle.zero_sum_lp.specs.Parts.{IsStartFor, HasShape}
use Rattle.zero_sum_lp.specs.Systems.{IsSystemFor}
use Rattle.zero_sum_lp.proofs.OptimumLemmas.{sets_are}

pub program_is : (first second : SideData) (gain : ℕ → ℕ → ℚ) (s : LinearSystem) (n : WholeTableau) → Alike (program_of (side_of first) (side_of second) gain) (system_of s) → s.rated ≡ constraints (side_of first) (side_of second) → IsStartOf s n → IsProgramOf (side_of first) (side_of second) gain (linear_program n)
program_is first second gain s n a r h =
    record { rated = h.rated ∙ r; start = alike_trans (program_of (side_of first) (side_of second) gain) (system_of s) (tableau n) a h.fractions; bound = omega arith }

pub starts_for : (first second : SideData) (s : LinearSystem) (n : WholeTableau) (gain : ℕ → ℕ → ℚ) → IsSystemFor first second gain s → IsStartOf s n → IsTableau n → IsStartFor first second n
starts_for first second s n gain p h valid =
    record {
      gain = gain;
      basics = λ i l. ap (λ xs. get_or xs i 0) h.starts ∙ h.fractions.basic i (rows i l);
      program = program_is first second gain s n p.program p.rated h;
      valid = valid;
    }
  where
    rows : (i : ℕ) → i < n.rated → i < length s.basics
    rows i l =
        let r : n.rated ≡ constraints (side_of first) (side_of second) = h.rated ∙ p.rated in
        let a : suc (constraints (side_of first) (side_of second)) ≡ length s.basics = p.program.rows in
        omega arith

pub shape_is : (first second : SideData) (y a : ℕ) → y ≡ sequences (side_of second) → a ≡ length first.sets → constraints (side_of first) (side_of second) + (sequences (side_of first) + suc (side_of second).sets) ≤ most_rows → HasShape first second (1 + a + y)
shape_is first second y a ey ea few =
    let f = sets_are first in
    record { rows = omega arith; few = omega arith }
