-- A system has a start, or a first step of its rows that does not fit.
use Rattle.std.proofs.Common.{ℕ, ◌+◌, ◌*◌, length, Ok, ap, refl, ◌≡◌, ◌∙◌, arith}
use Rattle.std.specs.List.{range_with_len}
use Rattle.answers.specs.Answers.{such_that}
use Rattle.answers.specs.Answered.{IsAnswered}
use Rattle.answers.proofs.AnsweredLemmas.{bind-answered, refused_by-answered, such_that-answered}
use Rattle.frac128.proofs.FirstUnfitLemmas.{all_fit-answered}
use Rattle.whole_rows.specs.StartRows.{cells_from, start_steps, start_rows_fit, IsStartRow}
use Rattle.whole_rows.proofs.StartRowLemmas.{start_same}
use Rattle.whole_rows.proofs.MadeRowLemmas.{row_fits, rows_made, start_row_made}
use Rattle.lex_tableau.specs.Rows.{WholeTableau}
use Rattle.lex_tableau.specs.Starts.{LinearSystem, IsSystem}
use Rattle.lex_tableau.specs.StartStops.{rows_in, start_in, IsStartTableau}
use Rattle.lex_tableau.specs.declared.tableau.StartStop.TheVariants.{Unfit}
use Rattle.lex_tableau.proofs.StartLemmas.{start_rows, start_is_tableau, start_is, started}

-- the start of a system is there where the steps of its rows fit
pub start_made : (s : LinearSystem) → IsSystem s → start_rows_fit (length s.basics) (length s.nonbasics + 1) s.cells (Ok tt) → (n : WholeTableau) × IsStartTableau s n
start_made s is_system fit =
    let count = length s.nonbasics + 1 in
    let made = rows_made (length s.basics) (count + 1) (λ i. IsStartRow count (cells_from s.cells (i * count))) (λ i x y e r. start_same count (cells_from s.cells (i * count)) x y e r) (λ i l. start_row_made count (cells_from s.cells (i * count)) (row_fits (length s.basics) count s.cells i l fit)) in
    let shape : length made.0 ≡ length s.basics * (length s.nonbasics + 2) = made.1 ∙ ap (λ n. length s.basics * n) (two (length s.nonbasics)) in
    let rows = start_rows s made.0 count refl made.2 in
    (started s made.0 is_system shape rows, record { start = start_is s made.0 is_system shape rows; valid = start_is_tableau s made.0 is_system shape rows })
  where
    two : (n : ℕ) → n + 1 + 1 ≡ n + 2
    two n = omega arith

-- a system has an answer: its start, or the first step of its rows that does not fit
pub start_in-answered : (s : LinearSystem) → IsSystem s → IsAnswered (start_in s)
start_in-answered s is_system =
    bind-answered (rows_in s) (λ _. such_that (IsStartTableau s))
    (refused_by-answered (λ stop. Unfit stop.0 stop.1) (start_rows_fit (length s.basics) (length s.nonbasics + 1) s.cells) (all_fit-answered (start_steps (length s.nonbasics + 1) s.cells) (range_with_len 0 (length s.basics))))
    (λ _ fit. such_that-answered (IsStartTableau s) (λ none. let made = start_made s is_system fit in none made.0 made.1))
