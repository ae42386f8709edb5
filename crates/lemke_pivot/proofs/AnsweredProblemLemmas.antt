-- A form has its problem, or a reason why it has none.
use Rattle.std.proofs.Common.{◌+◌, ◌*◌, ◌<◌, ◌≤◌, refl, arith}
use Rattle.answers.specs.Answered.{IsAnswered}
use Rattle.answers.specs.Answers.{◌>>◌, only, refused_by}
use Rattle.answers.proofs.AnsweredLemmas.{bind-answered, only-answered, refuse_where-answered, refused_by-answered}
use Rattle.frac128.proofs.FirstUnfitLemmas.{all_fit-answered}
use Rattle.game_core.specs.Limits.{most_rows, too_large, within}
use Rattle.game_core.specs.declared.too_large.What.TheVariants as what
use Rattle.lex_tableau.specs.Starts.{LinearSystem, linear_system}
use Rattle.lex_tableau.specs.StartStops.{start_of}
use Rattle.lex_tableau.proofs.AnsweredStartLemmas.{start_in-answered}
use Rattle.lex_tableau.proofs.MadeEntryLemmas.{entries_made, numbered_made}
use Rattle.sequence_forms.specs.Prices.{costs}
use Rattle.sequence_data.specs.Data.{FormData, form, side_of}
use Rattle.sequence_data.specs.Sizes.{form_sizes, problem_rows}
use Rattle.lemke_pivot.specs.AnsweredLaws.{ProblemsAreAnswered}
use Rattle.lemke_pivot.specs.FormProblems.{IsSystemOf, both_costs, costs_in, form_start_in, steps_at, told_cost, told_start, with_start}
use Rattle.lemke_pivot.specs.Parts.{start_tableau}
use Rattle.lemke_pivot.specs.declared.stop.LcpStop.TheVariants as stops
use Rattle.lemke_pivot.proofs.SystemLemmas.{system_for}

-- ---- the start
module _ (f : FormData) (few : ¬ (most_rows < problem_rows (form_sizes f))) where
  -- the system of a form is there
  system_made : (s : LinearSystem) × IsSystemOf f s
  system_made =
      let one = costs (form f) 0 f.greatest_one in
      let two = costs (form f) 1 f.greatest_two in
      let n = problem_rows (form_sizes f) in
      let basics = numbered_made 1 n in
      let nonbasics = numbered_made (n + 1) (n + 1) in
      let cells = entries_made (start_tableau (side_of f.first) (side_of f.second) one two) (n + 2) (n * (n + 2)) in
      let fits : n ≤ most_rows = omega (arith, few) in
      (linear_system basics.0 nonbasics.0 cells.0 n, system_for f.first f.second one two n basics.0 nonbasics.0 cells.0 refl fits basics.1 nonbasics.1 cells.1)

  -- and so its start, or the first step that does not fit
  form_start_in-answered : IsAnswered (form_start_in f)
  form_start_in-answered =
      bind-answered (refused_by told_start (start_of (IsSystemOf f))) (λ start. only (with_start f start))
      (refused_by-answered told_start (start_of (IsSystemOf f)) (λ none. start_in-answered system_made.0 system_made.1.valid (λ answer h. none answer (system_made.0, (system_made.1, h)))))
      (λ start _. only-answered (with_start f start))

-- ---- all stages
pub problems_answered : ProblemsAreAnswered
problems_answered f _ =
    let numbers = costs_in f.greatest_one f.greatest_two f.cells in
    let size = refused_by stops.TooLarge (within what.Rows most_rows (problem_rows (form_sizes f))) in
    bind-answered size (λ _. numbers >> form_start_in f) (refused_by-answered stops.TooLarge _ (refuse_where-answered (most_rows < problem_rows (form_sizes f)) (too_large what.Rows most_rows (problem_rows (form_sizes f)))))
    (λ _ few. bind-answered numbers (λ _. form_start_in f) (refused_by-answered told_cost _ (all_fit-answered (steps_at f.greatest_one f.greatest_two) (both_costs f.cells)))
    (λ _ _. form_start_in-answered f few))
