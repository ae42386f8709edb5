-- A form has one problem, or one reason why it has none.
use Rattle.sequence_data.specs.Sizes.{form_sizes, problem_rows}
use Rattle.std.proofs.Common.{◌≡◌, ◌∙◌, ◌<◌, sym}
use Rattle.answers.specs.Answers.{◌>>◌, IsSingle, only, refused_by}
use Rattle.answers.proofs.AnswerLemmas.{bind-single, only-single, refuse_where-single, refused_by-single}
use Rattle.linear_systems.proofs.AgreementLemmas.{alike_both}
use Rattle.lex_tableau.specs.Starts.{LinearSystem, system_of}
use Rattle.lex_tableau.specs.StartStops.{start_of}
use Rattle.lex_tableau.proofs.SystemLemmas.{systems_determined, start_of-single}
use Rattle.frac128.proofs.FirstUnfitLemmas.{all_fit-single}
use Rattle.game_core.specs.Limits.{most_rows, too_large, within}
use Rattle.game_core.specs.declared.too_large.What.TheVariants as what
use Rattle.sequence_forms.specs.Prices.{costs}
use Rattle.sequence_data.specs.Data.{FormData, form, side_of}
use Rattle.lemke_pivot.specs.declared.stop.LcpStop.TheVariants as stops
use Rattle.lemke_pivot.specs.FormProblems.{IsSystemOf, ProblemsAreSingle, both_costs, costs_in, form_start_in, steps_at, told_cost, told_start, with_start}
use Rattle.lemke_pivot.specs.Parts.{start_tableau}

-- ---- the start
module _ (f : FormData) where
  one_system : (s t : LinearSystem) → IsSystemOf f s → IsSystemOf f t → s ≡ t
  one_system s t h g =
      let begin = start_tableau (side_of f.first) (side_of f.second) (costs (form f) 0 f.greatest_one) (costs (form f) 1 f.greatest_two) in
      systems_determined s t h.valid g.valid (alike_both begin (system_of s) (system_of t) h.begins g.begins) (h.rated ∙ sym g.rated)

  form_start_in-single : IsSingle (form_start_in f)
  form_start_in-single =
      let stage = refused_by told_start (start_of (IsSystemOf f)) in
      bind-single stage (λ start. only (with_start f start)) (refused_by-single told_start (start_of (IsSystemOf f)) (start_of-single (IsSystemOf f) one_system)) (λ start _. only-single (with_start f start))

-- ---- all stages
pub problems_single : ProblemsAreSingle
problems_single f =
    let numbers = costs_in f.greatest_one f.greatest_two f.cells in
    let size = refused_by stops.TooLarge (within what.Rows most_rows (problem_rows (form_sizes f))) in
    bind-single size (λ _. numbers >> form_start_in f) (refused_by-single stops.TooLarge _ (refuse_where-single (most_rows < problem_rows (form_sizes f)) (too_large what.Rows most_rows (problem_rows (form_sizes f)))))
    (λ _ _. bind-single numbers (λ _. form_start_in f) (refused_by-single told_cost _ (all_fit-single (steps_at f.greatest_one f.greatest_two) (both_costs f.cells)))
    (λ _ _. form_start_in-single f))
