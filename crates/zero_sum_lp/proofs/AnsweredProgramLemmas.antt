-- A form has its program, or a reason why it has none.
use Rattle.std.proofs.Common.{◌+◌, ◌*◌, ◌<◌, ◌≤◌, ◌≡◌, inl, inr, List, [], ◌∷◌, ◌++◌, All, Ok, Err, refl, sym, ap, ◌∙◌, arith}
use Rattle.std.proofs.lemmas.List.Elements.{All-nil, All-cons, All-weaker}
use Rattle.answers.specs.Answered.{IsAnswered}
use Rattle.answers.specs.Answers.{◌>>◌, only, refused_by}
use Rattle.answers.proofs.AnsweredLemmas.{bind-answered, only-answered, refuse_where-answered, refused_by-answered}
use Rattle.lists.proofs.DeniedLemmas.{all_or_first}
use Rattle.frac128.proofs.FirstUnfitLemmas.{all_fit-answered}
use Rattle.game_core.specs.Limits.{most_rows, too_large, within}
use Rattle.game_core.specs.declared.too_large.What.TheVariants as what
use Rattle.lex_tableau.specs.Starts.{LinearSystem, linear_system}
use Rattle.lex_tableau.specs.StartStops.{start_of}
use Rattle.lex_tableau.proofs.AnsweredStartLemmas.{start_in-answered}
use Rattle.lex_tableau.proofs.MadeEntryLemmas.{entries_made, numbered_made}
use Rattle.sequence_forms.specs.Prices.{gains}
use Rattle.sequence_data.specs.Data.{FormData, form, side_of}
use Rattle.sequence_data.specs.Sizes.{form_sizes, program_size}
use Rattle.sequence_data.specs.declared.types.Leaf.{Leaf}
use Rattle.zero_sum_lp.specs.AnsweredLaws.{ProgramsAreAnswered}
use Rattle.zero_sum_lp.specs.FormPrograms.{IsSystemOf, form_start_in, gain_steps, gains_in, is_constant, sum_at, leaf_sum_steps, sums_in, told_start, with_start}
use Rattle.zero_sum_lp.specs.Programs.{columns_of, constraints, program_of}
use Rattle.zero_sum_lp.specs.declared.stop.LpStop.TheVariants as stops
use Rattle.zero_sum_lp.proofs.SystemLemmas.{system_for}

-- ---- the sums
-- all sums are the same, or there are the first two that are not
is_constant-answered : (leaves : List Leaf) → IsAnswered (is_constant leaves)
is_constant-answered [] none = none (Ok tt) (All-nil (λ l. All (λ k. sum_at k ≡ sum_at l) []))
is_constant-answered (x ∷ xs) none =
    all_or_first (λ l. sum_at l ≡ sum_at x) xs (λ found. elim found [
      | inl same ↦ (let all = All-cons (λ l. sum_at l ≡ sum_at x) x xs refl same in
          none (Ok tt) (All-weaker (λ l. sum_at l ≡ sum_at x) (λ l. All (λ k. sum_at k ≡ sum_at l) (x ∷ xs)) (λ l e. All-weaker (λ k. sum_at k ≡ sum_at x) (λ k. sum_at k ≡ sum_at l) (λ k h. h ∙ sym e) (x ∷ xs) all) (x ∷ xs) all))
      | inr first ↦ none (Err (record { first = x.place; second = first.1.place; first_sum = sum_at x; second_sum = sum_at first.1 }))
          (record { leaf = x; same = first.0; other = first.1; rest = first.2; are_there = ap (λ ys. x ∷ ys) first.3; are_same = first.4; differs = first.5; stop_is = refl })
    ])

-- ---- the start
module _ (f : FormData) (few : ¬ (most_rows < program_size (form_sizes f))) where
  -- the system of a form is there
  system_made : (s : LinearSystem) × IsSystemOf f s
  system_made =
      let gain = gains (form f) f.least_one in
      let m = constraints (side_of f.first) (side_of f.second) in
      let n = columns_of (side_of f.first) (side_of f.second) in
      let slacks = numbered_made 1 m in
      let nonbasics = numbered_made (m + 1) n in
      let cells = entries_made (program_of (side_of f.first) (side_of f.second) gain) (n + 1) ((m + 1) * (n + 1)) in
      let basics = slacks.0 ++ (m + n + 1) ∷ [] in
      let fits : m + n ≤ most_rows = omega (arith, few) in
      (linear_system basics nonbasics.0 cells.0 m, system_for f.first f.second gain m n basics slacks.0 nonbasics.0 cells.0 refl refl fits slacks.1 refl nonbasics.1 cells.1)

  -- and so its start, or the first step that does not fit
  form_start_in-answered : IsAnswered (form_start_in f)
  form_start_in-answered =
      bind-answered (refused_by told_start (start_of (IsSystemOf f))) (λ start. only (with_start f start))
      (refused_by-answered told_start (start_of (IsSystemOf f)) (λ none. start_in-answered system_made.0 system_made.1.valid (λ answer h. none answer (system_made.0, (system_made.1, h)))))
      (λ start _. only-answered (with_start f start))

-- ---- all stages
pub programs_answered : ProgramsAreAnswered
programs_answered f _ =
    let constant = refused_by stops.NotConstant (is_constant f.leaves) in
    let numbers = gains_in f.least_one f.cells in
    let size = refused_by stops.TooLarge (within what.Rows most_rows (program_size (form_sizes f))) in
    bind-answered size (λ _. sums_in f.leaves >> (constant >> (numbers >> form_start_in f))) (refused_by-answered stops.TooLarge _ (refuse_where-answered (most_rows < program_size (form_sizes f)) (too_large what.Rows most_rows (program_size (form_sizes f)))))
    (λ _ few. bind-answered (sums_in f.leaves) (λ _. constant >> (numbers >> form_start_in f)) (refused_by-answered (λ stop. stops.SumRange stop.0.place stop.1) _ (all_fit-answered leaf_sum_steps f.leaves))
    (λ _ _. bind-answered constant (λ _. numbers >> form_start_in f) (refused_by-answered stops.NotConstant _ (is_constant-answered f.leaves))
    (λ _ _. bind-answered numbers (λ _. form_start_in f) (refused_by-answered (λ stop. stops.GainRange stop.0.row stop.0.column stop.1) _ (all_fit-answered (gain_steps f.least_one) f.cells))
    (λ _ _. form_start_in-answered f few))))
