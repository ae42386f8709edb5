-- A tree has a reduced form, or a reason why it has none.
use Rattle.std.proofs.Common.{ℕ, zero, suc, ◌*◌, ◌≡◌, Ok, List, [], ◌++◌, length, map, refl, arith}
use Rattle.std.proofs.lemmas.List.{length-append}
use Rattle.answers.specs.Answers.{◌>>◌}
use Rattle.answers.specs.Answered.{IsAnswered}
use Rattle.answers.proofs.AnsweredLemmas.{bind-answered, refuse_where-answered, refused_by-answered, such_that-answered}
use Rattle.rational.specs.Rational.{ℚ}
use Rattle.game_theory.specs.Lines.{listed}
use Rattle.game_theory.proofs.ProfileLineLemmas.{length-listed}
use Rattle.game_theory.specs.Profiles.{profile_count}
use Rattle.game_theory.specs.Trees.{Tree, IsTree as is_game_tree}
use Rattle.reduced_strategies.specs.StrategicForm.{AreStrategies, strategic_form}
use Rattle.game_core.specs.Limits.{counted_within}
use Rattle.game_core.specs.Table.{most_payoffs}
use Rattle.game_core.specs.Tree.{GameTree}
use Rattle.game_core.specs.TreeGame.{game_of_tree}
use Rattle.game_core.specs.declared.too_large.What.TheVariants as what
use Rattle.frac128.proofs.FirstUnfitLemmas.{all_fit-answered}
use Rattle.reduced_form.specs.Cells.{AreCells}
use Rattle.reduced_form.specs.Limits.{cell_steps, cells, choice_count, most_choices, payoff_count}
use Rattle.reduced_form.specs.ReducedForm.{IsReducedForm}
use Rattle.reduced_form.specs.Stops.{cells_in, form_over, reduced_form_of, strategies_of, within_limits}
use Rattle.reduced_form.specs.declared.stop.ReduceStop.TheVariants as stops
use Rattle.reduced_form.proofs.CellRowLemmas.{cells-more}
use Rattle.reduced_form.proofs.FormAnswerLemmas.{few_payoffs}
use Rattle.reduced_form.proofs.FormCountLemmas.{all_strategies}
use Rattle.reduced_form.proofs.FormLaws.{form_table, form-is_form}

module _ (t : Tree) (strategies : List (List (List ℕ))) where
  -- the cells of the first profiles
  abbrev first_cells : ℕ → List ℚ
  first_cells zero = []
  first_cells (suc k) = first_cells k ++ listed t.players (λ i. (strategic_form t strategies).pays i k)

  -- so many
  length-first_cells : (k : ℕ) → length (first_cells k) ≡ k * t.players
  length-first_cells zero = omega arith
  length-first_cells (suc k) =
      let row = listed t.players (λ i. (strategic_form t strategies).pays i k) in
      omega (arith, length-append (first_cells k) row, length-listed t.players (λ i. (strategic_form t strategies).pays i k), length-first_cells k)

  -- they are the strategic form's
  first_cells-are : (k : ℕ) → AreCells t strategies (first_cells k)
  first_cells-are zero = λ j i l below. absurd (omega (arith, below))
  first_cells-are (suc k) = cells-more t strategies (first_cells k) (first_cells (suc k)) k (length-first_cells k) refl (first_cells-are k)

-- ---- the stages
-- all players have their strategies
strategies-answered : (t : Tree) → is_game_tree t → IsAnswered (strategies_of t)
strategies-answered t w = such_that-answered (AreStrategies t) (λ none. let some = all_strategies t w in none some.0 some.1)

module _ (t : Tree) (strategies : List (List (List ℕ))) where
  -- both counts are within their limits, or one is refused
  within-answered : IsAnswered (within_limits t strategies)
  within-answered =
      let payoffs = counted_within what.Payoffs most_payoffs (payoff_count t strategies) in
      let choices = counted_within what.Choices most_choices (choice_count t strategies) in
      refused_by-answered stops.TooLarge (payoffs >> choices) (bind-answered payoffs (λ _. choices) (refuse_where-answered _ _) (λ _ _. refuse_where-answered _ _))

  -- the steps of all cells fit, or there is the first that does not
  cells-answered : IsAnswered (cells_in t strategies)
  cells-answered =
      refused_by-answered (λ stop. stops.Range stop.0.0 stop.0.1 stop.1) _
      (all_fit-answered (λ cell. cell_steps t strategies cell.0 cell.1) (cells t strategies))

-- strategies within the limits have their form
over-answered : (t : GameTree) (strategies : List (List (List ℕ))) → is_game_tree (game_of_tree t) → AreStrategies (game_of_tree t) strategies → within_limits (game_of_tree t) strategies (Ok tt) → IsAnswered (form_over t strategies)
over-answered t strategies w a within =
    let g = game_of_tree t in
    let profiles = profile_count (map length strategies) in
    let payoffs = first_cells g strategies profiles in
    such_that-answered (λ form. IsReducedForm t form × (form.choices ≡ strategies)) (λ none.
    none (record { choices = strategies; table = form_table t strategies payoffs }) (
      form-is_form t strategies payoffs (form_table t strategies payoffs) w a refl (omega (arith, length-first_cells g strategies profiles)) (few_payoffs g strategies within) (first_cells-are g strategies profiles),
      refl,
    ))

pub form_of-answered : (t : GameTree) → is_game_tree (game_of_tree t) → IsAnswered (reduced_form_of t)
form_of-answered t w =
    let g = game_of_tree t in
    bind-answered (strategies_of g) (λ s. within_limits g s >> (cells_in g s >> form_over t s)) (strategies-answered g w)
    (λ s a. bind-answered (within_limits g s) (λ _. cells_in g s >> form_over t s) (within-answered g s)
    (λ _ within. bind-answered (cells_in g s) (λ _. form_over t s) (cells-answered g s) (λ _ _. over-answered t s w a within)))
