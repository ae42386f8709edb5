-- A tree has one reduced form, or one reason at most why it has none.
use Rattle.std.proofs.Common.{ℕ, ◌+◌, ◌*◌, ◌<◌, ◌≡◌, List, [], length, map, get_or, sym, ap, ap₂, ◌∙◌, subst, arith}
use Rattle.std.proofs.lemmas.List.{ext_get_or}
use Rattle.std.proofs.lemmas.Option.{slice_get-get_or}
use Rattle.answers.specs.Answers.{◌>>◌, IsSingle}
use Rattle.answers.proofs.AnswerLemmas.{bind-single, refuse_where-single, refused_by-single, such_that-single}
use Rattle.rational.specs.Rational.{zero_ℚ}
use Rattle.game_theory.specs.Profiles.{profile_count}
use Rattle.game_theory.specs.Trees.{Tree}
use Rattle.reduced_strategies.specs.StrategicForm.{AreStrategies, strategic_form}
use Rattle.reduced_strategies.proofs.StrategyOrderLemmas.{strategies-determined}
use Rattle.game_core.specs.Limits.{counted_within}
use Rattle.game_core.specs.Table.{GameTable, most_payoffs}
use Rattle.game_core.specs.Tree.{GameTree}
use Rattle.game_core.specs.TreeGame.{game_of_tree}
use Rattle.game_core.specs.declared.too_large.What.TheVariants as what
use Rattle.game_core.proofs.SameTableLemmas.{payoffs-same, tables-same}
use Rattle.frac128.proofs.FirstUnfitLemmas.{all_fit-single}
use Rattle.reduced_form.specs.Limits.{cell_steps, cells, choice_count, most_choices, payoff_count}
use Rattle.reduced_form.specs.ReducedForm.{ReducedForm, IsReducedForm, strategy_name}
use Rattle.reduced_form.specs.Stops.{cells_in, form_over, reduced_form_of, strategies_of, within_limits}
use Rattle.reduced_form.specs.declared.stop.ReduceStop.TheVariants as stops
use Rattle.reduced_form.proofs.FormLaws.{counts-named}

-- the players have one list of strategies each
pub strategies-same : (t : Tree) (one other : List (List (List ℕ))) → AreStrategies t one → AreStrategies t other → one ≡ other
strategies-same t one other a b = ext_get_or [] one other (a.one_for_each ∙ sym b.one_for_each) (λ i l.
    strategies-determined t i (get_or one i []) (get_or other i []) (a.are_reduced i (get_or one i []) (slice_get-get_or one i [] l))
    (b.are_reduced i (get_or other i []) (slice_get-get_or other i [] (omega (arith, a.one_for_each, b.one_for_each)))))

-- ---- forms
-- a tree has one reduced form
pub forms-same : (t : GameTree) (one other : ReducedForm) → IsReducedForm t one → IsReducedForm t other → one ≡ other
forms-same t one other h g =
    let choices : one.choices ≡ other.choices = strategies-same (game_of_tree t) one.choices other.choices h.are_strategies g.are_strategies in
    let names : one.table.strategies ≡ other.table.strategies = h.names_are ∙ ap (map (map strategy_name)) choices ∙ sym g.names_are in
    let counts : map length other.table.strategies ≡ map length one.choices = ap (map length) (sym names) ∙ ap (map length) h.names_are ∙ counts-named one.choices in
    let profiles = profile_count (map length one.choices) in
    let long : length one.table.payoffs ≡ length t.players * profiles =
    h.is_table.payoffs_of_each ∙ ap₂ (λ n ns. n * profile_count ns) (ap length h.players_are) (ap (map length) h.names_are ∙ counts-named one.choices) in
    let short : length other.table.payoffs ≡ length t.players * profiles =
    g.is_table.payoffs_of_each ∙ ap₂ (λ n ns. n * profile_count ns) (ap length g.players_are) counts in
    let same : (i k : ℕ) → i < length t.players → k < profiles → get_or one.table.payoffs (k * length t.players + i) zero_ℚ ≡ get_or other.table.payoffs (k * length t.players + i) zero_ℚ = λ i k l b.
    let left = subst (λ n. get_or one.table.payoffs (k * n + i) zero_ℚ ≡ (strategic_form (game_of_tree t) one.choices).pays i k) (ap length h.players_are) (h.pays i k l b) in
    let below : k < profile_count (map length other.choices) = subst (λ c. k < profile_count (map length c)) choices b in
    let right = subst (λ n. get_or other.table.payoffs (k * n + i) zero_ℚ ≡ (strategic_form (game_of_tree t) other.choices).pays i k) (ap length g.players_are) (g.pays i k l below) in
    left ∙ ap (λ c. (strategic_form (game_of_tree t) c).pays i k) choices ∙ sym right in
    ap₂ form (tables-same one.table other.table (h.title_is ∙ sym g.title_is) (h.players_are ∙ sym g.players_are) names (payoffs-same (length t.players) profiles one.table.payoffs other.table.payoffs long short same)) choices
  where
    form : GameTable → List (List (List ℕ)) → ReducedForm
    form table choices = record { choices = choices; table = table }

-- ---- one answer
module _ (t : Tree) where
  strategies-single : IsSingle (strategies_of t)
  strategies-single = such_that-single (AreStrategies t) (strategies-same t)

  module _ (strategies : List (List (List ℕ))) where
    within-single : IsSingle (within_limits t strategies)
    within-single =
        let payoffs = counted_within what.Payoffs most_payoffs (payoff_count t strategies) in
        let choices = counted_within what.Choices most_choices (choice_count t strategies) in
        refused_by-single stops.TooLarge (payoffs >> choices) (bind-single payoffs (λ _. choices) (refuse_where-single _ _) (λ _ _. refuse_where-single _ _))

    cells-single : IsSingle (cells_in t strategies)
    cells-single =
        refused_by-single (λ stop. stops.Range stop.0.0 stop.0.1 stop.1) _
        (all_fit-single (λ cell. cell_steps t strategies cell.0 cell.1) (cells t strategies))

over-single : (t : GameTree) (strategies : List (List (List ℕ))) → IsSingle (form_over t strategies)
over-single t strategies =
    such_that-single (λ form. IsReducedForm t form × (form.choices ≡ strategies)) (λ one other h g. forms-same t one other h.0 g.0)

pub form_of-single : (t : GameTree) → IsSingle (reduced_form_of t)
form_of-single t =
    let g = game_of_tree t in
    bind-single (strategies_of g) (λ s. within_limits g s >> (cells_in g s >> form_over t s)) (strategies-single g)
    (λ s _. bind-single (within_limits g s) (λ _. cells_in g s >> form_over t s) (within-single g s)
    (λ _ _. bind-single (cells_in g s) (λ _. form_over t s) (cells-single g s) (λ _ _. over-single t s)))
