-- A tree has a text of the choices that pass, or a reason why it has none.
use Rattle.std.proofs.Common.{ℕ, Bool, List, Contains, refl}
use Rattle.answers.specs.Answers.{Answer, refused_by, such_that}
use Rattle.answers.specs.Answered.{IsAnswered}
use Rattle.answers.proofs.AnsweredLemmas.{bind-answered, refuse_where-answered, refused_by-answered, such_that-answered}
use Rattle.frac128.specs.FirstUnfit.{all_fit}
use Rattle.frac128.specs.Steps.{Step}
use Rattle.frac128.proofs.FirstUnfitLemmas.{all_fit-answered}
use Rattle.lists.proofs.DeniedLemmas.{flags_below, listed_below}
use Rattle.lists.proofs.ListedLemmas.{IsPassingBelow, listed-same}
use Rattle.game_core.specs.Limits.{counted_within, limited_text}
use Rattle.game_core.specs.Table.{most_payoffs}
use Rattle.game_core.specs.declared.too_large.TooLarge.{TooLarge}
use Rattle.game_core.specs.declared.too_large.What.TheVariants as what
use Rattle.game_theory.specs.Behaviour.{pure}
use Rattle.game_theory.specs.OwnSets.{action_counts}
use Rattle.game_theory.specs.Trees.{Tree, IsTree}
use Rattle.game_core.proofs.AnsweredLimitLemmas.{limited_text-answered}
use Rattle.enumpure_trees.specs.Choices.{numbered_choice, whole_choices}
use Rattle.enumpure_trees.specs.TestNodes.{AreTestNodes, IsTestedAt}
use Rattle.enumpure_trees.specs.PassingChoices.{IsTestedEquilibriumAt}
use Rattle.enumpure_trees.specs.PassingStops.{passing_text, values_in}
use Rattle.enumpure_trees.specs.PassingText.{IsPassingText}
use Rattle.enumpure_trees.specs.Values.{ValueIndex, value_count, value_indices, value_steps}
use Rattle.enumpure_trees.specs.declared.stop.ChoiceStop.{ChoiceStop}
use Rattle.enumpure_trees.specs.declared.stop.ChoiceStop.TheVariants as stops
use Rattle.enumpure_trees.proofs.PassingChoiceLemmas.{tested-below}
use Rattle.enumpure_trees.proofs.PassingLineLemmas.{IsPassingText-listed}

-- choices are tested at some nodes
some_nodes : (perfect : Bool) (t : Tree) → IsTree t → ¬ ((nodes : List ℕ) → ¬ (AreTestNodes perfect t nodes))
some_nodes perfect t w none =
    listed_below (IsTestedAt perfect t) t.size (λ nodes.
    none nodes.0 (listed-same (IsPassingBelow (IsTestedAt perfect t) t.size) (IsTestedAt perfect t) nodes.0 nodes.1 (λ k q. q.1) (λ k tested. (tested-below perfect t k w tested, tested))))

-- the values have an answer
values-answered : (t : Tree) (nodes : List ℕ) → IsAnswered (values_in t nodes)
values-answered t nodes =
    bind-answered (refused_by stops.TooLarge few) (λ _. refused_by told fit) (refused_by-answered stops.TooLarge few (refuse_where-answered _ _)) (λ _ _. refused_by-answered told fit (all_fit-answered (value_steps t) (value_indices t nodes)))
  where
    few : Answer TooLarge (Unit {0})
    few = counted_within what.Payoffs most_payoffs (value_count t nodes)

    told : ValueIndex × Step → ChoiceStop
    told stop = stops.Range stop.0.choice stop.0.node stop.0.player stop.1

    fit : Answer (ValueIndex × Step) (Unit {0})
    fit = all_fit (value_steps t) (value_indices t nodes)

-- the choices that pass have a text
some_text : (agents perfect : Bool) (t : Tree) (nodes : List ℕ) → IsTree t → AreTestNodes perfect t nodes → ¬ ((text : List ℕ) → ¬ (IsPassingText agents perfect t text))
some_text agents perfect t nodes w tested none =
    flags_below (λ n. (k : ℕ) → Contains nodes k → IsTestedEquilibriumAt agents t (pure (numbered_choice t n)) k) (whole_choices t) (λ passing.
    none _ (IsPassingText-listed agents perfect t nodes passing.0 w tested (record { of_each = passing.1.0; all_passing = passing.1.1 }) (action_counts t) refl))

pub passing_text-answered : (agents perfect : Bool) (t : Tree) → IsTree t → IsAnswered (passing_text agents perfect t)
passing_text-answered agents perfect t w =
    bind-answered (such_that (AreTestNodes perfect t)) _ (such_that-answered (AreTestNodes perfect t) (some_nodes perfect t w)) (λ nodes tested.
    bind-answered (values_in t nodes) _ (values-answered t nodes) (λ _ _.
    bind-answered (such_that (IsPassingText agents perfect t)) (λ text. refused_by stops.TooLarge (limited_text text)) (such_that-answered (IsPassingText agents perfect t) (some_text agents perfect t nodes w tested)) (λ text _. refused_by-answered stops.TooLarge (limited_text text) (limited_text-answered text))))
