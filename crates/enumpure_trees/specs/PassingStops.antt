-- The text of the choices that pass, or why there is none. Choices, nodes and players count from 0.
use Rattle.std.specs.Prelude.{ℕ, Bool, List}
use Rattle.answers.specs.Answers.{Answer, ◌>>=◌, ◌>>◌, refused_by, such_that}
use Rattle.frac128.specs.FirstUnfit.{all_fit}
use Rattle.game_core.specs.Limits.{counted_within, limited_text}
use Rattle.game_core.specs.Table.{most_payoffs}
use Rattle.game_core.specs.declared.too_large.What.TheVariants as what
use Rattle.game_theory.specs.Trees.{Tree}
use Rattle.enumpure_trees.specs.TestNodes.{AreTestNodes}
use Rattle.enumpure_trees.specs.PassingText.{IsPassingText}
use Rattle.enumpure_trees.specs.Values.{value_count, value_indices, value_steps}
use Rattle.enumpure_trees.specs.declared.stop.ChoiceStop.{ChoiceStop}
use Rattle.enumpure_trees.specs.declared.stop.ChoiceStop.TheVariants as stops

-- the values of the choices at these nodes are within the limit on payoffs, and their steps fit; or
-- the first step that does not
abbrev pub values_in : Tree → List ℕ → Answer ChoiceStop (Unit {0})
values_in t nodes = do
  refused_by stops.TooLarge (counted_within what.Payoffs most_payoffs (value_count t nodes))
  refused_by (λ stop. stops.Range stop.0.choice stop.0.node stop.0.player stop.1)
      (all_fit (value_steps t) (value_indices t nodes))

-- the text of the choices that pass, within the limit on texts
abbrev pub passing_text : (agents perfect : Bool) → Tree → Answer ChoiceStop (List ℕ)
passing_text agents perfect t = do
  nodes ← such_that (AreTestNodes perfect t)
  values_in t nodes
  text ← such_that (IsPassingText agents perfect t)
  refused_by stops.TooLarge (limited_text text)
