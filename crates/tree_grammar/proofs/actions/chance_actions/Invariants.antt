use Rattle.std.proofs.Common.{◌≡◌, length}
use Rattle.rational.specs.Rational.{zero_ℚ}
use Rattle.game_core.specs.TokenList.{bare}
use Rattle.tree_grammar.specs.TreeParsing.{parse_chances}
use Rattle.tree_grammar.proofs.ActionStepLemmas.{after_actions}
use Rattle.tree_grammar.proofs.actions.chance_actions.Given as goal

abbrev pub invariant-loop-name : goal.invariant-loop-name
invariant-loop-name l = after_actions l.actions.items (parse_chances l.set l.sum (bare l.rest)) ≡ parse_chances l.set zero_ℚ (bare l.tokens)

abbrev pub decreases-loop-name : goal.decreases-loop-name
decreases-loop-name l = length l.rest
