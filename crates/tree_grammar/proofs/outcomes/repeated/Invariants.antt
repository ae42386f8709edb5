use Rattle.std.proofs.Common.{◌≡◌, drop}
use Rattle.game_core.specs.TokenList.{bare}
use Rattle.tree_grammar.specs.TreeParsing.{parse_same_payoffs}
use Rattle.tree_grammar.proofs.outcomes.repeated.Given as goal

abbrev pub invariant-loop-index : goal.invariant-loop-index
invariant-loop-index l = parse_same_payoffs l.index (drop l.index l.payoffs) (bare l.rest) ≡ parse_same_payoffs 0 l.payoffs (bare l.tokens)
