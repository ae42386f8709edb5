use Rattle.std.proofs.Common.{◌≡◌, ◌-◌}
use Rattle.game_core.specs.TokenList.{bare}
use Rattle.file_parts.specs.Parsing.{parse_each}
use Rattle.file_parts.proofs.ParseLemmas.{following}
use Rattle.tree_grammar.specs.TreeParsing.{parse_payoff}
use Rattle.tree_grammar.proofs.outcomes.payoffs.Given as goal

abbrev pub invariant-loop-index : goal.invariant-loop-index
invariant-loop-index l = following l.payoffs.items (parse_each parse_payoff l.index (l.players - l.index) (bare l.rest)) ≡ parse_each parse_payoff 0 l.players (bare l.tokens)
