use Rattle.std.proofs.Common.{◌≡◌, drop}
use Rattle.game_core.specs.TokenList.{bare}
use Rattle.tree_grammar.specs.TreeParsing.{parse_all_repeated}
use Rattle.tree_grammar.proofs.actions.all_repeated.Given as goal

abbrev pub invariant-loop-action : goal.invariant-loop-action
invariant-loop-action l = parse_all_repeated l.owner (drop l.action-index l.actions) (bare l.rest) ≡ parse_all_repeated l.owner l.actions (bare l.tokens)
