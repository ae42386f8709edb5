use Rattle.std.proofs.Common.{◌≡◌, ◌++◌, length, map}
use Rattle.game_core.specs.TokenList.{bare}
use Rattle.file_parts.specs.Reading.{texts_at}
use Rattle.tree_grammar.specs.TreeParsing.{own_action}
use Rattle.tree_grammar.proofs.actions.own_actions.Given as goal

abbrev pub invariant-loop-name : goal.invariant-loop-name
invariant-loop-name l = record {
  so_far : l.actions.items ++ map own_action (texts_at (bare l.rest)).0 ≡ map own_action (texts_at (bare l.tokens)).0;
  following : (texts_at (bare l.rest)).1 ≡ (texts_at (bare l.tokens)).1;
}

abbrev pub decreases-loop-name : goal.decreases-loop-name
decreases-loop-name l = length l.rest
