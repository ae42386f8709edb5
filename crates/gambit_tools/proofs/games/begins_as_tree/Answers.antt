use Rattle.std.proofs.Common.{◌∙◌, sym, arith}
use Rattle.gambit_tools.proofs.TreeTokenLemmas.{are_few, begins_by_first}
use Rattle.gambit_tools.proofs.games.begins_as_tree.Goals as goal

pub returns-in-Some : goal.returns-in-Some
returns-in-Some c = record {
  begins = begins_by_first c.args.tokens.now c.in-Some.spanned.now c.in-Some.field-0-1.now c.is_tree_word.result (sym c.list.ensures.list ∙ c.in-Some.ensures.cases.0) c.is_tree_word.ensures;
  few = omega (arith, are_few 0 c.args.tokens.now.length c.args.tokens.now.list c.list.ensures.are_spaced);
}
