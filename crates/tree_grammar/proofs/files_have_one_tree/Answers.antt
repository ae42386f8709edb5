use Rattle.tree_grammar.proofs.FileLaws.{one_tree}
use Rattle.tree_grammar.proofs.files_have_one_tree.Goals as goal

pub returns : goal.returns
returns c = one_tree
