use Rattle.std.proofs.Common.{◌∙◌, ap, nat_eq, length}
use Rattle.written_trees.specs.Building.{PartialTree}
use Rattle.efg_reader.specs.PartialCodes.{PartialNodes}
use Rattle.tree_grammar.specs.TreeParsing.{is_whole}
use Rattle.efg_reader.proofs.NodesLoopLemmas.{whole_by_kept}
use Rattle.efg_reader.proofs.builder.Builder.is_whole.Goals as goal

pub returns : goal.returns
returns c =
    whole_by_kept c.nodes.inside.branchings c.is_empty.result c.is_empty.ensures
    ∙ ap (λ (n : PartialNodes). nat_eq (length n.branchings) 0) c.nodes.view_is
    ∙ ap (λ (t : PartialTree). is_whole t) c.self.view_is
