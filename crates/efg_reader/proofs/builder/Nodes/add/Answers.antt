use Rattle.std.proofs.Common.{◌≡◌, ◌≢◌, suc, None, Some, length, length-append, [], sym, ap, ◌∙◌, subst, arith}
use Rattle.written_trees.specs.Building.{passed}
use Rattle.efg_reader.specs.PartialCodes.{PartialNodes}
use Rattle.efg_reader.specs.States.{branchings_of, nodes_of, tree_of}
use Rattle.tree_grammar.specs.TreeParsing.{grown}
use Rattle.efg_reader.proofs.OpenBranchLemmas.{near_after, few_next, grown_is, room_for, some_taken}
use Rattle.efg_reader.proofs.builder.Nodes.add.Goals as goal

pub take_branch-requires : goal.take_branch-requires
take_branch-requires c =
    let kept = nodes_of c.self.inside.list.items c.self.inside.branchings.items in
    record { next = few_next (tree_of kept [] []) c.self.inside.branchings.items (subst (λ (nodes : PartialNodes). passed (tree_of nodes [] []) ≡ None) (sym c.self.view_is) c.requires.room) c.self.invariant.near }

pub unreachable-requires : goal.unreachable-requires
unreachable-requires c = some_taken (branchings_of c.self.inside.branchings.items) _ (subst (λ (nodes : PartialNodes). nodes.branchings ≢ []) (sym c.self.view_is) c.requires.free) c.in_default.ensures

pub invariant_of-result : goal.invariant_of-result
invariant_of-result c =
    let kept = nodes_of c.self.inside.list.items c.self.inside.branchings.items in
    let longer : length c.push.new.self.items ≡ suc (length c.self.inside.list.items) = ap length c.in_ok-push.ensures.items ∙ length-append c.self.inside.list.items _ ∙ omega arith in
    let room : passed (tree_of kept [] []) ≡ None = subst (λ (nodes : PartialNodes). passed (tree_of nodes [] []) ≡ None) (sym c.self.view_is) c.requires.room in
    record {
      few = omega (arith, longer, (room_for (tree_of kept [] []) c.in-Some.branching (branchings_of c.take_branch.new.branchings.items) room c.in-Some.ensures).0);
      near = near_after (tree_of kept [] []) c.in-Some.branching c.take_branch.new.branchings.items c.add_branches.new.branchings.items c.len-number.result c.count-count.result c.push.new.self.items longer room c.self.invariant.near c.in-Some.ensures c.in_ok-add_branches.ensures;
    }

pub returns-clause-grown : goal.returns-clause-grown
returns-clause-grown c = λ outcomes.
    let kept = nodes_of c.self.inside.list.items c.self.inside.branchings.items in
    subst (λ (nodes : PartialNodes). grown (tree_of nodes c.args.sets.now outcomes) c.args.used.kind c.args.used.set c.args.outcome ≡ Some (tree_of (nodes_of c.push.new.self.items c.add_branches.new.branchings.items) c.args.sets.now outcomes)) c.self.view_is
    (grown_is kept c.args.sets.now outcomes c.args.used.kind c.args.used.set c.args.outcome c.in-Some.branching c.take_branch.new.branchings.items c.add_branches.new.branchings.items c.push.new.self.items c.len-number.result c.count-count.result (c.len-number.ensures ∙ c.self.inside.list.ok.0) c.count-count.ensures c.in-Some.ensures c.in_ok-add_branches.ensures c.in_ok-push.ensures.items)

pub returns-clause-longer : goal.returns-clause-longer
returns-clause-longer c =
    let longer : length c.push.new.self.items ≡ suc (length c.self.inside.list.items) = ap length c.in_ok-push.ensures.items ∙ length-append c.self.inside.list.items _ ∙ omega arith in
    longer ∙ ap (λ (nodes : PartialNodes). suc (length nodes.list)) c.self.view_is
