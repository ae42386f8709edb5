use Rattle.std.proofs.Common.{subst, sym, arith}
use Rattle.game_core.specs.TreeGame.{game_of_tree}
use Rattle.perfect_recall.proofs.HistoryLemmas.{before_set}
use Rattle.perfect_recall.proofs.MemberLemmas.{AreMembers, members-at}
use Rattle.perfect_recall.proofs.find.edge_before_set.Goals as goal

pub bounds-members-0 : goal.bounds-members-0
bounds-members-0 c =
    let found = members-at c.args.tree.now c.sets.result.now c.args.number c.index-sets-number.result c.sets.ensures.valid c.sets.ensures.sets c.requires.set c.index-sets-number.is in
    rw c.members-members.ensures found.1.some

pub bounds-edges-members : goal.bounds-edges-members
bounds-edges-members c =
    let found = members-at c.args.tree.now c.sets.result.now c.args.number c.index-sets-number.result c.sets.ensures.valid c.sets.ensures.sets c.requires.set c.index-sets-number.is in
    let members = subst (AreMembers (game_of_tree c.args.tree.now) c.args.number) (sym c.members-members.ensures) found.1 in
    let here = members.are_nodes 0 members.some in
    omega (arith, here.0, c.requires.length)

pub returns : goal.returns
returns c =
    let found = members-at c.args.tree.now c.sets.result.now c.args.number c.index-sets-number.result c.sets.ensures.valid c.sets.ensures.sets c.requires.set c.index-sets-number.is in
    let members = subst (AreMembers (game_of_tree c.args.tree.now) c.args.number) (sym c.members-members.ensures) found.1 in
    before_set (game_of_tree c.args.tree.now) c.args.number c.members-members.result.now c.args.edges.now c.requires.recall members c.requires.length c.requires.edges
