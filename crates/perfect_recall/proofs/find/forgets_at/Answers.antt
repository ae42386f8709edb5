use Rattle.std.proofs.Common.{◌∙◌, subst, sym, arith}
use Rattle.game_core.specs.TreeGame.{game_of_tree}
use Rattle.perfect_recall.proofs.OneRecallLaws.{owner-at}
use Rattle.perfect_recall.proofs.HistoryLemmas.{alike, first_member, first_other}
use Rattle.perfect_recall.proofs.MemberLemmas.{AreMembers, members-at}
use Rattle.perfect_recall.proofs.find.forgets_at.Goals as goal

pub other_member-requires-clause-some : goal.other_member-requires-clause-some
other_member-requires-clause-some c =
    let found = members-at c.args.tree.now c.sets.result.now c.args.number c.index-sets-number.result c.sets.ensures.valid c.sets.ensures.sets c.requires.set c.index-sets-number.is in
    rw c.members-members.ensures found.1.some

pub other_member-requires-clause-within : goal.other_member-requires-clause-within
other_member-requires-clause-within c = λ j l.
    let found = members-at c.args.tree.now c.sets.result.now c.args.number c.index-sets-number.result c.sets.ensures.valid c.sets.ensures.sets c.requires.set c.index-sets-number.is in
    let members = subst (AreMembers (game_of_tree c.args.tree.now) c.args.number) (sym c.members-members.ensures) found.1 in
    let here = members.are_nodes j l in
    omega (arith, here.0, c.requires.length)

pub returns-in_err-second_node-clause-player : goal.returns-in_err-second_node-clause-player
returns-in_err-second_node-clause-player c =
    let found = members-at c.args.tree.now c.sets.result.now c.args.number c.index-sets-number.result c.sets.ensures.valid c.sets.ensures.sets c.requires.set c.index-sets-number.is in
    let members = subst (AreMembers (game_of_tree c.args.tree.now) c.args.number) (sym c.members-members.ensures) found.1 in
    rw c.from_residual.ensures (alike (game_of_tree c.args.tree.now) c.args.player c.args.number c.members-members.result.now c.args.edges.now c.stands_for_game_tree.ensures.game c.stands_for_game_tree.ensures.numbered c.requires.own c.requires.earlier members c.requires.length c.requires.edges c.in_err-second_node.ensures)

pub returns-in_err-second_node-clause-forgets : goal.returns-in_err-second_node-clause-forgets
returns-in_err-second_node-clause-forgets c = rw c.from_residual.ensures (rw c.from_residual.ensures at (returns-in_err-second_node-clause-player c))

pub returns-clause-forgets : goal.returns-clause-forgets
returns-clause-forgets c =
    let g = game_of_tree c.args.tree.now in
    let found = members-at c.args.tree.now c.sets.result.now c.args.number c.index-sets-number.result c.sets.ensures.valid c.sets.ensures.sets c.requires.set c.index-sets-number.is in
    let members = subst (AreMembers g c.args.number) (sym c.members-members.ensures) found.1 in
    record {
      number = c.args.number;
      set = c.index-sets-number.result;
      stands_at = found.0;
      own = sym (owner-at c.args.tree.now c.args.number c.index-sets-number.result found.0) ∙ c.requires.own;
      sets_before = c.requires.earlier;
      label_is = c.label.ensures;
      first_is = first_member g c.args.number c.members-members.result.now members;
      second_is = first_other g c.args.player c.args.number c.members-members.result.now c.args.edges.now c.stands_for_game_tree.ensures.game c.stands_for_game_tree.ensures.numbered c.requires.own c.requires.earlier members c.requires.length c.requires.edges c.in_ok-second_node.second_node c.in_ok-second_node.ensures;
    }
