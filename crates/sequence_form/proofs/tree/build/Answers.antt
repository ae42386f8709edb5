use Rattle.std.proofs.Common.{◌<◌, ◌∙◌, All, List, ap, sym, subst, length, arith}
use Rattle.std.proofs.lemmas.Result.{err_from_is_err_and}
use Rattle.game_core.specs.TreeGame.{game_of_tree}
use Rattle.sequence_forms.specs.Sequences.{side_of}
use Rattle.sequence_forms.specs.Sides.{sequences}
use Rattle.sequence_forms.proofs.SetOrderLemmas.{trees_ordered}
use Rattle.sequence_data.specs.Data.{IsSideData, LeafFits}
use Rattle.sequence_data.specs.declared.types.Leaf.{Leaf}
use Rattle.sequence_form.proofs.BuiltFormLemmas.{tree-gives, tree-stop}
use Rattle.sequence_form.proofs.PathStepLemmas.{leaves-fit, some-leaf}
use Rattle.sequence_form.proofs.SideLemmas.{side-is_data}
use Rattle.sequence_form.proofs.tree.build.Goals as goal

pub of_leaves-requires-clause-first : goal.of_leaves-requires-clause-first
of_leaves-requires-clause-first c =
    let g = game_of_tree c.args.tree.now in
    let w = c.stands_for_game_tree.ensures.game in
    let two = ap length (sym c.players-players.ensures.players) ∙ c.if-players-ne2.false in
    subst IsSideData (sym c.in_ok-first.ensures) (side-is_data g 0 w (trees_ordered g 0 w (c.requires.all_recall 0 (omega (arith, two))) c.stands_for_game_tree.ensures.numbered))

pub of_leaves-requires-clause-second : goal.of_leaves-requires-clause-second
of_leaves-requires-clause-second c =
    let g = game_of_tree c.args.tree.now in
    let w = c.stands_for_game_tree.ensures.game in
    let two = ap length (sym c.players-players.ensures.players) ∙ c.if-players-ne2.false in
    subst IsSideData (sym c.in_ok-second.ensures) (side-is_data g 1 w (trees_ordered g 1 w (c.requires.all_recall 1 (omega (arith, two))) c.stands_for_game_tree.ensures.numbered))

pub of_leaves-requires-clause-some_leaf : goal.of_leaves-requires-clause-some_leaf
of_leaves-requires-clause-some_leaf c = subst (λ (xs : List Leaf). 0 < length xs) (sym c.in_ok-leaves.ensures) (some-leaf (game_of_tree c.args.tree.now) c.stands_for_game_tree.ensures.game)

pub of_leaves-requires-clause-leaves_fit : goal.of_leaves-requires-clause-leaves_fit
of_leaves-requires-clause-leaves_fit c =
    let g = game_of_tree c.args.tree.now in
    let rows = ap (λ s. s.sequences) c.in_ok-first.ensures in
    let columns = ap (λ s. s.sequences) c.in_ok-second.ensures in
    let fit = subst (λ n. All (LeafFits n (sequences (side_of g 1))) c.in_ok-leaves.leaves.items) (sym rows) (subst (All (LeafFits (sequences (side_of g 0)) (sequences (side_of g 1)))) (sym c.in_ok-leaves.ensures) (leaves-fit g c.stands_for_game_tree.ensures.game)) in
    subst (λ n. All (LeafFits c.in_ok-first.first.sequences n) c.in_ok-leaves.leaves.items) (sym columns) fit

pub returns-in_err-paths : goal.returns-in_err-paths
returns-in_err-paths c =
    let two = ap length (sym c.players-players.ensures.players) ∙ c.if-players-ne2.false in
    let p = err_from_is_err_and c.from_residual-in_err-paths.result c.from_residual-in_err-paths.ensures.1 in
    rw (p.1, p.2) (tree-stop c.args.tree.now two c.in_err-paths.field-0.0 c.in_err-paths.ensures.steps)

pub returns : goal.returns
returns c =
    let two = ap length (sym c.players-players.ensures.players) ∙ c.if-players-ne2.false in
    tree-gives c.args.tree.now two c.in_ok-first.first c.in_ok-second.second c.in_ok-leaves.leaves.items c.of_leaves.result c.in_ok-first.ensures c.in_ok-second.ensures c.in_ok-leaves.ensures c.in_ok-paths.ensures.steps c.of_leaves.ensures
