use Rattle.std.proofs.Common.{ℕ, ◌<◌, ◌≡◌, ◌∙◌, Option, List, [], get_or, length, map, replicate, sym, ap, subst, subst₂, arith}
use Rattle.std.proofs.lemmas.List.{length-map}
use Rattle.lists.proofs.ElementLemmas.{part-read}
use Rattle.game_core.specs.Tree.{IsGameTree}
use Rattle.game_core.specs.TreeGame.{game_of_tree}
use Rattle.subgames.specs.CutParts.{AreSetNames, cut_set}
use Rattle.subgames.specs.CutTrees.{IsCutAt}
use Rattle.subgames.specs.FoundSubgames.{AreRootMarks}
use Rattle.subgames.specs.MadeCuts.{worth_at}
use Rattle.subgames.proofs.CutListLemmas.{found-nodes}
use Rattle.subgames.proofs.CutWalkLemmas.{AreCutNodes, nodes-within}
use Rattle.subgames.proofs.CutValidLemmas.{cut_tree, names_within, sets_within}
use Rattle.subgames.proofs.cuts.Subgames.cut_at.Goals as goal
use Rattle.subgames.proofs.cuts.Subgames.cut_at.Goals.{After-as_slice-cut, After-as_slice-named}

-- the nodes that were read are those of the cut, with some indices
are_nodes : (c : After-as_slice-cut) → (indices : List (Option ℕ)) × AreCutNodes (game_of_tree c.args.tree.now) c.args.root c.as_slice-cut.result.now indices
are_nodes c =
    let cuts = c.self.inside.cuts.items in
    let below : c.args.root < length cuts = omega (arith, c.requires.within, c.requires.subgames.cuts.one_for_each, ap (λ found. length found.cuts) c.self.view_is, length-map cuts (λ v. v.items)) in
    let read : c.as_slice-cut.result.now ≡ get_or c.args.self.now.cuts c.args.root [] =
    c.as_slice-cut.ensures.value ∙ c.in_ok-nodes.ensures.items_if_clones_equal (λ x y e. e) ∙ c.as_slice.ensures.value
    ∙ part-read (λ v. v.items) cuts c.args.root c.index.result.now [] below c.index.ensures ∙ ap (λ found. get_or found.cuts c.args.root []) c.self.view_is in
    found-nodes c.args.tree.now c.args.root c.args.self.now c.as_slice-cut.result.now c.requires.subgames c.requires.within c.requires.root read

-- the marks that were read tell where subgames begin
are_marks : (c : After-as_slice-cut) → AreRootMarks (game_of_tree c.args.tree.now) c.as_slice-begins.result.now
are_marks c =
    subst (AreRootMarks (game_of_tree c.args.tree.now)) (ap (λ found. found.begins) (sym c.self.view_is) ∙ sym c.as_slice-begins.ensures.value) c.requires.subgames.marks

-- the sets that were named are those of the cut
are_sets : (c : After-as_slice-named) → AreSetNames (map (cut_set (game_of_tree c.args.tree.now) c.as_slice-begins.result.now c.args.root) c.as_slice-cut.result.now) c.as_slice-named.result.now c.as_slice-whole.result.now
are_sets c =
    let keys = map (cut_set (game_of_tree c.args.tree.now) c.as_slice-begins.result.now c.args.root) c.as_slice-cut.result.now in
    subst₂ (AreSetNames keys) (sym c.as_slice-named.ensures.value) (sym c.as_slice-whole.ensures.value) (c.in_ok-sets.ensures {u = tt})

pub cut_sets-requires-clause-within : goal.cut_sets-requires-clause-within
cut_sets-requires-clause-within c =
    let b = (goal.at.cut_sets-requires-clause-within c).After-as_slice-cut in
    nodes-within (game_of_tree c.args.tree.now) c.args.root c.as_slice-cut.result.now (are_nodes b).0 (are_nodes b).1

pub made_nodes-requires-clause-nodes : goal.made_nodes-requires-clause-nodes
made_nodes-requires-clause-nodes c =
    let b = (goal.at.made_nodes-requires-clause-nodes c).After-as_slice-cut in
    nodes-within (game_of_tree c.args.tree.now) c.args.root c.as_slice-cut.result.now (are_nodes b).0 (are_nodes b).1

pub made_outcomes-requires-clause-nodes : goal.made_outcomes-requires-clause-nodes
made_outcomes-requires-clause-nodes c =
    let b = (goal.at.made_outcomes-requires-clause-nodes c).After-as_slice-cut in
    nodes-within (game_of_tree c.args.tree.now) c.args.root c.as_slice-cut.result.now (are_nodes b).0 (are_nodes b).1

pub cut_sets-requires-clause-few : goal.cut_sets-requires-clause-few
cut_sets-requires-clause-few c =
    let b = (goal.at.cut_sets-requires-clause-few c).After-as_slice-cut in
    (are_nodes b).1.no_more

pub made_nodes-requires-clause-few : goal.made_nodes-requires-clause-few
made_nodes-requires-clause-few c =
    let b = (goal.at.made_nodes-requires-clause-few c).After-as_slice-cut in
    (are_nodes b).1.no_more

pub made_nodes-requires-clause-ascending : goal.made_nodes-requires-clause-ascending
made_nodes-requires-clause-ascending c =
    let b = (goal.at.made_nodes-requires-clause-ascending c).After-as_slice-cut in
    (are_nodes b).1.are_nodes.ascending

pub made_nodes-requires-clause-sets : goal.made_nodes-requires-clause-sets
made_nodes-requires-clause-sets c =
    let b = (goal.at.made_nodes-requires-clause-sets c).After-as_slice-cut in
    let n = (goal.at.made_nodes-requires-clause-sets c).After-as_slice-named in
    sets_within c.args.tree.now c.stands_for_game_tree.ensures.valid c.stands_for_game_tree.ensures.game c.as_slice-begins.result.now c.args.root c.as_slice-cut.result.now (are_nodes b).0 (are_marks b) c.requires.within (are_nodes b).1 c.as_slice-whole.result.now c.as_slice-named.result.now (are_sets n) c.args.worth.now

pub made_sets-requires-clause-sets : goal.made_sets-requires-clause-sets
made_sets-requires-clause-sets c =
    let b = (goal.at.made_sets-requires-clause-sets c).After-as_slice-cut in
    let n = (goal.at.made_sets-requires-clause-sets c).After-as_slice-named in
    sets_within c.args.tree.now c.stands_for_game_tree.ensures.valid c.stands_for_game_tree.ensures.game c.as_slice-begins.result.now c.args.root c.as_slice-cut.result.now (are_nodes b).0 (are_marks b) c.requires.within (are_nodes b).1 c.as_slice-whole.result.now c.as_slice-named.result.now (are_sets n) c.args.worth.now

pub made_nodes-requires-clause-names : goal.made_nodes-requires-clause-names
made_nodes-requires-clause-names c =
    let b = (goal.at.made_nodes-requires-clause-names c).After-as_slice-cut in
    let n = (goal.at.made_nodes-requires-clause-names c).After-as_slice-named in
    names_within c.args.tree.now c.stands_for_game_tree.ensures.valid c.stands_for_game_tree.ensures.game c.as_slice-begins.result.now c.args.root c.as_slice-cut.result.now (are_nodes b).0 (are_marks b) c.requires.within (are_nodes b).1 c.as_slice-whole.result.now c.as_slice-named.result.now (are_sets n) c.args.worth.now

pub made_sets-requires-clause-names : goal.made_sets-requires-clause-names
made_sets-requires-clause-names c =
    let b = (goal.at.made_sets-requires-clause-names c).After-as_slice-cut in
    let n = (goal.at.made_sets-requires-clause-names c).After-as_slice-named in
    names_within c.args.tree.now c.stands_for_game_tree.ensures.valid c.stands_for_game_tree.ensures.game c.as_slice-begins.result.now c.args.root c.as_slice-cut.result.now (are_nodes b).0 (are_marks b) c.requires.within (are_nodes b).1 c.as_slice-whole.result.now c.as_slice-named.result.now (are_sets n) c.args.worth.now

pub made_sets-requires-clause-few : goal.made_sets-requires-clause-few
made_sets-requires-clause-few c =
    let b = (goal.at.made_sets-requires-clause-few c).After-as_slice-cut in
    let n = (goal.at.made_sets-requires-clause-few c).After-as_slice-named in
    omega (arith, (are_sets n).one_for_each, length-map c.as_slice-cut.result.now (cut_set (game_of_tree c.args.tree.now) c.as_slice-begins.result.now c.args.root), (are_nodes b).1.no_more, c.stands_for_game_tree.ensures.valid.few_nodes)

pub new-requires-2 : goal.new-requires-2
new-requires-2 c =
    let b = (goal.at.new-requires-2 c).After-as_slice-cut in
    let n = (goal.at.new-requires-2 c).After-as_slice-named in
    let made = cut_tree c.args.tree.now c.stands_for_game_tree.ensures.valid c.stands_for_game_tree.ensures.game c.as_slice-begins.result.now c.args.root c.as_slice-cut.result.now (are_nodes b).0 (are_marks b) c.requires.within (are_nodes b).1 c.as_slice-whole.result.now c.as_slice-named.result.now (are_sets n) c.args.worth.now
    c.new-title.result c.in_ok-players.players.items c.in_ok-new_nodes.new_nodes.items c.in_ok-new_sets.new_sets.items c.in_ok-outcomes.outcomes.items
    (c.new-title.ensures ∙ c.new.ensures.items) ((c.in_ok-players.ensures {u = tt}) ∙ ap (λ names. replicate (length names) []) c.players.ensures.players)
    (c.in_ok-new_nodes.ensures {u = tt} (are_nodes b).0 (are_nodes b).1.indices_are) (c.in_ok-new_sets.ensures {u = tt}) (c.in_ok-outcomes.ensures {u = tt}) in
    subst IsGameTree made.1 made.2.is_cut.is_tree

pub returns : goal.returns
returns c =
    let b = (goal.at.returns c).After-as_slice-cut in
    let n = (goal.at.returns c).After-as_slice-named in
    let made = cut_tree c.args.tree.now c.stands_for_game_tree.ensures.valid c.stands_for_game_tree.ensures.game c.as_slice-begins.result.now c.args.root c.as_slice-cut.result.now (are_nodes b).0 (are_marks b) c.requires.within (are_nodes b).1 c.as_slice-whole.result.now c.as_slice-named.result.now (are_sets n) c.args.worth.now
    c.new-title.result c.in_ok-players.players.items c.in_ok-new_nodes.new_nodes.items c.in_ok-new_sets.new_sets.items c.in_ok-outcomes.outcomes.items
    (c.new-title.ensures ∙ c.new.ensures.items) ((c.in_ok-players.ensures {u = tt}) ∙ ap (λ names. replicate (length names) []) c.players.ensures.players)
    (c.in_ok-new_nodes.ensures {u = tt} (are_nodes b).0 (are_nodes b).1.indices_are) (c.in_ok-new_sets.ensures {u = tt}) (c.in_ok-outcomes.ensures {u = tt}) in
    let worth = worth_at (length c.args.tree.now.players) c.args.worth.now in
    let cut = subst (IsCutAt c.args.tree.now c.args.root worth c.as_slice-cut.result.now c.as_slice-whole.result.now) (made.1 ∙ sym (c.in_ok-tree.ensures {u = tt})) made.2 in
    subst₂ (λ nodes sets. IsCutAt c.args.tree.now c.args.root worth nodes sets c.in_ok-tree.tree) c.as_slice-cut.ensures.value c.as_slice-whole.ensures.value cut
