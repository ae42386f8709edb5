use Rattle.std.proofs.Common.{ℕ, ◌≡◌, ◌∙◌, ◌++◌, Bool, true, false, List, length, take, drop, get_or, sym, ap, subst₂, refl, arith}
use Rattle.std.specs.Prelude.{replicate}
use Rattle.std.proofs.lemmas.List.{length-replicate}
use Rattle.std.proofs.Math.Seq.{take-append_seam}
use Rattle.game_core.specs.TreeGame.{game_of_tree}
use Rattle.enumpure_trees.specs.PassingNumbers.{ArePassing}
use Rattle.enumpure_trees.proofs.ColumnLemmas.{AreColumnsOf-read, few_at_nodes, game_at}
use Rattle.enumpure_trees.proofs.KeptChoiceLemmas.{ArePassing-from_columns}
use Rattle.enumpure_trees.proofs.passing.passing_choices.Goals as goal
use Rattle.enumpure_trees.proofs.passing.passing_choices.Goals.{After-as_mut_slice-room, then-agents+in_ok-owners, else-agents+in_ok-all+in_ok-counts}

-- at first all choices are there
all_there : (c : After-as_mut_slice-room) → c.as_mut_slice-room.result.now ≡ replicate c.args.choices.number true
all_there c = c.as_mut_slice-room.ensures.value ∙ (c.in_ok-passing.ensures {u = tt}).items_if_clones_equal (λ y h. h)

pub keep_mutual_at_all-requires-clause-fits : goal.keep_mutual_at_all-requires-clause-fits
keep_mutual_at_all-requires-clause-fits c =
    omega (arith, few_at_nodes (game_of_tree c.args.tree.now) c.args.nodes.now _ c.stands_for_game_tree.ensures.game c.requires.few (ap length c.players.ensures.players))

pub keep_mutual_at_all-requires-clause-payoffs : goal.keep_mutual_at_all-requires-clause-payoffs
keep_mutual_at_all-requires-clause-payoffs c =
    let g = game_of_tree c.args.tree.now in
    let here = (goal.at.keep_mutual_at_all-requires-clause-payoffs c).After-as_mut_slice-room in
    let count = ap length (all_there here) ∙ length-replicate c.args.choices.number true ∙ c.requires.number in (
      λ p. game_at true g (get_or c.args.nodes.now p 0),
      AreColumnsOf-read true g c.args.nodes.now _ _ _ _ c.stands_for_game_tree.ensures.game c.requires.values refl (ap length c.players.ensures.players) (c.deref.ensures.value ∙ c.in_ok-owners.ensures {u = tt}) c.requires.counts count,
    )

pub keep_mutual_at_all-requires-else-agents-clause-fits : goal.keep_mutual_at_all-requires-else-agents-clause-fits
keep_mutual_at_all-requires-else-agents-clause-fits c =
    omega (arith, few_at_nodes (game_of_tree c.args.tree.now) c.args.nodes.now _ c.stands_for_game_tree.ensures.game c.requires.few (ap length c.players.ensures.players))

pub keep_mutual_at_all-requires-else-agents-clause-payoffs : goal.keep_mutual_at_all-requires-else-agents-clause-payoffs
keep_mutual_at_all-requires-else-agents-clause-payoffs c =
    let g = game_of_tree c.args.tree.now in
    let here = (goal.at.keep_mutual_at_all-requires-else-agents-clause-payoffs c).After-as_mut_slice-room in
    let count = ap length (all_there here) ∙ length-replicate c.args.choices.number true ∙ c.requires.number in (
      λ p. game_at false g (get_or c.args.nodes.now p 0),
      AreColumnsOf-read false g c.args.nodes.now _ _ _ _ c.stands_for_game_tree.ensures.game c.requires.values refl (ap length c.players.ensures.players) (c.deref-else-agents.ensures.value ∙ c.in_ok-all.ensures {u = tt}) (c.deref-else-agents-2.ensures.value ∙ c.in_ok-counts.ensures {u = tt}) count,
    )

-- what the lent choices are once they are handed back
handed_back : (c : After-as_mut_slice-room) (new : List Bool) → length new ≡ length c.as_mut_slice-room.result.now → take c.in_ok-passing.passing.len (new ++ drop (length new) c.in_ok-passing.passing.items) ≡ new
handed_back c new long = ap (λ m. take m (new ++ drop (length new) c.in_ok-passing.passing.items)) (sym (long ∙ c.as_mut_slice-room.ensures.len)) ∙ take-append_seam new _

pub returns : goal.returns
returns c =
    let g = game_of_tree c.args.tree.now in
    let nodes : List ℕ = c.args.nodes.now in
    let w = c.stands_for_game_tree.ensures.game in
    let here = (goal.at.returns c).After-as_mut_slice-room in
    let all = all_there here ∙ ap (λ n. replicate n true) c.requires.number in
    let players = ap length c.players.ensures.players in
    elim c.if-agents.branch [
      | then-agents+in_ok-owners v ↦
          let passing = ArePassing-from_columns true g nodes _ _ _ _ _ w c.requires.values refl players (v.deref.ensures.value ∙ v.in_ok-owners.ensures {u = tt}) c.requires.counts all v.keep_mutual_at_all.auto.passing v.keep_mutual_at_all.ensures in
          subst₂ (λ a xs. ArePassing a g nodes xs) (sym v.if-agents.true) (sym (ap (λ x. x.items) v.passing-is ∙ handed_back here _ v.keep_mutual_at_all.auto.passing)) passing
      | else-agents+in_ok-all+in_ok-counts v ↦
          let long = v.keep_mutual_at_all-else-agents.auto.passing in
          let passing = ArePassing-from_columns false g nodes _ _ _ _ _ w c.requires.values refl players (v.deref-else-agents.ensures.value ∙ v.in_ok-all.ensures {u = tt}) (v.deref-else-agents-2.ensures.value ∙ v.in_ok-counts.ensures {u = tt}) all long v.keep_mutual_at_all-else-agents.ensures in
          subst₂ (λ a xs. ArePassing a g nodes xs) (sym v.if-agents.false) (sym (ap (λ x. x.items) v.passing-is ∙ handed_back here _ long)) passing
    ]
