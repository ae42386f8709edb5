use Rattle.std.proofs.Common.{◌≡◌, ◌∙◌, ap, ap₂, sym, subst}
use Rattle.answers.specs.Answers.{map_ok}
use Rattle.rational.specs.Rational.{◌*ℚ◌}
use Rattle.game_core.specs.TreeGame.{game_of_tree}
use Rattle.sequence_forms.specs.Forms.{chance_of_path}
use Rattle.sequence_data.specs.Steps.{fit_at}
use Rattle.sequence_form.proofs.PathStepLemmas.{branch-below, chance-is, parent-chooses, parent-set}
use Rattle.sequence_form.proofs.paths.chance.Goals as goal
use Rattle.lists.proofs.OptionLemmas.{if_ok-then}

pub returns-in_default-clause-value : goal.returns-in_default-clause-value
returns-in_default-clause-value c =
    absurd (parent-chooses (game_of_tree c.args.tree.now) c.args.node c.parent.result c.stands_for_game_tree.ensures.game c.requires.later c.requires.node c.parent.ensures c.set_at.result c.set_at.ensures c.in_default.is)

pub probability-probability-requires-clause-action : goal.probability-probability-requires-clause-action
probability-probability-requires-clause-action c =
    branch-below (game_of_tree c.args.tree.now) c.args.node c.parent.result c.stands_for_game_tree.ensures.game c.requires.later c.requires.node c.parent.ensures c.set_at.result c.in-Some.set c.branch-tree.result c.set_at.ensures c.in-Some.is c.branch-tree.ensures

pub returns-in-Some-owner-clause-value : goal.returns-in-Some-owner-clause-value
returns-in-Some-owner-clause-value c =
    let g = game_of_tree c.args.tree.now in
    let at = parent-set g c.args.node c.parent.result c.stands_for_game_tree.ensures.game c.requires.later c.requires.node c.parent.ensures c.set_at.result c.in-Some.set c.set_at.ensures c.in-Some.is in
    c.requires.above ∙ sym ((c.paths_add_up.ensures g c.stands_for_game_tree.ensures.game).after_player c.args.node c.in-Some.set _ c.requires.later c.requires.node at (sym c.owner.ensures ∙ c.in-Some-owner.is))

pub returns-in-None-clause-value : goal.returns-in-None-clause-value
returns-in-None-clause-value c =
    let g = game_of_tree c.args.tree.now in
    let at = parent-set g c.args.node c.parent.result c.stands_for_game_tree.ensures.game c.requires.later c.requires.node c.parent.ensures c.set_at.result c.in-Some.set c.set_at.ensures c.in-Some.is in
    let whole = (c.paths_add_up.ensures g c.stands_for_game_tree.ensures.game).after_chance c.args.node c.in-Some.set c.requires.later c.requires.node at (sym c.owner.ensures ∙ c.in-None.is) in
    let probability = c.probability-probability.ensures ∙ ap (g.chance c.in-Some.set) c.branch-tree.ensures in
    if_ok-then c.product.result (λ v. v ≡ c.args.above *ℚ c.probability-probability.result) (λ v. v ≡ chance_of_path g c.args.node) c.product.ensures.value (λ v is. is ∙ ap₂ (λ x y. x *ℚ y) c.requires.above probability ∙ sym whole)

pub returns-in-None-clause-steps : goal.returns-in-None-clause-steps
returns-in-None-clause-steps c =
    let g = game_of_tree c.args.tree.now in
    let at = parent-set g c.args.node c.parent.result c.stands_for_game_tree.ensures.game c.requires.later c.requires.node c.parent.ensures c.set_at.result c.in-Some.set c.set_at.ensures c.in-Some.is in
    let probability = c.probability-probability.ensures ∙ ap (g.chance c.in-Some.set) c.branch-tree.ensures in
    subst (λ steps. fit_at c.args.node steps (map_ok c.product.result (λ _. tt))) (chance-is g c.args.node c.in-Some.set _ _ at (sym c.owner.ensures ∙ c.in-None.is) c.requires.above probability) c.product.ensures.steps
