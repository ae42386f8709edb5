use Rattle.std.proofs.Common.{◌/◌, ◌<◌, ◌≤◌, ◌≡◌, All, length, refl, sym, ap, subst, arith}
use Rattle.game_core.specs.Table.{most_payoffs}
use Rattle.game_core.specs.TreeGame.{game_of_tree}
use Rattle.game_theory.specs.Profiles.{profile_count}
use Rattle.enumpure_trees.specs.Choices.{whole_choices}
use Rattle.enumpure_trees.proofs.WholeChoiceLemmas.{one_choice, some_actions}
use Rattle.enumpure_trees.proofs.ValueCountLemmas.{above-quotient, within-quotient}
use Rattle.enumpure_trees.proofs.values.choice_count.Goals as goal

pub choices_within-requires : goal.choices_within-requires
choices_within-requires c = subst (All (λ n. 0 < n)) (sym c.requires.counts) (some_actions (game_of_tree c.args.tree.now) c.stands_for_game_tree.ensures.game)

pub returns-then-players-eq0-clause-choices : goal.returns-then-players-eq0-clause-choices
returns-then-players-eq0-clause-choices c =
    let none : length c.args.tree.now.players ≡ 0 = omega (arith, ap length c.players-players.ensures.players) in
    sym (one_choice (game_of_tree c.args.tree.now) none)

pub returns-in-Some-clause-within : goal.returns-in-Some-clause-within
returns-in-Some-clause-within c =
    let players = length c.args.tree.now.players in
    let nodes = length c.args.nodes.now in
    let some : 0 < players = omega (arith, ap length c.players-players.ensures.players) in
    let few : profile_count c.args.counts.now ≤ most_payoffs / players / nodes = subst (λ ps. profile_count c.args.counts.now ≤ most_payoffs / length ps / nodes) c.players-players.ensures.players (omega (arith, c.in-Some.ensures)) in
    let all = subst (λ ns. profile_count ns ≤ most_payoffs / players / nodes) c.requires.counts few in
    let within = within-quotient (whole_choices (game_of_tree c.args.tree.now)) most_payoffs players nodes some c.requires.some_node all in
    λ above. omega (arith, within, above)

pub returns-in-None-clause-within : goal.returns-in-None-clause-within
returns-in-None-clause-within c =
    let players = length c.args.tree.now.players in
    let nodes = length c.args.nodes.now in
    let some : 0 < players = omega (arith, ap length c.players-players.ensures.players) in
    let above : most_payoffs / players / nodes < profile_count c.args.counts.now = subst (λ ps. most_payoffs / length ps / nodes < profile_count c.args.counts.now) c.players-players.ensures.players c.in-None.ensures in
    let all = subst (λ ns. most_payoffs / players / nodes < profile_count ns) c.requires.counts above in
    (c.first_above.result, (above-quotient (whole_choices (game_of_tree c.args.tree.now)) most_payoffs players nodes some c.requires.some_node all, c.first_above.ensures), refl)
