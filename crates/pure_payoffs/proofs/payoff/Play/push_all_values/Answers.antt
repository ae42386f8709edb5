use Rattle.std.proofs.Common.{◌∙◌, subst}
use Rattle.game_core.specs.Tree.{GameTree}
use Rattle.game_core.specs.TreeGame.{game_of_tree}
use Rattle.pure_payoffs.specs.Plays.{choice_of, game_of}
use Rattle.pure_payoffs.specs.Shortcuts.{HasRoom}
use Rattle.pure_payoffs.proofs.payoff.Play.push_all_values.Goals as goal

pub push_each-requires-clause-keep : goal.push_each-requires-clause-keep
push_each-requires-clause-keep c =
    let room = subst (λ (tree : GameTree). HasRoom (game_of_tree tree) c.shortcuts.inside.entries) (c.shortcuts.view_is ∙ c.requires.tree) c.shortcuts.invariant in
    c.forget.ensures (game_of c.args.self.now) (choice_of c.args.self.now) room
