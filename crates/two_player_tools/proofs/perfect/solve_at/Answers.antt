use Rattle.std.proofs.Common.{length, subst}
use Rattle.subgames.specs.CutTrees.{IsCutAt}
use Rattle.subgames.specs.MadeCuts.{worth_at}
use Rattle.two_player_tools.proofs.perfect.solve_at.Goals as goal

pub solve_and_keep-requires-clause-cut : goal.solve_and_keep-requires-clause-cut
solve_and_keep-requires-clause-cut c =
    let t = c.args.tree.now in
    let made = c.in_ok-cut.cut in
    subst (λ all. IsCutAt t c.args.root (worth_at (length t.players) all) made.nodes made.sets made.tree) c.as_slice.ensures.value c.in_ok-cut.ensures
