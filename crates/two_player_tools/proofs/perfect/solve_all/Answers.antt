use Rattle.std.proofs.Common.{◌+◌, ◌-◌, ◌<◌, ◌≡◌, ◌∙◌, map, length, ap, subst, arith}
use Rattle.behaviour_profile.specs.ListedBehaviour.{listed_behaviour}
use Rattle.game_core.specs.TreeGame.{game_of_tree}
use Rattle.game_theory.specs.TreeEntries.{tree_entries}
use Rattle.two_player_tools.specs.KnownCuts.{AreSolvedFrom}
use Rattle.two_player_tools.proofs.KnownCutLemmas.{perfect-all, perfect-stop, solved-passed}
use Rattle.two_player_tools.proofs.perfect.solve_all.Goals as goal

pub returns-in_err-solve_at : goal.returns-in_err-solve_at
returns-in_err-solve_at c =
    let t = c.args.tree.now in
    let root = c.loop-root.root - 1 in
    let known = c.loop-root.known in
    let below : root < length t.nodes = omega (arith, c.loop-root.invariant.within, c.loop-root-test.true) in
    let next : c.loop-root.root ≡ root + 1 = omega (arith, c.loop-root-test.true) in
    perfect-stop c.args.method t root known c.in_err-solve_at.field-0.0 c.from_residual.result below ((c.begins_at.ensures.root t c.requires.subgames below).0 c.if-begins_at.true)
    (subst (λ n. AreSolvedFrom c.args.method t n known) next c.loop-root.invariant.solved) c.in_err-solve_at.ensures.stops c.from_residual.ensures.1

pub loop-root-preserved : goal.loop-root-preserved
loop-root-preserved c =
    let t = c.args.tree.now in
    let root = c.loop-root.root - 1 in
    let known = c.loop-root.known in
    let below : root < length t.nodes = omega (arith, c.loop-root.invariant.within, c.loop-root-test.true) in
    let next : c.loop-root.root ≡ root + 1 = omega (arith, c.loop-root-test.true) in
    record {
      within = omega (arith, c.loop-root.invariant.within);
      solved = solved-passed c.args.method t root known (λ begins. cc ((c.begins_at.ensures.root t c.requires.subgames below).1 begins, c.if-begins_at.false))
          (subst (λ n. AreSolvedFrom c.args.method t n known) next c.loop-root.invariant.solved);
    }

pub returns : goal.returns
returns c =
    let t = c.args.tree.now in
    let known = c.loop-root.known in
    let first : c.loop-root.root ≡ 0 = omega (arith, c.loop-root-test.false) in
    perfect-all c.args.method t known c.in_ok-from_lists.field-0 (subst (λ n. AreSolvedFrom c.args.method t n known) first c.loop-root.invariant.solved)
    (c.in_ok-from_lists.ensures ∙ ap (λ lists. tree_entries (game_of_tree t) (listed_behaviour (map (λ v. v.items) lists))) c.as_slice.ensures.value)
