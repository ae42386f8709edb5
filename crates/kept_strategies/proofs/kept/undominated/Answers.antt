use Rattle.std.proofs.Common.{◌≡◌, ◌<◌, ◌+◌, ◌∙◌, length, sum, ap, subst, arith}
use Rattle.game_core.specs.Table.{strategy_counts}
use Rattle.lists.proofs.ElementLemmas.{two-elements}
use Rattle.game_core.proofs.TableCountLemmas.{few_players, length-strategy_counts}
use Rattle.kept_strategies.specs.Kept.{most_strategies}
use Rattle.kept_strategies.proofs.kept.undominated.Goals as goal

pub overflow_cast-result : goal.overflow_cast-result
overflow_cast-result c =
    omega (arith, few_players c.args.table.now c.players-players.ensures.valid, ap length c.players-players.ensures.players)

pub returns : goal.returns
returns c =
    let t = c.args.table.now in
    let two : length t.players ≡ 2 = omega (arith, ap length c.players-players.ensures.players, c.if-players-ne2.false) in
    let e = ap sum (two-elements (strategy_counts t) (length-strategy_counts t c.players-players.ensures.valid ∙ two)) in
    let so_many : c.strategy_count.result + c.strategy_count-2.result ≡ sum (strategy_counts t) = omega (arith, e, c.strategy_count.ensures.count, c.strategy_count-2.ensures.count) in
    (tt, (λ differ. differ two), (tt, subst (λ n. ¬ (most_strategies < n)) so_many c.in_ok-within.ensures, c.in_ok-kept_form.ensures {u = tt}))
