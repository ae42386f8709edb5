use Rattle.std.proofs.Common.{◌<◌, ◌≡◌, Ok, refl, sym, subst, arith}
use Rattle.std.specs.List.{range_with_len}
use Rattle.std.proofs.lemmas.Iterator.{items_from_collect, YieldsList-from_range}
use Rattle.lists.specs.Listed.{AreListed}
use Rattle.lists.proofs.ListedLemmas.{listed-same}
use Rattle.extreme_equilibria.specs.Elimination.{IsKeptAfter}
use Rattle.game_core.specs.Table.{game_of}
use Rattle.kept_strategies.proofs.EliminationLemmas.{below-listed}
use Rattle.kept_strategies.proofs.elimination.all_strategies.Goals as goal

pub overflow_cast-count : goal.overflow_cast-count
overflow_cast-count c =
    omega (arith, c.requires.few, c.strategy_count-count.ensures.count)

pub returns : goal.returns
returns c =
    let n = c.strategy_count-count.result in
    let e = c.strategy_count-count.ensures.count in
    let all : c.in_ok-collect.field-0.items ≡ range_with_len 0 n = items_from_collect {E = Unit {0}} (Ok c.in_ok-collect.field-0) c.in_ok-collect.ensures.ran (YieldsList-from_range 0 n n refl (omega arith)) in
    listed-same (λ s. s < n) (IsKeptAfter (game_of c.args.table.now) 0 c.args.player) c.in_ok-collect.field-0.items (subst (AreListed (λ s. s < n)) (sym all) (below-listed n)) (λ s l. omega arith) (λ s l. omega arith)
