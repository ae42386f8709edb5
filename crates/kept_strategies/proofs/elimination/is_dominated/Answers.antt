use Rattle.std.proofs.Common.{ℕ, ◌<◌, ◌+◌, ◌*◌, get_or, set, sym, subst, arith, below_more}
use Rattle.std.specs.Prelude.{Contains}
use Rattle.extreme_equilibria.proofs.KeptListLemmas.{place}
use Rattle.game_core.specs.Table.{game_of, strategy_counts}
use Rattle.kept_strategies.specs.Comparisons.{AreAhead, IsAheadAt, IsFirstNotAhead}
use Rattle.kept_strategies.proofs.EliminationLemmas.{ahead-set}
use Rattle.kept_strategies.proofs.elimination.is_dominated.Goals as goal

pub loop-by-preserved : goal.loop-by-preserved
loop-by-preserved c =
    let g = game_of c.args.table.now in
    let k : ℕ = c.loop-by.by-index in
    let by : ℕ = get_or c.args.own.now k 0 in
    let first : IsFirstNotAhead g c.args.player c.args.others.now c.args.strategy by c.in-Some.against = c.in-Some.ensures in
    let lr : by < get_or (strategy_counts c.args.table.now) c.args.player 0 = c.requires.own k 0 c.loop-by-test.true in
    record {
      ahead = subst (λ n. AreAhead g c.args.player c.args.others.now (set c.loop-by.ahead (c.args.strategy * n + by) c.in-Some.against)) (sym c.strategy_count-count.ensures.count)
          (ahead-set g c.args.player c.args.others.now c.loop-by.ahead c.args.strategy by c.in-Some.against c.loop-by.invariant.ahead c.requires.strategy lr first.ahead_before);
      none = below_more (λ k. ((t : ℕ) → Contains c.args.others.now t → IsAheadAt g c.args.player c.args.strategy (get_or c.args.own.now k 0) t) → ⊥) k c.loop-by.invariant.none (λ all. first.not_ahead (all c.in-Some.against first.is_other));
    }

pub returns-clause-dominated : goal.returns-clause-dominated
returns-clause-dominated c =
    let g = game_of c.args.table.now in (
      λ e. absurd (cc e),
      λ d.
          let p = place c.args.own.now d.by 0 d.is_own in
          absurd (c.loop-by.invariant.none p.0 (omega (arith, p.1)) (subst (λ x. (t : ℕ) → Contains c.args.others.now t → IsAheadAt g c.args.player c.args.strategy x t) (sym p.2) d.pays_more)),
    )
