use Rattle.std.proofs.Common.{ℕ, ◌+◌, ◌<◌, ◌≡◌, ◌⊎◌, List, length, take, sym, subst, ap, ◌∙◌, arith}
use Rattle.std.specs.Prelude.{Contains}
use Rattle.std.proofs.lemmas.List.{take_all}
use Rattle.lists.specs.Listed.{AreListed}
use Rattle.extreme_equilibria.specs.Elimination.{IsDominated}
use Rattle.game_core.specs.Table.{game_of}
use Rattle.kept_strategies.proofs.EliminationLemmas.{stays-listed, stays-count, goes-listed, goes-count}
use Rattle.kept_strategies.proofs.elimination.undominated_among.Goals as goal
use Rattle.kept_strategies.proofs.elimination.undominated_among.Goals.{then-not-is_dominated+in_ok-push, else-not-is_dominated}

pub loop-strategy-preserved : goal.loop-strategy-preserved
loop-strategy-preserved c =
    let own : List ℕ = c.args.own.now in
    let others : List ℕ = c.args.others.now in
    let D : ℕ → Type 0 = IsDominated (game_of c.args.table.now) c.args.player (Contains own) (Contains others) in
    let k = c.loop-strategy.strategy-index in
    let before : List ℕ = c.loop-strategy.kept.items in
    let l : k < length own = c.loop-strategy-test.true in
    let inv = c.loop-strategy.invariant in
    elim c.if-not-is_dominated.branch [
      | then-not-is_dominated+in_ok-push w ↦
          let is = ap (λ v. v.items) w.kept-is ∙ (w.in_ok-push.ensures {u = tt}).items in
          record {
            listed = subst (AreListed (λ s. Contains (take (k + 1) own) s × (D s → ⊥))) (sym is) (stays-listed D own c.requires.own_ascending k l before inv.listed (λ d. cc (w.if-not-is_dominated.true, c.is_dominated.ensures.dominated.1 d)));
            ahead = c.is_dominated.ensures.ahead;
            all_or_fewer = subst (λ xs. (xs ≡ take (k + 1) own) ⊎ (length xs < k + 1)) (sym is) (stays-count D own c.requires.own_ascending k l before inv.all_or_fewer);
          }
      | else-not-is_dominated w ↦
          let is = ap (λ v. v.items) w.kept-is in
          record {
            listed = subst (AreListed (λ s. Contains (take (k + 1) own) s × (D s → ⊥))) (sym is) (goes-listed D own c.requires.own_ascending k l before inv.listed (c.is_dominated.ensures.dominated.0 (cc w.if-not-is_dominated.false)));
            ahead = c.is_dominated.ensures.ahead;
            all_or_fewer = subst (λ xs. (xs ≡ take (k + 1) own) ⊎ (length xs < k + 1)) (sym is) (goes-count D own c.requires.own_ascending k l before inv.all_or_fewer);
          }
    ]

pub returns-clause-listed : goal.returns-clause-listed
returns-clause-listed c =
    let g = game_of c.args.table.now in
    let own = c.args.own.now in
    subst (λ xs. AreListed (λ s. Contains xs s × (IsDominated g c.args.player (Contains own) (Contains c.args.others.now) s → ⊥)) c.loop-strategy.kept.items) (take_all c.loop-strategy.strategy-index own (omega arith)) c.loop-strategy.invariant.listed
