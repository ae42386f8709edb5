use Rattle.std.proofs.Common.{rules, ◌≡◌, ◌<◌, ◌≤◌, ◌+◌, ◌-◌, ◌⊎◌, inl, inr, ℕ, List, ltb, ltb-true, length, get_or, take, drop, refl, sym, ap, ◌∙◌, subst, subst₂, below_more, arith}
use Rattle.std.specs.Prelude.{Contains}
use Rattle.std.proofs.lemmas.Bool.{cases_lt}
use Rattle.std.proofs.lemmas.List.{get_or-drop, length-drop, take_rest}
use Rattle.std.proofs.lemmas.List.Elements.{Contains-get_or}
use Rattle.std.proofs.lemmas.List.Sorted.{IsPartitionPoint-from_clause, IsPartitionedBy-ltb}
use Rattle.lists.proofs.AscendingNumberLemmas.{non_decreasing}
use Rattle.rational.specs.Rational.{◌<ℚ◌}
use Rattle.game_core.specs.Table.{game_of}
use Rattle.kept_strategies.specs.Comparisons.{IsAheadAt, IsAheadBefore}
use Rattle.kept_strategies.proofs.EliminationLemmas.{ahead-all, ahead-before}
use Rattle.kept_strategies.proofs.elimination.first_not_ahead.Goals as goal
use Rattle.kept_strategies.proofs.elimination.first_not_ahead.Goals.{After-partition_point-start}

-- those before the start are known
early : (c : After-partition_point-start) → (k : ℕ) → k < length c.args.others.now → (get_or c.args.others.now k 0 < c.args.from) ⊎ (c.partition_point-start.result ≤ k)
early c k l =
    let parted = IsPartitionedBy-ltb (λ x. x) c.args.others.now c.args.from (non_decreasing c.args.others.now c.requires.ascending) in
    let point = IsPartitionPoint-from_clause (λ x. ltb x c.args.from) _ _ c.partition_point-start.ensures.partitioned parted (λ a r q h. search rules) in
    elim (cases_lt k c.partition_point-start.result) [ inl before ↦ inl (ltb-true _ _ (point.0 k 0 (omega arith) (omega arith))) | inr after ↦ inr (omega (arith, after)) ]

-- a strategy from the start on
rest : (others : List ℕ) (start k : ℕ) → get_or (take (length others - start) (drop start others)) k 0 ≡ get_or others (start + k) 0
rest others start k = ap (λ xs. get_or xs k 0) (take_rest others start) ∙ get_or-drop start others k 0

pub returns-then-not-is_less : goal.returns-then-not-is_less
returns-then-not-is_less c =
    let a = (goal.at.returns-then-not-is_less c).After-partition_point-start in
    let g = game_of c.args.table.now in
    let others : List ℕ = c.args.others.now in
    let k : ℕ = c.partition_point-start.result + c.loop-against.against-index in
    let here = rest others c.partition_point-start.result c.loop-against.against-index in
    let l : k < length others = omega (arith, c.loop-against-test.true, ap length (take_rest others c.partition_point-start.result), length-drop c.partition_point-start.result others) in
    record {
      is_other = subst (Contains others) (sym here) (Contains-get_or others k 0 l);
      not_ahead = λ less. cc (c.if-not-is_less.ensures.1 (subst₂ (λ x y. x <ℚ y) (sym c.payoff-less.ensures) (sym c.payoff.ensures) less));
      ahead_before = subst (IsAheadBefore g c.args.player others c.args.strategy c.args.by) (sym here)
          (ahead-before g c.args.player others c.args.strategy c.args.by c.args.from c.partition_point-start.result c.requires.ascending c.requires.known (early a) k l (λ j m. c.loop-against.invariant j (omega (arith, m))));
    }

pub loop-against-preserved : goal.loop-against-preserved
loop-against-preserved c =
    let g = game_of c.args.table.now in
    let others : List ℕ = c.args.others.now in
    let here = rest others c.partition_point-start.result c.loop-against.against-index in
    below_more (λ k. IsAheadAt g c.args.player c.args.strategy c.args.by (get_or others (c.partition_point-start.result + k) 0)) c.loop-against.against-index c.loop-against.invariant
    (subst (IsAheadAt g c.args.player c.args.strategy c.args.by) here (subst₂ (λ x y. x <ℚ y) c.payoff-less.ensures c.payoff.ensures (c.if-not-is_less.ensures.0 refl)))

pub returns : goal.returns
returns c =
    let a = (goal.at.returns c).After-partition_point-start in
    let others : List ℕ = c.args.others.now in
    ahead-all (game_of c.args.table.now) c.args.player others c.args.strategy c.args.by c.args.from c.partition_point-start.result c.requires.ascending c.requires.known (early a)
    (λ j m. c.loop-against.invariant j (omega (arith, m, c.loop-against-test.false, ap length (take_rest others c.partition_point-start.result), length-drop c.partition_point-start.result others)))
