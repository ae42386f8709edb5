use Rattle.std.proofs.Common.{ℕ, suc, ◌<◌, ◌*◌, replicate, ap, ◌≡◌, ◌⊎◌, List, [], ◌∷◌, length, get_or, sym, ◌∙◌, subst, subst₂, arith}
use Rattle.std.specs.Prelude.{Contains}
use Rattle.lists.proofs.NumberLemmas.{below_two}
use Rattle.game_core.specs.Table.{game_of}
use Rattle.game_core.proofs.TableCountLemmas.{length-strategy_counts}
use Rattle.extreme_equilibria.specs.Elimination.{IsDominated, AreKept}
use Rattle.extreme_equilibria.proofs.KeptListLemmas.{last-lists, next-round}
use Rattle.kept_strategies.specs.Comparisons.{AreAhead}
use Rattle.kept_strategies.proofs.EliminationLemmas.{Round, ahead-fewer, nothing-ahead, few_of_two, within-all, none-dominated}
use Rattle.kept_strategies.proofs.elimination.kept_strategies.Goals as goal
use Rattle.kept_strategies.proofs.elimination.kept_strategies.Goals.{In_ok-next_second}

pub undominated_among-requires-clause-own : goal.undominated_among-requires-clause-own
undominated_among-requires-clause-own c =
    within-all c.args.table.now c.loop-second.invariant.round 0 c.loop-second.first.items c.deref.result.now c.loop-second.invariant.first c.deref.ensures.value

pub undominated_among-requires-clause-others : goal.undominated_among-requires-clause-others
undominated_among-requires-clause-others c =
    within-all c.args.table.now c.loop-second.invariant.round 1 c.loop-second.second.items c.deref-in-loop-second.result.now c.loop-second.invariant.second c.deref-in-loop-second.ensures.value

pub undominated_among-requires-in-loop-second-clause-own : goal.undominated_among-requires-in-loop-second-clause-own
undominated_among-requires-in-loop-second-clause-own c =
    within-all c.args.table.now c.loop-second.invariant.round 1 c.loop-second.second.items c.deref-in-loop-second-2.result.now c.loop-second.invariant.second c.deref-in-loop-second-2.ensures.value

pub undominated_among-requires-in-loop-second-clause-others : goal.undominated_among-requires-in-loop-second-clause-others
undominated_among-requires-in-loop-second-clause-others c =
    within-all c.args.table.now c.loop-second.invariant.round 0 c.loop-second.first.items c.deref-in-loop-second-3.result.now c.loop-second.invariant.first c.deref-in-loop-second-3.ensures.value

pub all_strategies-requires-clause-few : goal.all_strategies-requires-clause-few
all_strategies-requires-clause-few c = omega (arith, few_of_two c.args.table.now c.requires.valid c.requires.two c.requires.few)

pub all_strategies-requires-2-clause-few : goal.all_strategies-requires-2-clause-few
all_strategies-requires-2-clause-few c = omega (arith, few_of_two c.args.table.now c.requires.valid c.requires.two c.requires.few)

-- the first player's round
first-round : (c : In_ok-next_second) → Round (game_of c.args.table.now) 0 c.loop-second.first.items c.loop-second.second.items c.in_ok-next_first.next_first.items
first-round c =
    subst₂ (λ own others. Round (game_of c.args.table.now) 0 own others c.in_ok-next_first.next_first.items) c.deref.ensures.value c.deref-in-loop-second.ensures.value (c.in_ok-next_first.ensures {u = tt}).listed

-- and the second player's
second-round : (c : In_ok-next_second) → Round (game_of c.args.table.now) 1 c.loop-second.second.items c.loop-second.first.items c.in_ok-next_second.next_second.items
second-round c =
    subst₂ (λ own others. Round (game_of c.args.table.now) 1 own others c.in_ok-next_second.next_second.items) c.deref-in-loop-second-2.ensures.value c.deref-in-loop-second-3.ensures.value (c.in_ok-next_second.ensures {u = tt}).listed

pub returns-then-len-2 : goal.returns-then-len-2
returns-then-len-2 c =
    let d = (goal.at.returns-then-len-2 c).In_ok-next_second in
    let g = game_of c.args.table.now in
    let first : List ℕ = c.loop-second.first.items in
    let second : List ℕ = c.loop-second.second.items in
    let next_first : List ℕ = c.in_ok-next_first.next_first.items in
    let next_second : List ℕ = c.in_ok-next_second.next_second.items in
    let one : length next_first ≡ length first = omega (arith, c.if-len.true, c.len.ensures, c.len-in-loop-second.ensures, c.in_ok-next_first.next_first.ok.0, c.loop-second.first.ok.0) in
    let two : length next_second ≡ length second = omega (arith, c.if-len-2.true, c.len-then-len.ensures, c.len-then-len-2.ensures, c.in_ok-next_second.next_second.ok.0, c.loop-second.second.ok.0) in
    let stays_first = none-dominated (IsDominated g 0 (Contains first) (Contains second)) first next_first (first-round d) (subst (λ own. (next_first ≡ own) ⊎ (length next_first < length own)) c.deref.ensures.value (c.in_ok-next_first.ensures {u = tt}).all_or_fewer) one in
    let stays_second = none-dominated (IsDominated g 1 (Contains second) (Contains first)) second next_second (second-round d) (subst (λ own. (next_second ≡ own) ⊎ (length next_second < length own)) c.deref-in-loop-second-2.ensures.value (c.in_ok-next_second.ensures {u = tt}).all_or_fewer) two in
    let kept = last-lists g c.loop-second.invariant.round first second c.loop-second.invariant.first c.loop-second.invariant.second stays_first stays_second in
    record {
      one_for_each = sym (length-strategy_counts c.args.table.now c.requires.valid ∙ c.requires.two);
      are_kept = λ i l. below_two (λ i. AreKept g i (get_or (first ∷ second ∷ []) i [])) kept.0 kept.1 i l;
    }

pub loop-second-init : goal.loop-second-init
loop-second-init c =
    let g = game_of c.args.table.now in
    let first = c.as_mut_slice-first_ahead.ensures.value ∙ (c.in_ok-first_pairs.ensures {u = tt}).items_if_clones_equal (λ y h. h) ∙ ap (λ n. replicate (n * n) 0) c.strategy_count-rows.ensures.count in
    let second = c.as_mut_slice-second_ahead.ensures.value ∙ (c.in_ok-second_pairs.ensures {u = tt}).items_if_clones_equal (λ y h. h) ∙ ap (λ n. replicate (n * n) 0) c.strategy_count-columns.ensures.count in
    record {
      round = 0;
      first = c.in_ok-first.ensures {u = tt};
      second = c.in_ok-second.ensures {u = tt};
      first_ahead = nothing-ahead g 0 c.in_ok-second.second.items c.as_mut_slice-first_ahead.result.now first;
      second_ahead = nothing-ahead g 1 c.in_ok-first.first.items c.as_mut_slice-second_ahead.result.now second;
    }

pub loop-second-preserved : goal.loop-second-preserved
loop-second-preserved c =
    let d = (goal.at.loop-second-preserved c).In_ok-next_second in
    let g = game_of c.args.table.now in
    let n = c.loop-second.invariant.round in
    let first : List ℕ = c.loop-second.first.items in
    let second : List ℕ = c.loop-second.second.items in
    let next_first : List ℕ = c.in_ok-next_first.next_first.items in
    let next_second : List ℕ = c.in_ok-next_second.next_second.items in
    record {
      round = suc n;
      first = next-round g n 0 first second next_first c.loop-second.invariant.first c.loop-second.invariant.second (first-round d);
      second = next-round g n 1 second first next_second c.loop-second.invariant.second c.loop-second.invariant.first (second-round d);
      first_ahead = ahead-fewer g 0 second next_second c.undominated_among.new.ahead (λ t h. ((second-round d).sound t h).0) (subst (λ others. AreAhead g 0 others c.undominated_among.new.ahead) c.deref-in-loop-second.ensures.value (c.in_ok-next_first.ensures {u = tt}).ahead);
      second_ahead = ahead-fewer g 1 first next_first c.undominated_among-in-loop-second.new.ahead (λ s h. ((first-round d).sound s h).0) (subst (λ others. AreAhead g 1 others c.undominated_among-in-loop-second.new.ahead) c.deref-in-loop-second-3.ensures.value (c.in_ok-next_second.ensures {u = tt}).ahead);
    }
