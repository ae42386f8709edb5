use Rattle.std.proofs.Common.{◌∙◌, ◌<◌, ap, List, length, subst, arith}
use Rattle.std.proofs.lemmas.Result.{err_from_is_err_and}
use Rattle.sequence_data.specs.declared.types.SetRow.{SetRow}
use Rattle.sequence_data.specs.Data.{side_of}
use Rattle.rational.specs.Sum.{entry_at}
use Rattle.zero_sum_lp.proofs.TrimmedListLemmas.{trimmed_begins, trimmed_ends, trimmed_next, trimmed_stops}
use Rattle.zero_sum_lp.proofs.PlanListLemmas.{IsSetOf, set_read, set_in, set_follows}
use Rattle.zero_sum_lp.proofs.OptimumLemmas.{sets_are}
use Rattle.zero_sum_lp.proofs.trimming.trim.Goals as goal
use Rattle.zero_sum_lp.proofs.trimming.trim.Goals.{After-own_set-set}

pub loop-j-init : goal.loop-j-init
loop-j-init c =
    record {
      shape = c.set_weight.ensures.length;
      trimmed = trimmed_begins (side_of c.args.side.now) c.requires.side.ordered (entry_at c.args.weights.now) (entry_at c.set_weight.new.weights) (c.set_weight.ensures.here ∙ c.one.ensures) c.set_weight.ensures.others;
    }

-- the set that was read
read : (c : After-own_set-set) → IsSetOf (side_of c.args.side.now) c.loop-j.j c.own_set-set.result.before c.own_set-set.result.first c.own_set-set.result.count
read c =
    set_read c.args.side.now c.loop-j.j c.own_set-set.result.before c.own_set-set.result.first c.own_set-set.result.count (subst (λ (xs : List SetRow). c.loop-j.j < length xs) c.sets-j-end.ensures c.loop-j-test.true) c.own_set-set.ensures.before c.own_set-set.ensures.first c.own_set-set.ensures.count

pub trim_set-requires : goal.trim_set-requires
trim_set-requires c =
    let a = (goal.at.trim_set-requires c).After-own_set-set in
    let inside = set_in (side_of c.args.side.now) c.requires.side.ordered c.loop-j.j c.own_set-set.result.before c.own_set-set.result.first c.own_set-set.result.count (length c.loop-j.weights) (read a) (c.loop-j.invariant.shape ∙ c.requires.shape) in
    record { before_in = set_follows (side_of c.args.side.now) c.requires.side.ordered c.loop-j.j c.own_set-set.result.before c.own_set-set.result.first c.own_set-set.result.count (read a); actions_in = inside.1.1 }

pub loop-j-preserved : goal.loop-j-preserved
loop-j-preserved c =
    let a = (goal.at.loop-j-preserved c).After-own_set-set in
    record {
      shape = c.trim_set.ensures.length ∙ c.loop-j.invariant.shape;
      trimmed = trimmed_next (side_of c.args.side.now) c.requires.side.ordered c.loop-j.j c.own_set-set.result.before c.own_set-set.result.first c.own_set-set.result.count (entry_at c.args.weights.now) (entry_at c.loop-j.weights) (entry_at c.trim_set.new.weights) (read a) c.loop-j.invariant.trimmed (record { low = c.trim_set.ensures.low; high = c.in_ok-trim_set.ensures.high; shares = c.in_ok-trim_set.ensures.shares; fits = c.in_ok-trim_set.ensures.fits });
    }

pub returns-in_err-trim_set-clause-stage : goal.returns-in_err-trim_set-clause-stage
returns-in_err-trim_set-clause-stage c =
    let a = (goal.at.returns-in_err-trim_set-clause-stage c).After-own_set-set in
    let p = err_from_is_err_and c.from_residual.result c.from_residual.ensures.1 in
    rw (p.1, p.2) (trimmed_stops (side_of c.args.side.now) c.requires.side.ordered c.loop-j.j c.own_set-set.result.before c.own_set-set.result.first c.own_set-set.result.count (entry_at c.args.weights.now) (entry_at c.loop-j.weights) c.in_err-trim_set.field-0.0 (read a) c.loop-j.invariant.trimmed c.in_err-trim_set.ensures.unfit)

pub returns-clause-stage : goal.returns-clause-stage
returns-clause-stage c =
    let all = sets_are c.args.side.now in
    let end = ap (λ (xs : List SetRow). length xs) c.sets-j-end.ensures in
    trimmed_ends (side_of c.args.side.now) c.requires.side.ordered c.loop-j.j (entry_at c.args.weights.now) c.loop-j.weights (omega arith) (c.loop-j.invariant.shape ∙ c.requires.shape) c.loop-j.invariant.trimmed
