use Rattle.std.proofs.Common.{◌∙◌, ap, List, length}
use Rattle.sequence_data.specs.declared.types.SetRow.{SetRow}
use Rattle.zero_sum_lp.proofs.SystemStartLemmas.{starts_for, shape_is}
use Rattle.zero_sum_lp.proofs.lp.Lp.new.Goals as goal

pub invariant_of-result : goal.invariant_of-result
invariant_of-result c = (
  record {
    first = c.requires.first_side;
    second = c.requires.second_side;
    start = starts_for c.args.first c.args.second c.args.system.now c.in_ok-work.work c.requires.program.0 c.requires.program.1 c.in_ok-work.ensures.2.start c.in_ok-work.ensures.2.valid;
  },
  shape_is c.args.first c.args.second c.sequences.result (length c.sets.result.now) (c.sequences.ensures ∙ c.requires.second_side.sequences_are) (ap (λ (xs : List SetRow). length xs) c.sets.ensures) c.requires.few,
)
