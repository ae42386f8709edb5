use Rattle.std.proofs.Common.{ap, Ok}
use Rattle.verdicts.specs.declared.tables.TableVerdict.TheVariants as verdicts
use Rattle.lists.proofs.MappedErrorLemmas.{was_value}
use Rattle.ne_checker.proofs.table_lines.table_line.Goals as goal

pub returns-in-Better : goal.returns-in-Better
returns-in-Better c =
    let read = rw (was_value _ c.read_line.result c.map_err.result c.in_ok-entries.entries c.map_err.ensures.cases c.in_ok-entries.was) at c.read_line.ensures in
    let tested = rw (was_value _ c.try_new.result c.map_err-2.result c.in_ok-mixed.mixed c.map_err-2.ensures.cases c.in_ok-mixed.was) at c.try_new.ensures in
    (c.in_ok-mixed.mixed, (c.in_ok-entries.entries.items, read, tested), (verdicts.Better c.in-Better.player c.in-Better.payoff c.in-Better.best c.in-Better.reply, c.in-Better.ensures, ap Ok c.in_ok-better_strategy-in-Better.ensures))
