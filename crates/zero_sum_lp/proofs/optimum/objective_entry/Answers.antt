use Rattle.std.proofs.Common.{ap, sym, ◌∙◌}
use Rattle.lex_tableau.specs.Rows.{tableau}
use Rattle.linear_systems.specs.Rows.{coefficient}
use Rattle.linear_systems.proofs.RowLemmas.{coefficient_cell, coefficient_absent}
use Rattle.zero_sum_lp.proofs.optimum.objective_entry.Goals as goal

pub returns-in-Some : goal.returns-in-Some
returns-in-Some c =
    let t = tableau c.args.current.now in
    c.entry.ensures.value ∙ sym (coefficient_cell t c.args.objective c.in-Some.column c.column_of.ensures.valid.reached.reached.proper c.requires.row_in c.in-Some.ensures.column.0)
    ∙ ap (coefficient t c.args.objective) c.in-Some.ensures.column.1

pub returns-in-None : goal.returns-in-None
returns-in-None c =
    c.zero.ensures ∙ sym (coefficient_absent (tableau c.args.current.now) c.args.objective c.args.variable c.requires.other c.in-None.ensures.column)
