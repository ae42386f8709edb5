use Rattle.std.proofs.Common.{◌<◌, ◌^◌, length, arith}
use Rattle.lex_tableau.proofs.ColumnLemmas.{columns_few}
use Rattle.lex_tableau.proofs.columns.exchange_columns.Goals as goal

pub overflow_cast-columns : goal.overflow_cast-columns
overflow_cast-columns c =
    let few : length c.args.nonbasics.now < 2 ^ 32 = columns_few c.args.basics.now c.args.nonbasics.now c.args.row (2 ^ 32) c.requires.distinct c.requires.row_in (c.type_inv.basics c.args.row).fits (λ j _. (c.type_inv.nonbasics j).fits) in
    record { fits = omega (arith, few, c.requires.col_in) }

pub overflow_add-columns : goal.overflow_add-columns
overflow_add-columns c =
    let few : length c.args.nonbasics.now < 2 ^ 32 = columns_few c.args.basics.now c.args.nonbasics.now c.args.row (2 ^ 32) c.requires.distinct c.requires.row_in (c.type_inv.basics c.args.row).fits (λ j _. (c.type_inv.nonbasics j).fits) in
    record { fits = omega (arith, few, c.requires.col_in) }
