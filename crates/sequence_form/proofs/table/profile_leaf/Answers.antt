use Rattle.std.proofs.Common.{◌%◌, ◌/◌, ◌∙◌, ap, sym, arith}
use Rattle.sequence_form.proofs.PathStepLemmas.{same_leaf}
use Rattle.sequence_form.proofs.TableLeafLemmas.{column-is, row-is}
use Rattle.sequence_form.proofs.table.profile_leaf.Goals as goal

pub returns : goal.returns
returns c =
    let t = c.args.table.now in
    let valid = c.strategy_count-rows.ensures.valid in
    let rows = sym c.strategy_count-rows.ensures.count in
    let row = row-is t valid c.requires.two c.args.number ∙ ap (λ m. c.args.number % m) rows in
    let column = column-is t valid c.requires.two c.args.number c.requires.number ∙ ap (λ m. c.args.number / m) rows in
    same_leaf c.args.number _ _ _ _ _ _ _ _ _ _ (omega (arith, row)) (omega (arith, column)) c.one.ensures c.payoff_at.ensures c.payoff_at-2.ensures
