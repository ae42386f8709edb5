use Rattle.std.proofs.Common.{◌∙◌, ap, get_or, List}
use Rattle.sequence_data.specs.declared.types.SetRow.{SetRow}
use Rattle.sequence_data.proofs.SetEntryLemmas.{first_read}
use Rattle.sequence_data.proofs.form.Side.own_set.Goals as goal

pub returns-clause-first : goal.returns-clause-first
returns-clause-first c =
    ap (λ (xs : List SetRow). (get_or xs c.args.place (record { before = 0; first = 0; count = 0 })).first) c.sets.ensures ∙ first_read c.args.self.now c.args.place (record { before = 0; first = 0; count = 0 }) c.requires.side c.requires.place
