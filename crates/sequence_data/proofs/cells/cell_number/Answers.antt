use Rattle.std.proofs.Common.{subst, sym}
use Rattle.std.specs.Prelude.{Contains}
use Rattle.lists.proofs.AscendingNumberLemmas.{number-missed}
use Rattle.sequence_data.proofs.cells.cell_number.Goals as goal

pub returns-in-Err-clause-within : goal.returns-in-Err-clause-within
returns-in-Err-clause-within c = absurd (number-missed c.args.places.now c.cell_place.result c.in-Err.number c.requires.in_order c.in-Err.ensures.position (subst (Contains c.args.places.now) (sym c.cell_place.ensures) c.requires.there))

pub returns-in-Err-clause-place : goal.returns-in-Err-clause-place
returns-in-Err-clause-place c = absurd (number-missed c.args.places.now c.cell_place.result c.in-Err.number c.requires.in_order c.in-Err.ensures.position (subst (Contains c.args.places.now) (sym c.cell_place.ensures) c.requires.there))
