use Rattle.convert_tables.specs.declared.marks.Style.TheVariants.{Html, Sgame}
use Rattle.convert_tables.proofs.OneLayoutLaws.{laid_out-single}
use Rattle.convert_tables.proofs.convert.layouts_are_single.Goals as goal

pub returns : goal.returns
returns c = record { html = laid_out-single Html; sgame = laid_out-single Sgame }
