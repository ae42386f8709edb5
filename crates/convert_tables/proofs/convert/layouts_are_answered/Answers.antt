use Rattle.convert_tables.specs.declared.marks.Style.TheVariants.{Html, Sgame}
use Rattle.convert_tables.proofs.AnsweredLayoutLemmas.{laid_out-answered}
use Rattle.convert_tables.proofs.convert.layouts_are_answered.Goals as goal

pub returns : goal.returns
returns c = record { html = laid_out-answered Html; sgame = laid_out-answered Sgame }
