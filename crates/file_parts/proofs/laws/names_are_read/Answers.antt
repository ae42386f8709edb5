use Rattle.std.proofs.Common.{◌++◌, sym, ◌∙◌, ap}
use Rattle.file_parts.specs.Parts.{braced_texts}
use Rattle.file_parts.specs.Parsing.{parse_names}
use Rattle.file_parts.proofs.TokenLaws.{names_is, names_again}
use Rattle.file_parts.proofs.ValueLemmas.{value, value_some, value_names}
use Rattle.file_parts.proofs.laws.names_are_read.Goals as goal

pub returns : goal.returns
returns g c = record {
  sound = λ kind tokens rest names e. names_is tokens (names, rest) (sym (value_names kind tokens) ∙ ap value e);
  complete = λ kind rest names some.
      value_some (parse_names kind (braced_texts names ++ rest)) (names, rest) (value_names kind (braced_texts names ++ rest) ∙ names_again names rest some);
}
