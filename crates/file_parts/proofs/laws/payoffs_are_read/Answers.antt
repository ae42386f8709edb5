use Rattle.std.proofs.Common.{sym, ◌∙◌, ap, length, ◌++◌}
use Rattle.file_parts.specs.Parsing.{parse_payoffs}
use Rattle.file_parts.proofs.NumberLaws.{payoffs_are, payoffs_again}
use Rattle.file_parts.proofs.ValueLemmas.{value, value_some, value_payoffs}
use Rattle.file_parts.proofs.laws.payoffs_are_read.Goals as goal

pub returns : goal.returns
returns g c = record {
  sound = λ kind n tokens rest payoffs e.
      let are = payoffs_are n tokens (payoffs, rest) (sym (value_payoffs kind n tokens) ∙ ap value e) in
      (are.front, are.are_numbers, are.all, are.is);
  complete = λ kind front rest payoffs h.
      value_some (parse_payoffs kind (length payoffs) (front ++ rest)) (payoffs, rest) (value_payoffs kind (length payoffs) (front ++ rest) ∙ payoffs_again front payoffs rest h);
}
