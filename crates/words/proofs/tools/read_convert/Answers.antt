use Rattle.std.proofs.Common.{map, string_bytes, refl, subst}
use Rattle.words.specs.Commands.{collected}
use Rattle.words.specs.Words.{convert_options, IsAnswer}
use Rattle.words.proofs.MatchAnswerLemmas.{convert_told}
use Rattle.words.proofs.tools.read_convert.Goals as goal

pub returns : goal.returns
returns c = subst (λ a. IsAnswer a c.convert.result)
    (convert_told (map string_bytes c.args.words.now) c.in_ok-matches.matches (collected c.given-layouts.result) (collected c.given-rows.result) (collected c.given-columns.result) (collected c.given-plain.result)
    (c.in_ok-matches.ensures.told convert_options c.in_ok-command.ensures refl) c.given-layouts.ensures c.given-rows.ensures c.given-columns.ensures c.given-plain.ensures)
    c.convert.ensures
