use Rattle.std.proofs.Common.{map, string_bytes, refl, subst}
use Rattle.words.specs.Commands.{collected}
use Rattle.words.specs.Words.{enummixed_options, IsAnswer}
use Rattle.words.proofs.MatchAnswerLemmas.{enummixed_told}
use Rattle.words.proofs.tools.read_enummixed.Goals as goal

pub returns : goal.returns
returns c = subst (λ a. IsAnswer a c.enummixed.result)
    (enummixed_told (map string_bytes c.args.words.now) c.in_ok-matches.matches c.is_given-all.result (collected c.given-workers.result) (collected c.given-plain.result)
    (c.in_ok-matches.ensures.told enummixed_options c.in_ok-command.ensures refl) c.is_given-all.ensures c.given-workers.ensures c.given-plain.ensures)
    c.enummixed.ensures
