use Rattle.std.proofs.Common.{map, string_bytes, refl, subst}
use Rattle.words.specs.Commands.{collected}
use Rattle.words.specs.Words.{lp_options, IsAnswer}
use Rattle.words.proofs.MatchAnswerLemmas.{lp_told}
use Rattle.words.proofs.tools.read_lp.Goals as goal

pub returns : goal.returns
returns c = subst (λ a. IsAnswer a c.lp.result)
    (lp_told (map string_bytes c.args.words.now) c.in_ok-matches.matches c.is_given-strategic.result c.is_given-prices.result c.is_given-perfect.result (collected c.given-plain.result)
    (c.in_ok-matches.ensures.told lp_options c.in_ok-command.ensures refl) c.is_given-strategic.ensures c.is_given-prices.ensures c.is_given-perfect.ensures c.given-plain.ensures)
    c.lp.ensures
