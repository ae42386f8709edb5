use Rattle.std.proofs.Common.{map, string_bytes, refl, subst}
use Rattle.words.specs.Commands.{collected}
use Rattle.words.specs.Words.{lcp_options, IsAnswer}
use Rattle.words.proofs.MatchAnswerLemmas.{lcp_told}
use Rattle.words.proofs.tools.read_lcp.Goals as goal

pub returns : goal.returns
returns c = subst (λ a. IsAnswer a c.lcp.result)
    (lcp_told (map string_bytes c.args.words.now) c.in_ok-matches.matches c.is_given-strategic.result c.is_given-perfect.result (collected c.given-equilibria.result) (collected c.given-plain.result)
    (c.in_ok-matches.ensures.told lcp_options c.in_ok-command.ensures refl) c.is_given-strategic.ensures c.is_given-perfect.ensures c.given-equilibria.ensures c.given-plain.ensures)
    c.lcp.ensures
