use Rattle.std.proofs.Common.{rules, ◌≡◌, false, get_or}
use Rattle.rational.specs.Tests.{eq_ℚ}
use Rattle.game_core.specs.TokenList.{bare}
use Rattle.file_parts.specs.Reading.{payoff_start}
use Rattle.file_parts.specs.Parsing.{unexpected_at}
use Rattle.tree_grammar.specs.declared.kinds.EfgKind.TheVariants.{OutcomeMismatch}
use Rattle.tree_grammar.proofs.OutcomeStepLemmas.{repeated_differs}
use Rattle.tree_grammar.proofs.outcomes.repeated.Goals as goal

pub returns-then-ne : goal.returns-then-ne
returns-then-ne c =
    let rest = bare c.loop-index.rest.now in
    let other : eq_ℚ c.in-Some.next.0 (get_or c.args.payoffs.now c.loop-index.index c.index-payoffs-index.result) ≡ false = search (rules, c.ne.ensures, c.if-ne.true, c.index-payoffs-index.is) in
    let fault : c.first_of.result ≡ unexpected_at OutcomeMismatch (payoff_start c.loop-index.index rest) = rw c.payoff_start-start.ensures at c.first_of.ensures in
    repeated_differs c.args.payoffs.now c.loop-index.index rest c.index-payoffs-index.result c.in-Some.next.0 (bare c.in-Some.next.1.now) c.first_of.result _ c.loop-index-test.true c.in-Some.ensures other fault c.loop-index.invariant
