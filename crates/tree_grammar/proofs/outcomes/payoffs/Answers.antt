use Rattle.std.proofs.Common.{if◌then◌else◌, ap}
use Rattle.game_core.specs.TokenList.{bare}
use Rattle.file_parts.specs.declared.stop.PartStop.TheVariants as part_stops
use Rattle.file_parts.specs.Reading.{payoff_start, number_at}
use Rattle.file_parts.proofs.ParseLemmas.{each_ends, wanted_refused}
use Rattle.tree_grammar.specs.TreeParsing.{closes, parse_payoff}
use Rattle.tree_grammar.specs.declared.kinds.EfgKind.TheVariants.{Node, OutcomeMismatch}
use Rattle.tree_grammar.proofs.outcomes.payoffs.Goals as goal

pub returns-in_default : goal.returns-in_default
returns-in_default c =
    let rest = bare c.loop-index.rest.now in
    let start = payoff_start c.loop-index.index rest in
    each_ends parse_payoff c.loop-index.payoffs.items c.args.players c.loop-index.index rest (part_stops.Unexpected c.no_payoff.result) _ c.loop-index-test.true
    (wanted_refused (if closes start then OutcomeMismatch else Node) start (number_at start) (part_stops.Unexpected c.no_payoff.result) c.in_default.ensures (ap part_stops.Unexpected c.no_payoff.ensures)) c.loop-index.invariant
