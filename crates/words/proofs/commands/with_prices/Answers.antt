use Rattle.std.proofs.Common.{codes, refl}
use Rattle.clap.specs.Simple.{app_of}
use Rattle.clap.specs.declared.builder.action.ArgAction.TheVariants.{Count}
use Rattle.words.specs.Commands.{prices_rule}
use Rattle.words.proofs.AppLemmas.{long_rule, ruled}
use Rattle.words.proofs.commands.with_prices.Goals as goal

pub returns : goal.returns
returns c = ruled c.arg.result c.args.command c.action-prices.result (app_of c.args.command) prices_rule refl
    (long_rule c.new.result c.long.result c.action-prices.result (codes "prices") _ Count
    c.new.ensures.rule c.new.ensures.optional.1 c.long.ensures c.action-prices.ensures) c.arg.ensures
