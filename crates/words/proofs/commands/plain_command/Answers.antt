use Rattle.std.proofs.Common.{codes}
use Rattle.clap.specs.declared.builder.action.ArgAction.TheVariants.{Append}
use Rattle.words.specs.Commands.{bare, plain_rule}
use Rattle.words.proofs.AppLemmas.{bare_app, bare_rule, ruled}
use Rattle.words.proofs.commands.plain_command.Goals as goal

pub returns : goal.returns
returns c = ruled c.arg.result c.disable_help_flag-command.result c.action-words.result bare plain_rule
    (bare_app c.new-2.result c.no_binary_name.result c.disable_help_flag-command.result (codes "gambit") c.new-2.ensures.app c.no_binary_name.ensures c.disable_help_flag-command.ensures)
    (bare_rule c.new.result c.action-words.result (codes "words") Append c.new.ensures.rule c.new.ensures.optional.1 c.action-words.ensures) c.arg.ensures
