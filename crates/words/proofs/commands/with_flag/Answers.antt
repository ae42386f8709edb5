use Rattle.std.proofs.Common.{◌∙◌, ap, refl}
use Rattle.clap.specs.Simple.{app_of, new_rule}
use Rattle.clap.specs.declared.builder.action.ArgAction.TheVariants.{Count}
use Rattle.words.specs.Commands.{flag_id, flag_rule}
use Rattle.words.proofs.AppLemmas.{ruled, short_rule}
use Rattle.words.proofs.commands.with_flag.Goals as goal

pub returns : goal.returns
returns c = ruled c.arg.result c.args.command c.action-flag.result (app_of c.args.command) (flag_rule c.args.letter) refl
    (short_rule c.new.result c.short.result c.action-flag.result (flag_id c.args.letter) c.args.letter Count
    (c.new.ensures.rule ∙ ap new_rule c.requires) c.new.ensures.optional.1 c.short.ensures c.action-flag.ensures) c.arg.ensures
