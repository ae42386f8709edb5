use Rattle.std.proofs.Common.{◌∙◌, ap, refl}
use Rattle.clap.specs.Simple.{app_of, new_rule}
use Rattle.clap.specs.declared.builder.action.ArgAction.TheVariants.{Append}
use Rattle.words.specs.Commands.{value_id, value_rule}
use Rattle.words.proofs.AppLemmas.{ruled, short_rule}
use Rattle.words.proofs.commands.with_value.Goals as goal

pub returns : goal.returns
returns c = ruled c.arg.result c.args.command c.action-value.result (app_of c.args.command) (value_rule c.args.letter) refl
    (short_rule c.new.result c.short.result c.action-value.result (value_id c.args.letter) c.args.letter Append
    (c.new.ensures.rule ∙ ap new_rule c.requires) c.new.ensures.optional.1 c.short.ensures c.action-value.ensures) c.arg.ensures
