use Rattle.std.proofs.Common.{[], codes, false, refl}
use Rattle.std.proofs.lemmas.Result.{IfOk-weaker}
use Rattle.clap.specs.Simple.{app_of}
use Rattle.words.specs.Commands.{value_rule}
use Rattle.words.specs.Words.{make_options}
use Rattle.words.proofs.AppLemmas.{one_more}
use Rattle.words.proofs.commands.make_command.Goals as goal

pub returns : goal.returns
returns c = IfOk-weaker c.with_value.result _ _ (λ r more.
    one_more (record { flags = codes "q"; valued = []; prices = false }) make_options (value_rule 106) (app_of c.in_ok-quiet.quiet) (app_of r)
    c.in_ok-quiet.ensures more refl) c.with_value.ensures
