use Rattle.std.proofs.Common.{[], codes, false, refl}
use Rattle.std.proofs.lemmas.Result.{IfOk-weaker}
use Rattle.clap.specs.Simple.{app_of}
use Rattle.words.specs.Commands.{flag_rule}
use Rattle.words.proofs.AppLemmas.{one_more, plain_app}
use Rattle.words.proofs.commands.quiet_command.Goals as goal

pub returns : goal.returns
returns c = IfOk-weaker c.with_flag.result _ _ (λ r more.
    one_more (record { flags = []; valued = []; prices = false }) (record { flags = codes "q"; valued = []; prices = false }) (flag_rule 113) (app_of c.in_ok-plain.plain) (app_of r)
    (plain_app (app_of c.in_ok-plain.plain) c.in_ok-plain.ensures) more refl) c.with_flag.ensures
