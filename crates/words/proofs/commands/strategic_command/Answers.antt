use Rattle.std.proofs.Common.{[], codes, false, refl}
use Rattle.std.proofs.lemmas.Result.{IfOk-weaker}
use Rattle.clap.specs.Simple.{app_of}
use Rattle.words.specs.Commands.{flag_rule}
use Rattle.words.proofs.AppLemmas.{one_more}
use Rattle.words.proofs.commands.strategic_command.Goals as goal

pub returns : goal.returns
returns c = IfOk-weaker c.with_flag.result _ _ (λ r more.
    one_more (record { flags = codes "q"; valued = []; prices = false }) (record { flags = codes "qS"; valued = []; prices = false }) (flag_rule 83) (app_of c.in_ok-quiet.quiet) (app_of r)
    c.in_ok-quiet.ensures more refl) c.with_flag.ensures
