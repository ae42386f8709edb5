use Rattle.std.proofs.Common.{[], codes, false, refl}
use Rattle.std.proofs.lemmas.Result.{IfOk-weaker}
use Rattle.clap.specs.Simple.{app_of}
use Rattle.words.specs.Commands.{flag_rule}
use Rattle.words.specs.Grammar.{Options}
use Rattle.words.specs.Words.{enumpure_options}
use Rattle.words.proofs.AppLemmas.{one_more}
use Rattle.words.proofs.commands.enumpure_command.Goals as goal

pub returns : goal.returns
returns c = let strategic : Options = record { flags = codes "qS"; valued = []; prices = false } in
    let agents : Options = record strategic { flags = codes "qSA" } in
    IfOk-weaker c.with_flag-2.result _ _ (λ r more.
    one_more agents enumpure_options (flag_rule 80) (app_of c.in_ok-agents.agents) (app_of r)
    (one_more strategic agents (flag_rule 65) (app_of c.in_ok-strategic.strategic) (app_of c.in_ok-agents.agents) c.in_ok-strategic.ensures c.in_ok-agents.ensures refl) more refl) c.with_flag-2.ensures
