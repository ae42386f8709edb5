use Rattle.std.proofs.Common.{[], codes, false, refl}
use Rattle.std.proofs.lemmas.Result.{IfOk-weaker}
use Rattle.clap.specs.Simple.{app_of}
use Rattle.words.specs.Commands.{flag_rule, value_rule}
use Rattle.words.specs.Grammar.{Options}
use Rattle.words.specs.Words.{lcp_options}
use Rattle.words.proofs.AppLemmas.{one_more}
use Rattle.words.proofs.commands.lcp_command.Goals as goal

pub returns : goal.returns
returns c = let strategic : Options = record { flags = codes "qS"; valued = []; prices = false } in
    let perfect : Options = record strategic { flags = codes "qSP" } in
    IfOk-weaker c.with_value.result _ _ (λ r more.
    one_more perfect lcp_options (value_rule 101) (app_of c.in_ok-perfect.perfect) (app_of r)
    (one_more strategic perfect (flag_rule 80) (app_of c.in_ok-strategic.strategic) (app_of c.in_ok-perfect.perfect) c.in_ok-strategic.ensures c.in_ok-perfect.ensures refl) more refl) c.with_value.ensures
