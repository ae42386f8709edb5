use Rattle.std.proofs.Common.{◌≡◌, [], codes, false, refl}
use Rattle.std.proofs.lemmas.Result.{IfOk-weaker}
use Rattle.clap.specs.Simple.{app_of}
use Rattle.words.specs.Commands.{app_with, flag_rule, value_rule}
use Rattle.words.specs.Grammar.{Options}
use Rattle.words.specs.Words.{enummixed_options}
use Rattle.words.proofs.AppLemmas.{one_more}
use Rattle.words.proofs.commands.enummixed_command.Goals as goal

pub returns : goal.returns
returns c = let quiet : Options = record { flags = codes "q"; valued = []; prices = false } in
    let all : Options = record { flags = codes "qD"; valued = []; prices = false } in
    let before : app_of c.in_ok-all.all ≡ app_with all = one_more quiet all (flag_rule 68) (app_of c.in_ok-quiet.quiet) (app_of c.in_ok-all.all)
    c.in_ok-quiet.ensures c.in_ok-all.ensures refl in
    IfOk-weaker c.with_value.result _ _ (λ r more.
    one_more all enummixed_options (value_rule 106) (app_of c.in_ok-all.all) (app_of r) before more refl) c.with_value.ensures
