use Rattle.std.proofs.Common.{◌≡◌, [], codes, false, refl}
use Rattle.std.proofs.lemmas.Result.{IfOk-weaker}
use Rattle.clap.specs.Simple.{app_of}
use Rattle.words.specs.Commands.{app_with, value_rule}
use Rattle.words.specs.Grammar.{Options}
use Rattle.words.specs.Words.{convert_options}
use Rattle.words.proofs.AppLemmas.{one_more}
use Rattle.words.proofs.commands.convert_command.Goals as goal

pub returns : goal.returns
returns c = let quiet : Options = record { flags = codes "q"; valued = []; prices = false } in
    let layouts : Options = record quiet { valued = codes "O" } in
    let rows : Options = record quiet { valued = codes "Or" } in
    let first : app_of c.in_ok-layouts.layouts ≡ app_with layouts = one_more quiet layouts (value_rule 79) (app_of c.in_ok-quiet.quiet) (app_of c.in_ok-layouts.layouts)
    c.in_ok-quiet.ensures c.in_ok-layouts.ensures refl in
    let second : app_of c.in_ok-rows.rows ≡ app_with rows = one_more layouts rows (value_rule 114) (app_of c.in_ok-layouts.layouts) (app_of c.in_ok-rows.rows)
    first c.in_ok-rows.ensures refl in
    IfOk-weaker c.with_value-3.result _ _ (λ r more.
    one_more rows convert_options (value_rule 99) (app_of c.in_ok-rows.rows) (app_of r) second more refl) c.with_value-3.ensures
