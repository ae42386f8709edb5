use Rattle.std.proofs.Common.{sym, subst}
use Rattle.answers.specs.Answers.{Gives, map_ok, ◌>>=◌}
use Rattle.refusals.specs.declared.refusal.Refusal.TheVariants as refusal
use Rattle.two_player_tools.specs.StrategicForms.{strategic_table}
use Rattle.two_player_tools.proofs.StrategicFormLemmas.{form-goes_on}
use Rattle.gambit_tools.specs.Enummixed.{table_text}
use Rattle.gambit_tools.proofs.mixed.strategic_text.Goals as goal

pub returns-in_ok-reduced-in-Extensive : goal.returns-in_ok-reduced-in-Extensive
returns-in_ok-reduced-in-Extensive g c =
    let answer = map_ok c.table_text-in-Extensive.result (λ text. text.items) in
    subst (λ game. Gives refusal.Memory (strategic_table game >>= table_text c.args.all) answer) (sym c.in-Extensive.is)
    (form-goes_on (table_text c.args.all) answer c.in-Extensive.tree c.in_ok-reduced-in-Extensive.reduced c.table.result.now c.in_ok-reduced-in-Extensive.ensures.answer c.table.ensures c.table_text-in-Extensive.ensures)
