-- The program of a form, read off its stages.
use Rattle.std.proofs.Common.{◌≡◌, refl, subst}
use Rattle.lex_tableau.specs.StartStops.{IsStartTableau}
use Rattle.sequence_forms.specs.Prices.{gains}
use Rattle.sequence_data.specs.Data.{form}
use Rattle.sequence_data.proofs.GainLemmas.{gains_positive}
use Rattle.zero_sum_lp.specs.FormPrograms.{IsSystemOf, with_start}
use Rattle.zero_sum_lp.specs.Parts.{IsProgram, IsStartFor}
use Rattle.zero_sum_lp.specs.ValueLaws.{IsProgramOfForm, ProgramsAreOfForms}
use Rattle.zero_sum_lp.proofs.SystemStartLemmas.{program_is, starts_for}

pub programs_of_forms : ProgramsAreOfForms
programs_of_forms f p valid stages =
    let last = stages.2.2.2.2 in
    let n = last.0 in
    let s = last.1.0 in
    let is_system : IsSystemOf f s = last.1.1.0 in
    let start : IsStartTableau s n = last.1.1.1.2 in
    let same : with_start f n ≡ p = cc (last.2) in
    let begins : IsStartFor f.first f.second n = starts_for f.first f.second s n (gains (form f) f.least_one) is_system start.start start.valid in
    subst (λ p. IsProgram p × IsProgramOfForm (form f) f.least_one p) same (
      record { first = valid.first_is; second = valid.second_is; start = begins },
      record { rows = refl; columns = refl; program = program_is f.first f.second (gains (form f) f.least_one) s n is_system.program is_system.rated start.start; gains_not_negative = λ r q _ _. gains_positive f valid r q },
    )
