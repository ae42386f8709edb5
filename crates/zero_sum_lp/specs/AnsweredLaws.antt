-- That the stages of the program have answers. Each is proved by a function of src/laws.rt.
use Rattle.answers.specs.Answered.{IsAnswered}
use Rattle.sequence_data.specs.Data.{FormData, IsFormData, IsSideData}
use Rattle.zero_sum_lp.specs.Ends.{optimum_in}
use Rattle.zero_sum_lp.specs.FormPrograms.{program_in}
use Rattle.zero_sum_lp.specs.Parts.{Program, IsProgram}
use Rattle.zero_sum_lp.specs.PlanStops.{plans_of}

-- An optimum has an answer: both plans, or the first step that does not fit.
abbrev pub PlansAreAnswered : Type 0
PlansAreAnswered =
    (o : Program) → IsSideData o.first → IsSideData o.second → IsAnswered (plans_of o)

-- A program's path has an end.
abbrev pub EndsAreAnswered : Type 0
EndsAreAnswered = (p : Program) → IsProgram p → IsAnswered (optimum_in p)

-- A form has an answer: its program, or the reason why it has none.
abbrev pub ProgramsAreAnswered : Type 0
ProgramsAreAnswered = (f : FormData) → IsFormData f → IsAnswered (program_in f)
