-- That forms have problems, and problems ends of their paths, as statements. Each is proved by a
-- function of src/laws.rt.
use Rattle.answers.specs.Answered.{IsAnswered}
use Rattle.sequence_data.specs.Data.{FormData, IsFormData}
use Rattle.lemke_pivot.specs.Ends.{solved_in}
use Rattle.lemke_pivot.specs.FormProblems.{problem_in}
use Rattle.lemke_pivot.specs.Parts.{Problem, IsProblem}

-- A form has an answer: its problem, or the reason why it has none.
abbrev pub ProblemsAreAnswered : Type 0
ProblemsAreAnswered = (f : FormData) → IsFormData f → IsAnswered (problem_in f)

-- A problem's path has an end: the solution, or the first step that does not fit.
abbrev pub EndsAreAnswered : Type 0
EndsAreAnswered = (p : Problem) → IsProblem p → IsAnswered (solved_in p)
