-- What the stages of a form's problem give together.
use Rattle.sequence_data.specs.Sizes.{form_sizes, problem_rows}
use Rattle.std.proofs.Common.{◌<◌, ◌≡◌, inl, inr, Result, Ok, Err, refl, ap, ap₂, subst, arith}
use Rattle.answers.specs.Answers.{Answer, Gives, ◌>>◌, refused_by}
use Rattle.answers.proofs.AnswerLemmas.{gives_bind, gives_first}
use Rattle.linear_systems.proofs.AgreementLemmas.{alike_trans}
use Rattle.lex_tableau.specs.Rows.{tableau}
use Rattle.lex_tableau.specs.StartStops.{start_in, IsStartTableau}
use Rattle.lex_tableau.specs.declared.tableau.StartStop.{StartStop}
use Rattle.lex_tableau.specs.declared.tableau.StartStop.TheVariants as starts
use Rattle.lex_tableau.specs.Starts.{LinearSystem, system_of}
use Rattle.game_core.specs.Limits.{most_rows, within}
use Rattle.game_core.specs.declared.too_large.TooLarge.{TooLarge}
use Rattle.game_core.specs.declared.too_large.What.TheVariants as what
use Rattle.sequence_forms.specs.Prices.{costs}
use Rattle.sequence_data.specs.Data.{FormData, form, side_of}
use Rattle.lemke_pivot.specs.declared.stop.LcpStop.{LcpStop}
use Rattle.lemke_pivot.specs.declared.stop.LcpStop.TheVariants as stops
use Rattle.lemke_pivot.specs.FormProblems.{IsSystemOf, ProblemsAreOfForms, costs_in, problem_in, form_start_in, told_start, with_start}
use Rattle.lemke_pivot.specs.Parts.{IsProblem, IsProblemOfForm, IsStartFor, Problem, start_tableau}
use Rattle.lemke_pivot.proofs.FormSystemLemmas.{for_sides}
use Rattle.lemke_pivot.proofs.PathStartLemmas.{starts_for}

module _ (f : FormData) where
  abbrev size_stage : Answer LcpStop (Unit {0})
  size_stage = refused_by stops.TooLarge (within what.Rows most_rows (problem_rows (form_sizes f)))

  abbrev cost_stage : Answer LcpStop (Unit {0})
  cost_stage = costs_in f.greatest_one f.greatest_two f.cells

  pub size_stop : (limit : TooLarge) → within what.Rows most_rows (problem_rows (form_sizes f)) (Err limit) → Gives stops.Memory (problem_in f) (Err (stops.TooLarge limit))
  size_stop limit h =
      gives_first {Z = Problem} stops.Memory size_stage (λ _. cost_stage >> form_start_in f) (stops.TooLarge limit) (inr (limit, h, refl))

  pub costs_stop : (few : most_rows < problem_rows (form_sizes f) → ⊥) (r : LcpStop) → Gives stops.Memory cost_stage (Err r) → Gives stops.Memory (problem_in f) (Err r)
  costs_stop few r g =
      gives_bind {Z = Problem} stops.Memory size_stage (λ _. cost_stage >> form_start_in f) tt (Err r) few (gives_first {Z = Problem} stops.Memory cost_stage (λ _. form_start_in f) r g)

  pub start_gives : (few : most_rows < problem_rows (form_sizes f) → ⊥) (answer : Result Problem LcpStop) → cost_stage (Ok tt) → Gives stops.Memory (form_start_in f) answer → Gives stops.Memory (problem_in f) answer
  start_gives few answer h g =
      gives_bind {Z = Problem} stops.Memory size_stage (λ _. cost_stage >> form_start_in f) tt answer few (gives_bind {Z = Problem} stops.Memory cost_stage (λ _. form_start_in f) tt answer h g)

-- ---- the start
module _ (f : FormData) (s : LinearSystem) (is_system : IsSystemOf f s) where
  pub start_stop : (stop : StartStop) → Gives starts.Memory (start_in s) (Err stop) → Gives stops.Memory (form_start_in f) (Err (told_start stop))
  start_stop stop (inl m) = inl (ap told_start m)
  start_stop stop (inr h) = inr (inl (stop, (s, (is_system, h)), refl))

  pub start_goes : (p : Problem) → start_in s (Ok p.tableau) → p.first ≡ f.first → p.second ≡ f.second → form_start_in f (Ok p)
  start_goes p h one two =
      (p.tableau, (s, (is_system, h)), ap₂ (λ a b. Ok (record { first = a; second = b; tableau = p.tableau })) one two)

-- ---- read off the stages
pub problems_of_forms : ProblemsAreOfForms
problems_of_forms f p valid stages =
    let few = stages.1 in
    let last = stages.2.2 in
    let n = last.0 in
    let s = last.1.0 in
    let is_system : IsSystemOf f s = last.1.1.0 in
    let start : IsStartTableau s n = last.1.1.1.2 in
    let same : with_start f n ≡ p = cc (last.2) in
    let begins : IsStartFor f.first f.second n = starts_for f.first f.second s n (for_sides f s f.first f.second valid refl refl is_system) start.start start.valid in
    subst (λ p. IsProblem p × IsProblemOfForm (form f) f.greatest_one f.greatest_two p) same (
      record { first = valid.first_is; second = valid.second_is; few = omega (arith, few); start = begins },
      record {
        rows = refl;
        columns = refl;
        begins = alike_trans (start_tableau (side_of f.first) (side_of f.second) (costs (form f) 0 f.greatest_one) (costs (form f) 1 f.greatest_two)) (system_of s) (tableau n) is_system.begins start.start.fractions;
      },
    )
