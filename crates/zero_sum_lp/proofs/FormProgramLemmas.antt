-- What the stages of a form's program give together.
use Rattle.std.proofs.Common.{◌<◌, ◌≡◌, Result, Ok, Err, inl, inr, refl, ap, ap₂}
use Rattle.answers.specs.Answers.{Answer, Gives, ◌>>◌, refused_by}
use Rattle.answers.proofs.AnswerLemmas.{gives_bind, gives_first}
use Rattle.lex_tableau.specs.Starts.{LinearSystem}
use Rattle.lex_tableau.specs.StartStops.{start_in}
use Rattle.lex_tableau.specs.declared.tableau.StartStop.{StartStop}
use Rattle.lex_tableau.specs.declared.tableau.StartStop.TheVariants as starts
use Rattle.game_core.specs.Limits.{most_rows, within}
use Rattle.game_core.specs.declared.too_large.TooLarge.{TooLarge}
use Rattle.game_core.specs.declared.too_large.What.TheVariants as what
use Rattle.sequence_data.specs.Data.{FormData}
use Rattle.zero_sum_lp.specs.declared.stop.LpStop.{LpStop}
use Rattle.zero_sum_lp.specs.declared.stop.LpStop.TheVariants as stops
use Rattle.zero_sum_lp.specs.declared.stop.NotConstant.{NotConstant}
use Rattle.sequence_data.specs.Sizes.{form_sizes, program_size}
use Rattle.zero_sum_lp.specs.FormPrograms.{IsSystemOf, gains_in, is_constant, program_in, form_start_in, sums_in, told_start}
use Rattle.zero_sum_lp.specs.Parts.{Program}

-- one stage more
go_on : (p : Answer LpStop (Unit {0})) (q : Answer LpStop Program) (answer : Result Program LpStop) → p (Ok tt) → Gives stops.Memory q answer → Gives stops.Memory (p >> q) answer
go_on p q answer h g = gives_bind {Z = Program} stops.Memory p (λ _. q) tt answer h g

leave : (p : Answer LpStop (Unit {0})) (q : Answer LpStop Program) (r : LpStop) → Gives stops.Memory p (Err r) → Gives stops.Memory (p >> q) (Err r)
leave p q r g = gives_first {Z = Program} stops.Memory p (λ _. q) r g

-- ---- the start
module _ (f : FormData) (s : LinearSystem) (is_system : IsSystemOf f s) where
  pub start_stop : (stop : StartStop) → Gives starts.Memory (start_in s) (Err stop) → Gives stops.Memory (form_start_in f) (Err (told_start stop))
  start_stop stop (inl m) = inl (ap told_start m)
  start_stop stop (inr h) = inr (inl (stop, (s, (is_system, h)), refl))

  pub start_goes : (p : Program) → start_in s (Ok p.tableau) → p.first ≡ f.first → p.second ≡ f.second → form_start_in f (Ok p)
  start_goes p h one two =
      (p.tableau, (s, (is_system, h)), ap₂ (λ a b. Ok (record { first = a; second = b; tableau = p.tableau })) one two)

-- ---- all stages
module _ (f : FormData) where
  abbrev size_stage : Answer LpStop (Unit {0})
  size_stage = refused_by stops.TooLarge (within what.Rows most_rows (program_size (form_sizes f)))

  abbrev constant_stage : Answer LpStop (Unit {0})
  constant_stage = refused_by stops.NotConstant (is_constant f.leaves)

  abbrev from_gains : Answer LpStop Program
  from_gains = gains_in f.least_one f.cells >> form_start_in f

  abbrev from_constant : Answer LpStop Program
  from_constant = constant_stage >> from_gains

  abbrev from_sums : Answer LpStop Program
  from_sums = sums_in f.leaves >> from_constant

  pub size_stop : (limit : TooLarge) → within what.Rows most_rows (program_size (form_sizes f)) (Err limit) → Gives stops.Memory (program_in f) (Err (stops.TooLarge limit))
  size_stop limit h = leave size_stage from_sums (stops.TooLarge limit) (inr (limit, h, refl))

  module _ (few : most_rows < program_size (form_sizes f) → ⊥) where
    pub sums_stop : (r : LpStop) → Gives stops.Memory (sums_in f.leaves) (Err r) → Gives stops.Memory (program_in f) (Err r)
    sums_stop r g = go_on size_stage from_sums (Err r) few (leave (sums_in f.leaves) from_constant r g)

    module _ (sums : sums_in f.leaves (Ok tt)) where
      pub apart_stop : (stop : NotConstant) → is_constant f.leaves (Err stop) → Gives stops.Memory (program_in f) (Err (stops.NotConstant stop))
      apart_stop stop h = go_on size_stage from_sums (Err (stops.NotConstant stop)) few (go_on (sums_in f.leaves) from_constant (Err (stops.NotConstant stop)) sums (leave constant_stage from_gains (stops.NotConstant stop) (inr (stop, h, refl))))

      module _ (constant : is_constant f.leaves (Ok tt)) where
        pub gains_stop : (r : LpStop) → Gives stops.Memory (gains_in f.least_one f.cells) (Err r) → Gives stops.Memory (program_in f) (Err r)
        gains_stop r g = go_on size_stage from_sums (Err r) few (go_on (sums_in f.leaves) from_constant (Err r) sums (go_on constant_stage from_gains (Err r) constant (leave (gains_in f.least_one f.cells) (form_start_in f) r g)))

        pub start_gives : (answer : Result Program LpStop) → gains_in f.least_one f.cells (Ok tt) → Gives stops.Memory (form_start_in f) answer → Gives stops.Memory (program_in f) answer
        start_gives answer h g = go_on size_stage from_sums answer few (go_on (sums_in f.leaves) from_constant answer sums (go_on constant_stage from_gains answer constant (go_on (gains_in f.least_one f.cells) (form_start_in f) answer h g)))
