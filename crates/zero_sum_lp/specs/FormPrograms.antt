-- The program of a sequence form in stages, and why there is none.
use Rattle.std.specs.Prelude.{◌≡◌, ◌≢◌, List, [], ◌∷◌, ◌++◌, All, Ok, Err}
use Rattle.answers.specs.Answers.{Answer, ◌>>=◌, ◌>>◌, only, IsSingle, refused_by}
use Rattle.rational.specs.Rational.{ℚ, ◌+ℚ◌, ◌*ℚ◌}
use Rattle.frac128.specs.Steps.{step_of, Step}
use Rattle.frac128.specs.declared.steps.Op.TheVariants.{Add, Sub, Mul}
use Rattle.lex_tableau.specs.Rows.{WholeTableau}
use Rattle.lex_tableau.specs.Starts.{LinearSystem}
use Rattle.lex_tableau.specs.StartStops.{start_of}
use Rattle.lex_tableau.specs.declared.tableau.StartStop.{StartStop}
use Rattle.lex_tableau.specs.declared.tableau.StartStop.TheVariants as starts
use Rattle.game_core.specs.Limits.{most_rows, within}
use Rattle.game_core.specs.declared.too_large.What.TheVariants as what
use Rattle.sequence_forms.specs.Prices.{gain_at, gains}
use Rattle.sequence_data.specs.declared.types.Cell.{Cell}
use Rattle.sequence_data.specs.declared.types.Leaf.{Leaf}
use Rattle.sequence_data.specs.Data.{FormData, form}
use Rattle.sequence_data.specs.Sizes.{form_sizes, program_size}
use Rattle.zero_sum_lp.specs.Systems.{IsSystemFor}
use Rattle.frac128.specs.FirstUnfit.{all_fit}
use Rattle.zero_sum_lp.specs.declared.stop.LpStop.{LpStop}
use Rattle.zero_sum_lp.specs.declared.stop.LpStop.TheVariants as stops
use Rattle.zero_sum_lp.specs.declared.stop.NotConstant.{NotConstant}
use Rattle.zero_sum_lp.specs.Parts.{Program}

-- ---- the sums of both players' payoffs
-- the sum of both players' payoffs at a leaf
abbrev pub sum_at : Leaf → ℚ
sum_at l = l.one +ℚ l.two

-- its step
abbrev pub leaf_sum_steps : Leaf → List Step
leaf_sum_steps l = step_of Add l.one l.two ∷ []

-- the sums of all leaves fit; or the first that does not, with its place
abbrev pub sums_in : List Leaf → Answer LpStop (Unit {0})
sums_in leaves =
    refused_by (λ stop. stops.SumRange stop.0.place stop.1) (all_fit leaf_sum_steps leaves)

-- two leaves whose sums differ
abbrev pub apart_at : Leaf → Leaf → NotConstant
apart_at leaf other = record {
  first = leaf.place;
  second = other.place;
  first_sum = sum_at leaf;
  second_sum = sum_at other;
}

-- the first leaf, and the first of the others whose payoffs sum to another number
pub record AreFirstApart (leaves : List Leaf) (stop : NotConstant) : Type 0 where
  pub leaf : Leaf
  pub same : List Leaf
  pub other : Leaf
  pub rest : List Leaf
  pub are_there : leaves ≡ leaf ∷ same ++ other ∷ rest
  pub are_same : All (λ l. sum_at l ≡ sum_at leaf) same
  pub differs : sum_at other ≢ sum_at leaf
  pub stop_is : stop ≡ apart_at leaf other

-- all leaves' payoffs sum to the same number; or the first two that do not
abbrev pub is_constant : List Leaf → Answer NotConstant (Unit {0})
is_constant leaves (Ok _) = All (λ l. All (λ k. sum_at k ≡ sum_at l) leaves) leaves
is_constant leaves (Err stop) = AreFirstApart leaves stop

-- ---- the gains
-- the gain of the first player at a cell
abbrev pub cell_gain : ℚ → Cell → ℚ
cell_gain least c = gain_at least c.weight c.one

-- its steps: the product first
abbrev pub gain_steps : ℚ → Cell → List Step
gain_steps least c = step_of Mul least c.weight ∷ step_of Sub c.one (least *ℚ c.weight) ∷ []

-- the gains of all cells fit; or the first step that does not, with its row and column
abbrev pub gains_in : ℚ → List Cell → Answer LpStop (Unit {0})
gains_in least cells =
    refused_by (λ stop. stops.GainRange stop.0.row stop.0.column stop.1)
    (all_fit (gain_steps least) cells)

-- ---- the start
-- the system of the program of a form
abbrev pub IsSystemOf : FormData → LinearSystem → Type 0
IsSystemOf f s = IsSystemFor f.first f.second (gains (form f) f.least_one) s

-- the program of a form's sides with this start
abbrev pub with_start : FormData → WholeTableau → Program
with_start f n = record { first = f.first; second = f.second; tableau = n }

-- a stop of the start as one of the program
abbrev pub told_start : StartStop → LpStop
told_start (starts.Unfit row unfit) = stops.Start row unfit
told_start starts.Memory = stops.Memory

-- the program with the start of its system, all steps of which fit; or the first step that does
-- not, with its row
abbrev pub form_start_in : FormData → Answer LpStop Program
form_start_in f =
    refused_by told_start (start_of (IsSystemOf f)) >>= (λ start. only (with_start f start))

-- ---- all
-- The program of a sequence form within the limit, whose payoffs sum to the same number at each
-- leaf and whose steps all fit; or why there is none.
abbrev pub program_in : FormData → Answer LpStop Program
program_in f =
    refused_by stops.TooLarge (within what.Rows most_rows (program_size (form_sizes f)))
    >> (sums_in f.leaves
    >> (refused_by stops.NotConstant (is_constant f.leaves)
    >> (gains_in f.least_one f.cells >> form_start_in f)))

-- A form has at most one answer: its program, or the reason why it has none.
abbrev pub ProgramsAreSingle : Type 0
ProgramsAreSingle = (f : FormData) → IsSingle (program_in f)
