-- The tool `lp`: an equilibrium of a game of two players with constant sum, and the prices that
-- prove its value.
-- Source: Koller, Megiddo and von Stengel 1996.
use Rattle.std.specs.Prelude.{ℕ, suc, Bool, true, false, List, [], ◌∷◌, ◌++◌, length, codes}
use Rattle.answers.specs.Answers.{Answer, only, refuse_where, ◌>>=◌, ◌>>◌, refused_by}
use Rattle.rational.specs.Rational.{ℚ, ◌+ℚ◌}
use Rattle.rational.specs.Sum.{entry_at}
use Rattle.frac128.specs.Steps.{AddFits, step_of}
use Rattle.frac128.specs.declared.steps.Op.TheVariants.{Add}
use Rattle.game_theory.specs.Lines.{line_text, listed}
use Rattle.game_core.specs.declared.game.Game.{Game}
use Rattle.ne_printer.specs.Entries.{numbers_line}
use Rattle.sequence_data.specs.Data.{FormData}
use Rattle.sequence_data.specs.Sizes.{program_size}
use Rattle.zero_sum_lp.specs.Ends.{optimum_in}
use Rattle.zero_sum_lp.specs.FormPrograms.{program_in}
use Rattle.zero_sum_lp.specs.Parts.{Program, first_prices, second_prices}
use Rattle.sequence_data.specs.PlanPairs.{PlanPair}
use Rattle.zero_sum_lp.specs.PlanStops.{plans_of}
use Rattle.two_player_tools.specs.Entries.{entries_in}
use Rattle.refusals.specs.Told.{pivot_refusal, program_refusal, plan_refusal}
use Rattle.two_player_tools.specs.TwoPlayers.{two_players, form_in}
use Rattle.refusals.specs.declared.refusal.Refusal.{Refusal}
use Rattle.refusals.specs.declared.refusal.Refusal.TheVariants as refusal
use Rattle.refusals.specs.declared.site.Site.TheVariants as site

-- ---- the solution
-- the weights of both players' sequences, their prices, of which the first is that of the whole
-- game and the others those of the player's own sets in order, and the value for the first player
pub record Solution : Type 0 where
  pub one : List ℚ
  pub two : List ℚ
  pub prices_one : List ℚ
  pub prices_two : List ℚ
  pub value : ℚ

-- the solution with these plans and the prices of this optimum
abbrev pub solution : FormData → Program → PlanPair → Solution
solution f o plans = record {
  one = plans.one;
  two = plans.two;
  prices_one = listed (suc (length o.first.sets)) (first_prices o);
  prices_two = listed (suc (length o.second.sets)) (second_prices o);
  value = second_prices o 0 +ℚ f.least_one;
}

-- the solution of a form: at the end of its program's path
abbrev pub solution_in : FormData → Answer Refusal Solution
solution_in f = do
  program ← refused_by program_refusal (program_in f)
  optimum ← refused_by pivot_refusal (optimum_in program)
  plans ← refused_by plan_refusal (plans_of optimum)
  only (solution f optimum plans)

-- ---- what is printed
-- the value, the least payoff, and both players' prices
abbrev pub prices_text : FormData → Solution → List ℕ
prices_text f s =
    numbers_line (codes "VALUE") (s.value ∷ []) ++ numbers_line (codes "LEAST") (f.least_one ∷ [])
    ++ numbers_line (codes "PRICES,1") s.prices_one ++ numbers_line (codes "PRICES,2") s.prices_two

-- the price of the whole game, to which the least payoff is added
abbrev pub first_price : Solution → ℚ
first_price s = entry_at s.prices_two 0

-- why there is no value
abbrev pub value_refusal : FormData → Solution → Refusal
value_refusal f s = refusal.Range site.Value (step_of Add (first_price s) f.least_one)

-- these lines, where they are asked for and the value can be added
abbrev pub prices_in : Bool → FormData → Solution → Answer Refusal (List ℕ)
prices_in false f s = only []
prices_in true f s = do
  refuse_where (¬ AddFits (first_price s) f.least_one) (value_refusal f s)
  only (prices_text f s)

-- the text of a form's solution
abbrev pub solution_text : Bool → Bool → Game → FormData → Solution → Answer Refusal (List ℕ)
solution_text strategic prices game f s = do
  entries ← entries_in strategic game s.one s.two
  lines ← prices_in prices f s
  only (line_text entries ++ lines)

-- The answer of `lp` for the whole game, with a tree's strategies or its behaviour, and with the
-- prices where they are asked for.
abbrev pub lp : Bool → Bool → Game → Answer Refusal (List ℕ)
lp strategic prices game = do
  two_players game
  form ← form_in program_size strategic game
  solved ← solution_in form
  solution_text strategic prices game form solved
