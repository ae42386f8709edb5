-- What is kept between the stages of a form's solution.
use Rattle.std.specs.Prelude.{◌≡◌, ◌≤◌, length}
use Rattle.game_core.specs.Limits.{most_rows}
use Rattle.sequence_data.specs.Data.{FormData}
use Rattle.two_player_tools.specs.Lp.{Solution, solution}
use Rattle.two_player_tools.specs.declared.solving.Solved.{Solved}

-- the solution with an optimum and plans
abbrev pub solution_of : FormData → Solved → Solution
solution_of f s = solution f s.optimum s.plans

-- an optimum and plans have the sizes of a form, whose sets are few
pub record HasSizesOf (f : FormData) (s : Solved) : Type 0 where
  pub first_sets : length s.optimum.first.sets ≡ length f.first.sets
  pub second_sets : length s.optimum.second.sets ≡ length f.second.sets
  pub few_first : length f.first.sets ≤ most_rows
  pub few_second : length f.second.sets ≤ most_rows
  pub one : length s.plans.one ≡ f.first.sequences
  pub two : length s.plans.two ≡ f.second.sequences
