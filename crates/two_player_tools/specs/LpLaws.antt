-- What each text of `lp` is: an equilibrium of the file's own game, with the prices that prove its
-- value.
use Rattle.std.specs.Prelude.{ℕ, suc, ◌≡◌, Bool, true, false, if◌then◌else◌, List, [], ◌++◌, length, Ok}
use Rattle.rational.specs.Rational.{ℚ}
use Rattle.game_theory.specs.Lines.{line_text, listed}
use Rattle.game_core.specs.Table.{GameTable, game_of}
use Rattle.game_core.specs.TreeGame.{game_of_tree}
use Rattle.game_core.specs.declared.game.Game.{Game}
use Rattle.game_core.specs.declared.game.Game.TheVariants.{Extensive}
use Rattle.sequence_forms.specs.PriceLaws.{AreOptimalOnTree}
use Rattle.sequence_forms.specs.Prices.{IsValueProof}
use Rattle.sequence_forms.specs.TableLaws.{AreOptimalOnTable}
use Rattle.sequence_data.specs.Data.{FormData, form}
use Rattle.rational.specs.Sum.{entry_at}
use Rattle.sequence_data.specs.Sizes.{program_size}
use Rattle.two_player_tools.specs.Entries.{entries_in}
use Rattle.two_player_tools.specs.EquilibriumEntries.{AreOfEquilibrium}
use Rattle.two_player_tools.specs.GameTypes.{IsGame}
use Rattle.two_player_tools.specs.Lp.{Solution, prices_text}
use Rattle.two_player_tools.specs.Perfect.{lp_tool}
use Rattle.two_player_tools.specs.PerfectTexts.{IsPerfectText}
use Rattle.two_player_tools.specs.StrategicForms.{strategic_table}
use Rattle.two_player_tools.specs.TwoPlayers.{form_in}

-- plans and value of a solution hold on the file's own game: on a tree, unless strategies are asked
-- for, by its behaviour; else on the strategic form
abbrev pub HoldsOn : Bool → Game → Solution → Type 0
HoldsOn false (Extensive t) s =
    AreOptimalOnTree (game_of_tree t) (entry_at s.one) (entry_at s.two) s.value
HoldsOn _ game s =
    (table : GameTable) × strategic_table game (Ok table)
    × AreOptimalOnTable (game_of table) (entry_at s.one) (entry_at s.two) s.value

-- prices and plans prove the value by the form
pub record ProvesValue (f : FormData) (s : Solution) : Type 0 where
  pub first : ℕ → ℚ
  pub second : ℕ → ℚ
  pub first_are : s.prices_one ≡ listed (suc (length f.first.sets)) first
  pub second_are : s.prices_two ≡ listed (suc (length f.second.sets)) second
  pub proof : IsValueProof (form f) f.least_one (entry_at s.one) (entry_at s.two) first second
      s.value

-- a text is that of a solution, whose plans have a weight for each sequence and whose entries are
-- those of an equilibrium
pub record IsSolved (strategic prices : Bool) (game : Game) (text : List ℕ) : Type 0 where
  pub form : FormData
  pub is_form : form_in program_size strategic game (Ok form)
  pub solution : Solution
  pub one_has_all : length solution.one ≡ form.first.sequences
  pub two_has_all : length solution.two ≡ form.second.sequences
  pub proves : ProvesValue form solution
  pub holds : HoldsOn strategic game solution
  pub entries : List ℚ
  pub are_entries : entries_in strategic game solution.one solution.two (Ok entries)
  pub equilibrium : AreOfEquilibrium strategic game entries
  pub text_is : text ≡ line_text entries ++ (if prices then prices_text form solution else [])

-- what a text of `lp` is: that of a solution; but where a tree is solved subgame by subgame, the
-- line of an equilibrium that is subgame-perfect
abbrev pub IsLpText : (strategic prices perfect : Bool) → Game → List ℕ → Type 0
IsLpText strategic prices true (Extensive t) text = IsPerfectText t text
IsLpText strategic prices _ game text = IsSolved strategic prices game text

-- each text of `lp` for a game is so
abbrev pub LpTextsAreSolutions : Type 0
LpTextsAreSolutions =
    (strategic prices perfect : Bool) (game : Game) (text : List ℕ) → IsGame game
    → lp_tool strategic prices perfect game (Ok text) → IsLpText strategic prices perfect game text
