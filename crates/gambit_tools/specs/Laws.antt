-- What each text of a tool says of the game that the bytes of its input stand for, or that is made;
-- and what each refusal that names a step says of it.
use Rattle.std.specs.Prelude.{ℕ, ◌≡◌, Bool, List, [], ◌∷◌, Ok, Err}
use Rattle.frac128.specs.Steps.{Step, StepFits}
use Rattle.game_core.specs.declared.game.Game.{Game}
use Rattle.game_core.specs.MadeTables.{made_table}
use Rattle.game_core.specs.Table.{game_of}
use Rattle.outside.specs.Inputs.{InputName}
use Rattle.tree_grammar.specs.declared.kinds.EfgKind.{EfgKind}
use Rattle.tree_grammar.specs.declared.kinds.EfgKind.TheVariants as efg_kind
use Rattle.words.specs.Words.{Command, Enumpure, Enummixed, Lcp, Lp, Convert, Check, Make}
use Rattle.words.specs.declared.Layout.{Layout}
use Rattle.two_player_tools.specs.LcpLaws.{IsLcpText}
use Rattle.two_player_tools.specs.LpLaws.{IsLpText}
use Rattle.gambit_tools.specs.Check.{IsCheckText}
use Rattle.gambit_tools.specs.Commands.{answer_of}
use Rattle.gambit_tools.specs.Convert.{IsLayoutText}
use Rattle.gambit_tools.specs.Enummixed.{IsExtremeText}
use Rattle.gambit_tools.specs.Enumpure.{IsPureText}
use Rattle.gambit_tools.specs.Games.{game_in}
use Rattle.gambit_tools.specs.Make.{IsCountsText}
use Rattle.refusals.specs.declared.refusal.Refusal.{Refusal}
use Rattle.refusals.specs.declared.refusal.Refusal.TheVariants as refusal

-- Each text of `enumpure` lists the pure equilibria, or with `-A` or `-P` on a tree the choices
-- that pass; that of `enummixed` lists the extreme ones, that of `lcp` is the line of an
-- equilibrium, that of `lp` that of a solution, or with `-P` on a tree of an equilibrium in every
-- subgame; that of `convert` is the layout of the strategic form, that of `check` tells of each
-- line, and that of `make` counts.
pub record TextsHoldForTheGame : Type 0 where
  pub enumpure : (strategic agents perfect : Bool) (file : InputName) (bytes text : List ℕ)
      → answer_of (Enumpure strategic agents perfect file) (bytes ∷ []) (Ok text)
      → (game : Game) × game_in bytes (Ok game) × IsPureText strategic agents perfect game text
  pub enummixed : (all : Bool) (workers : ℕ) (file : InputName) (bytes text : List ℕ)
      → answer_of (Enummixed all workers file) (bytes ∷ []) (Ok text)
      → (game : Game) × game_in bytes (Ok game) × IsExtremeText game text
  pub lcp : (strategic perfect : Bool) (file : InputName) (bytes text : List ℕ)
      → answer_of (Lcp strategic perfect file) (bytes ∷ []) (Ok text)
      → (game : Game) × game_in bytes (Ok game) × IsLcpText strategic perfect game text
  pub lp : (strategic prices perfect : Bool) (file : InputName) (bytes text : List ℕ)
      → answer_of (Lp strategic prices perfect file) (bytes ∷ []) (Ok text)
      → (game : Game) × game_in bytes (Ok game) × IsLpText strategic prices perfect game text
  pub convert : (shape : Layout) (row column : ℕ) (file : InputName) (bytes text : List ℕ)
      → answer_of (Convert shape row column file) (bytes ∷ []) (Ok text)
      → (game : Game) × game_in bytes (Ok game) × IsLayoutText shape row column game text
  pub check : (strategic : Bool) (name : List ℕ) (file : InputName) (bytes lines text : List ℕ)
      → answer_of (Check strategic name file) (bytes ∷ lines ∷ []) (Ok text)
      → (game : Game) × game_in bytes (Ok game) × IsCheckText strategic game lines text
  pub make : (number rows columns workers : ℕ) (text : List ℕ)
      → answer_of (Make number rows columns workers) [] (Ok text)
      → IsCountsText (game_of (made_table number rows columns)) text

-- a fault of a tree's file names this step
abbrev pub FaultNamesStep : EfgKind → Step → Type 0
FaultNamesStep (efg_kind.ProbabilityRange set named) step = named ≡ step
FaultNamesStep _ step = ⊥

-- a refusal names this step
abbrev pub NamesStep : Refusal → Step → Type 0
NamesStep (refusal.Efg fault) step = FaultNamesStep fault.kind step
NamesStep (refusal.Range place named) step = named ≡ step
NamesStep (refusal.SubgameRange node place named) step = named ≡ step
NamesStep _ step = ⊥

-- The step that a refusal names does not fit.
abbrev pub RangesDoNotFit : Type 0
RangesDoNotFit =
    (command : Command) (contents : List (List ℕ)) (r : Refusal) (step : Step)
    → answer_of command contents (Err r) → NamesStep r step → ¬ (StepFits step)
