-- What the texts of verdicts say by the definition of equilibrium. Source: Nash 1951; Kuhn 1953.
use Rattle.std.specs.Prelude.{ℕ, ◌≡◌, ◌⊎◌, List, [], ◌∷◌, ◌++◌, Ok}
use Rattle.rational.specs.Rational.{ℚ}
use Rattle.game_theory.specs.Profiles.{Game}
use Rattle.game_theory.specs.Mixed.{Mixed, IsValid}
use Rattle.game_theory.specs.Equilibrium.{IsEquilibrium}
use Rattle.game_theory.specs.Lines.{entries}
use Rattle.game_theory.specs.Trees.{Tree}
use Rattle.game_theory.specs.Behaviour.{Behaviour, IsValid as IsValidBehaviour}
use Rattle.game_theory.specs.TreeEquilibrium.{IsEquilibrium as IsTreeEquilibrium}
use Rattle.game_theory.specs.TreeEntries.{tree_entries}
use Rattle.game_core.specs.Table.{GameTable, game_of, strategy_counts}
use Rattle.game_core.specs.Tree.{GameTree, IsGameTree}
use Rattle.game_core.specs.TreeGame.{game_of_tree}
use Rattle.ne_printer.specs.ReadLines.{line_in}
use Rattle.ne_printer.specs.TextLines.{lines_of}
use Rattle.ne_checker.specs.LineChecks.{table_check, tree_check}
use Rattle.verdicts.specs.TableLaws.{ShowsBetterStrategy}
use Rattle.ne_checker.specs.Texts.{better_text, equilibrium_text}
use Rattle.game_theory.specs.Recall.{AllRecall}
use Rattle.verdicts.specs.TreeVerdictLaws.{ShowsBetterReply}

-- the text says of a mixed profile that it is an equilibrium, and it is one; or it names the first
-- player who has a better strategy, and the first that pays the most
abbrev pub TellsOfMixed : Game → Mixed → List ℕ → Type 0
TellsOfMixed g m text =
    (IsEquilibrium g m × (text ≡ equilibrium_text))
    ⊎ ((player : ℕ) × (reply : ℕ) × (payoff : ℚ) × (best : ℚ)
    × ShowsBetterStrategy g m player reply payoff best
    × (text ≡ better_text player payoff best (reply ∷ [])))

-- likewise of behaviour on a tree, with a reply that pays the most: at each of the player's sets
-- the first action that is worth the most
abbrev pub TellsOfBehaviour : Tree → Behaviour → List ℕ → Type 0
TellsOfBehaviour t b text =
    (IsTreeEquilibrium t b × (text ≡ equilibrium_text))
    ⊎ ((player : ℕ) × (payoff : ℚ) × (best : ℚ) × (actions : List ℕ)
    × ShowsBetterReply t b player payoff best actions
    × (text ≡ better_text player payoff best actions))

-- a line has the entries of a valid mixed profile of a table, of which the text tells
pub record TellsOfTableLine (table : GameTable) (line text : List ℕ) : Type 0 where
  pub mixed : Mixed
  pub valid : IsValid (game_of table).strategies mixed
  pub are_entries : line_in line (Ok (entries (strategy_counts table) mixed))
  pub tells : TellsOfMixed (game_of table) mixed text

-- a line has the entries of valid behaviour on a tree, of which the text tells
pub record TellsOfTreeLine (tree : GameTree) (line text : List ℕ) : Type 0 where
  pub behaviour : Behaviour
  pub valid : IsValidBehaviour (game_of_tree tree) behaviour
  pub are_entries : line_in line (Ok (tree_entries (game_of_tree tree) behaviour))
  pub tells : TellsOfBehaviour (game_of_tree tree) behaviour text

-- a text tells of each of the lines, in order
abbrev pub TellsOfLines : (List ℕ → List ℕ → Type 0) → List (List ℕ) → List ℕ → Type 0
TellsOfLines Tells [] text = text ≡ []
TellsOfLines Tells (line ∷ lines) text =
    (first : List ℕ) × (rest : List ℕ) × Tells line first × TellsOfLines Tells lines rest
    × (text ≡ first ++ rest)

-- Each text of the check of a table tells of all its lines ..
abbrev pub TableChecksTell : Type 0
TableChecksTell =
    (table : GameTable) (lines text : List ℕ) → table_check table lines (Ok text)
    → TellsOfLines (TellsOfTableLine table) (lines_of lines) text

-- .. and each text of the check of a tree in which all players recall.
abbrev pub TreeChecksTell : Type 0
TreeChecksTell =
    (tree : GameTree) (lines text : List ℕ) → IsGameTree tree → AllRecall (game_of_tree tree)
    → tree_check tree lines (Ok text)
    → TellsOfLines (TellsOfTreeLine tree) (lines_of lines) text
