-- What a text is where a tree is solved subgame by subgame. Source: Selten 1965.
use Rattle.std.specs.Prelude.{ℕ, ◌≡◌, List}
use Rattle.game_theory.specs.Behaviour.{Behaviour}
use Rattle.game_theory.specs.Lines.{line_text}
use Rattle.game_theory.specs.TreeEntries.{tree_entries}
use Rattle.game_core.specs.Tree.{GameTree}
use Rattle.game_core.specs.TreeGame.{game_of_tree}
use Rattle.subgames.specs.Perfect.{IsSubgamePerfect}

-- a text is the line of behaviour that is an equilibrium in every subgame
abbrev pub IsPerfectText : GameTree → List ℕ → Type 0
IsPerfectText t text =
    (b : Behaviour) × IsSubgamePerfect (game_of_tree t) b
    × (text ≡ line_text (tree_entries (game_of_tree t) b))
