-- The tool `enumpure`: the text of a game's pure equilibria, or of those of its agent form or in
-- its subgames.
use Rattle.std.specs.Prelude.{ℕ, Bool, false, List, Ok}
use Rattle.answers.specs.Answers.{Answer, ◌>>=◌, refused_by}
use Rattle.game_core.specs.Table.{GameTable, game_of}
use Rattle.game_core.specs.Tree.{GameTree}
use Rattle.game_core.specs.TreeGame.{game_of_tree}
use Rattle.game_core.specs.declared.game.Game.{Game}
use Rattle.game_core.specs.declared.game.Game.TheVariants.{Extensive}
use Rattle.reduced_form.specs.ReducedForm.{ReducedForm}
use Rattle.reduced_form.specs.Stops.{reduced_form_of}
use Rattle.enumpure.specs.Stops.{pure_text}
use Rattle.enumpure.specs.Text.{IsPureEquilibriaText}
use Rattle.enumpure_trees.specs.Stops.{behaviour_text}
use Rattle.enumpure_trees.specs.TreeEquilibria.{IsTreeEquilibriaText}
use Rattle.refusals.specs.Told.{choice_refusal, form_refusal, list_refusal}
use Rattle.refusals.specs.declared.refusal.Refusal.{Refusal}
use Rattle.enumpure_trees.specs.PassingStops.{passing_text}
use Rattle.enumpure_trees.specs.PassingText.{IsPassingText}
use Rattle.two_player_tools.specs.StrategicForms.{strategic_table}

-- The answer for a tree as behaviour: its pure equilibria; but where the agent form or subgames are
-- asked for, the choices of one action at each player's set that pass.
abbrev pub tree_answer : (agents perfect : Bool) → GameTree → Answer Refusal (List ℕ)
tree_answer false false tree = do
  form ← refused_by form_refusal (reduced_form_of tree)
  refused_by list_refusal (behaviour_text (game_of_tree tree) form.choices)
tree_answer agents perfect tree =
    refused_by choice_refusal (passing_text agents perfect (game_of_tree tree))

-- The answer of `enumpure`: the pure equilibria of the game's strategic form, by strategies; but
-- those of a tree as behaviour, unless strategies are asked for.
abbrev pub enumpure : (strategic agents perfect : Bool) → Game → Answer Refusal (List ℕ)
enumpure false agents perfect (Extensive tree) = tree_answer agents perfect tree
enumpure _ agents perfect game = do
  table ← strategic_table game
  refused_by list_refusal (pure_text (game_of table))

-- ---- what each text is
-- The text has the lines of exactly the pure equilibria of a tree as behaviour; but where the agent
-- form or subgames are asked for, of exactly the choices that pass.
abbrev pub IsTreeText : (agents perfect : Bool) → GameTree → List ℕ → Type 0
IsTreeText false false tree text =
    (form : ReducedForm) × reduced_form_of tree (Ok form)
    × IsTreeEquilibriaText (game_of_tree tree) form.choices text
IsTreeText agents perfect tree text = IsPassingText agents perfect (game_of_tree tree) text

-- The text has the lines of exactly the pure equilibria of the game's strategic form, by
-- strategies; but those of a tree as behaviour, unless strategies are asked for.
abbrev pub IsPureText : (strategic agents perfect : Bool) → Game → List ℕ → Type 0
IsPureText false agents perfect (Extensive tree) text = IsTreeText agents perfect tree text
IsPureText _ agents perfect game text =
    (table : GameTable) × strategic_table game (Ok table)
    × IsPureEquilibriaText (game_of table) text
