-- The reduced strategic form of a tree, as contracts see it. Source: von Stengel 1996.
use Rattle.std.specs.Prelude.{ℕ, ◌<◌, ◌≡◌, ◌==◌, nat_le, if◌then◌else◌, List, [], ◌∷◌, ◌++◌, length, map, codes, refl}
use Rattle.std.specs.Coded.{Coded, code_by, coded×, coded_ℕ, coded_list}
use Rattle.std.specs.List.{flat_map}
use Rattle.std.specs.Fmt.{decimal}
use Rattle.game_theory.specs.Profiles.{IsProfile, profile_count, number_of}
use Rattle.game_theory.specs.Behaviour.{payoff, pure}
use Rattle.reduced_strategies.specs.StrategicForm.{AreStrategies, IsCompletion, strategic_form}
use Rattle.game_core.specs.Table.{GameTable, IsTable, code_of_table, game_of}
use Rattle.game_core.specs.Tree.{GameTree}
use Rattle.game_core.specs.TreeGame.{game_of_tree}

-- for each player the reduced strategies, each as a list of actions at the player's own sets; and
-- the table of their profiles
pub record ReducedForm : Type 0 where
  pub choices : List (List (List ℕ))
  pub table : GameTable

-- a reduced form is stored as its two parts
abbrev pub code_of_form : Coded ReducedForm
code_of_form =
    code_by (List (List (List ℕ)) × GameTable)
    (coded× (coded_list (coded_list (coded_list coded_ℕ))) code_of_table)
    (λ f. (f.choices, f.table)) (λ p. record { choices = p.0; table = p.1 }) (λ _. refl)

-- an action in a strategy's name: its number, in parentheses above 9, and `*` for none
abbrev pub action_text : ℕ → List ℕ
action_text n =
    if n == 0 then codes "*"
    else (if nat_le n 9 then decimal n else codes "(" ++ decimal n ++ codes ")")

-- a strategy's name: its actions one after another, and `*` where the player has no sets
abbrev pub strategy_name : List ℕ → List ℕ
strategy_name [] = codes "*"
strategy_name (n ∷ choices) = flat_map action_text (n ∷ choices)

-- The reduced form of a tree: all reduced strategies of each player in order, and the table of the
-- strategic form, with the tree's title and players and the strategies' names.
pub record IsReducedForm (t : GameTree) (form : ReducedForm) : Type 0 where
  pub are_strategies : AreStrategies (game_of_tree t) form.choices
  pub title_is : form.table.title ≡ t.title
  pub players_are : form.table.players ≡ t.players
  pub names_are : form.table.strategies ≡ map (map strategy_name) form.choices
  pub is_table : IsTable form.table
  pub pays : (i k : ℕ) → i < length t.players → k < profile_count (map length form.choices)
      → (game_of form.table).pays i k ≡ (strategic_form (game_of_tree t) form.choices).pays i k

-- each cell is what every completion of its profile pays on the tree
abbrev pub PaysCompletions : GameTree → ReducedForm → Type 0
PaysCompletions t form =
    (profile : List ℕ) (choice : ℕ → ℕ) (i : ℕ) → IsProfile (map length form.choices) profile
    → IsCompletion (game_of_tree t) form.choices profile choice
    → i < length t.players
    → payoff (game_of_tree t) (pure choice) i
    ≡ (game_of form.table).pays i (number_of (map length form.choices) profile)
