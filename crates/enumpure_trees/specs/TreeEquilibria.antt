-- The lines of the pure equilibria of a tree.
use Rattle.std.specs.Prelude.{ℕ, ◌≡◌, List, length, map, All, Contains}
use Rattle.game_theory.specs.TreeEntries.{tree_entries}
use Rattle.rational.specs.Rational.{ℚ}
use Rattle.game_theory.specs.Profiles.{IsProfile}
use Rattle.game_theory.specs.Mixed.{pure as pure_profile}
use Rattle.game_theory.specs.Equilibrium.{IsEquilibrium as is_table_equilibrium}
use Rattle.game_theory.specs.Lines.{AreInOrder, IsTextOf}
use Rattle.game_theory.specs.Trees.{Tree}
use Rattle.game_theory.specs.Behaviour.{pure}
use Rattle.game_theory.specs.TreeEquilibrium.{IsEquilibrium}
use Rattle.reduced_strategies.specs.StrategicForm.{completed, strategic_form}

-- the behaviour of a pure profile of reduced strategies, with the first action at each set to which
-- it gives none
abbrev pub profile_line : Tree → List (List (List ℕ)) → List ℕ → List ℚ
profile_line t strategies profile = tree_entries t (pure (completed t strategies profile))

-- a pure profile is an equilibrium of the strategic form
abbrev pub IsFormEquilibrium : Tree → List (List (List ℕ)) → List ℕ → Type 0
IsFormEquilibrium t strategies profile =
    is_table_equilibrium (strategic_form t strategies) (pure_profile profile)

-- The line of a pure profile that is an equilibrium of the strategic form. Then its behaviour is
-- one of the tree: no player has a better pure reply at the sets of the tree.
pub record IsTreeEquilibriumLine (t : Tree) (strategies : List (List (List ℕ))) (line : List ℚ)
    : Type 0 where
  pub profile : List ℕ
  pub is_profile : IsProfile (map length strategies) profile
  pub is_equilibrium : IsFormEquilibrium t strategies profile
  pub no_better_reply : IsEquilibrium t (pure (completed t strategies profile))
  pub is_line : line ≡ profile_line t strategies profile

-- The lines of the pure equilibria of a tree with these reduced strategies: in order, each the line
-- of a pure profile that is an equilibrium, and each such profile has its line.
pub record AreTreeEquilibria (t : Tree) (strategies : List (List (List ℕ)))
    (lines : List (List ℚ)) : Type 0 where
  pub in_order : AreInOrder lines
  pub sound : All (IsTreeEquilibriumLine t strategies) lines
  pub complete : (profile : List ℕ) → IsProfile (map length strategies) profile
      → IsFormEquilibrium t strategies profile → Contains lines (profile_line t strategies profile)

-- the lines one after another
abbrev pub IsTreeEquilibriaText : Tree → List (List (List ℕ)) → List ℕ → Type 0
IsTreeEquilibriaText t strategies = IsTextOf (AreTreeEquilibria t strategies)
