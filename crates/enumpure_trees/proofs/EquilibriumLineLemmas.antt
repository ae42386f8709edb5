-- Lines tell profiles, and a tree has at most one list of equilibria.
use Rattle.std.proofs.Common.{ℕ, ◌<◌, ◌≡◌, Some, List, length, map, Contains, sym, ap, ◌∙◌, subst}
use Rattle.std.proofs.lemmas.List.Elements.{All-contains}
use Rattle.game_theory.specs.TreeEntries.{tree_entries}
use Rattle.game_theory.proofs.OwnSetLemmas.{IsAmong}
use Rattle.rational.specs.Rational.{ℚ}
use Rattle.game_theory.specs.Profiles.{IsProfile}
use Rattle.game_theory.specs.Lines.{lines_text}
use Rattle.game_theory.proofs.LineOrderLemmas.{AreInOrder-determined}
use Rattle.game_theory.proofs.ProfileLineLemmas.{entries_pure-injective}
use Rattle.game_theory.specs.Trees.{Tree, IsTree}
use Rattle.game_theory.specs.Behaviour.{pure, IsWholeChoice}
use Rattle.reduced_strategies.specs.Choices.{choice_at}
use Rattle.reduced_strategies.specs.StrategicForm.{AreStrategies, completed}
use Rattle.reduced_strategies.proofs.SetLemmas.{choice_at-map}
use Rattle.reduced_strategies.proofs.StrategyProfileLemmas.{first_actions-complete, completed-tell}
use Rattle.enumpure_trees.specs.Laws.{LinesDetermineProfiles, OneTextOfEquilibria}
use Rattle.enumpure_trees.specs.TreeEquilibria.{IsTreeEquilibriumLine, AreTreeEquilibria}
use Rattle.game_theory.specs.OwnSets.{player_sets}
use Rattle.game_theory.proofs.PlayerSetLemmas.{IsProfile-whole, player_sets-has, tree_entries-profile}

-- ---- lines tell profiles
-- functions with equal values at the sets
values-same : (f g : ℕ → ℕ) (sets : List ℕ) (s : ℕ) → map f sets ≡ map g sets → IsAmong sets s → f s ≡ g s
values-same f g sets s e m = sym (choice_at-map f sets s m) ∙ ap (λ x. choice_at sets x s) e ∙ choice_at-map g sets s m

-- equal lines are of equal actions
entries-tell : (t : Tree) (f g : ℕ → ℕ) (s i : ℕ) → IsTree t → IsWholeChoice t f → IsWholeChoice t g → tree_entries t (pure f) ≡ tree_entries t (pure g) → s < t.sets → t.owner s ≡ Some i → f s ≡ g s
entries-tell t f g s i w a b e l o =
    let same = sym (tree_entries-profile t f) ∙ e ∙ tree_entries-profile t g in
    let values = entries_pure-injective (map t.actions (player_sets t)) (map f (player_sets t)) (map g (player_sets t)) (IsProfile-whole t f a) (IsProfile-whole t g b) same in
    values-same f g (player_sets t) s values (player_sets-has t s i w l o)

-- a completed profile has an action at each player's set
pub completed-actions : (t : Tree) (strategies : List (List (List ℕ))) (profile : List ℕ) → IsTree t → AreStrategies t strategies → IsProfile (map length strategies) profile → IsWholeChoice t (completed t strategies profile)
completed-actions t strategies profile w a f i s l o = (first_actions-complete t strategies profile w a f s i l o).0

-- two profiles never have the same line
pub lines-tell : LinesDetermineProfiles
lines-tell t strategies one other w a f g e =
    completed-tell t strategies one other w a f g (λ s i l o. entries-tell t (completed t strategies one) (completed t strategies other) s i w (completed-actions t strategies one w a f) (completed-actions t strategies other w a g) e l o)

-- ---- one list of equilibria
-- each line of one list of a tree's equilibria stands in any other
equilibria-within : (t : Tree) (strategies : List (List (List ℕ))) (one other : List (List ℚ)) → AreTreeEquilibria t strategies one → AreTreeEquilibria t strategies other → (z : List ℚ) → Contains one z → Contains other z
equilibria-within t strategies one other p q z c =
    let line = All-contains (IsTreeEquilibriumLine t strategies) one z p.sound c in
    subst (λ v. Contains other v) (sym line.is_line) (q.complete line.profile line.is_profile line.is_equilibrium)

-- a tree has at most one list of equilibria
pub equilibria-determined : (t : Tree) (strategies : List (List (List ℕ))) (one other : List (List ℚ)) → AreTreeEquilibria t strategies one → AreTreeEquilibria t strategies other → one ≡ other
equilibria-determined t strategies one other p q =
    AreInOrder-determined one other p.in_order q.in_order (equilibria-within t strategies one other p q) (equilibria-within t strategies other one q p)

-- a tree has at most one text of equilibria
pub text-determined : OneTextOfEquilibria
text-determined t strategies one other p q =
    p.is_text ∙ ap lines_text (equilibria-determined t strategies p.lines q.lines p.are_lines q.are_lines) ∙ sym q.is_text
