-- The table of a reduced form, and that its cells are those of the strategic form.
use Rattle.std.proofs.Common.{ℕ, ◌*◌, ◌<◌, ◌≤◌, ◌≡◌, List, [], ◌∷◌, length, map, get_or, All, refl, sym, ap, ap₂, ◌∙◌, subst, arith}
use Rattle.std.proofs.lemmas.List.{length-map, get_or-map, get_or_default}
use Rattle.lists.proofs.NumberLemmas.{place-inside}
use native.Mathlib.Nat as N
use Rattle.rational.specs.Rational.{ℚ}
use Rattle.game_theory.specs.Profiles.{profile_count, number_of}
use Rattle.game_theory.proofs.ProfileNumberLemmas.{number_of-below, profile_at-number_of}
use Rattle.game_theory.specs.Trees.{IsTree as is_game_tree}
use Rattle.game_theory.specs.Behaviour.{payoff, pure}
use Rattle.reduced_strategies.specs.StrategicForm.{AreStrategies, completed}
use Rattle.reduced_strategies.proofs.CompletionLemmas.{completions-pay}
use Rattle.game_core.specs.Table.{GameTable, IsTable, most_payoffs}
use Rattle.game_core.specs.Tree.{GameTree}
use Rattle.game_core.specs.TreeGame.{game_of_tree}
use Rattle.reduced_form.specs.Cells.{AreCells}
use Rattle.reduced_form.specs.ReducedForm.{ReducedForm, IsReducedForm, PaysCompletions, strategy_name}
use Rattle.reduced_form.proofs.FormCountLemmas.{profile_count-player, counts-positive}

-- ---- sizes
-- there are no more profiles than payoffs may be
pub few_profiles : (players : ℕ) (counts : List ℕ) → length counts ≡ players → players * profile_count counts ≤ most_payoffs → profile_count counts ≤ most_payoffs
few_profiles players [] l h = omega arith
few_profiles players (n ∷ counts) l h = let room : 1 * profile_count (n ∷ counts) ≤ players * profile_count (n ∷ counts) = N.mul-le-mul_right (profile_count (n ∷ counts)) (omega arith) in omega arith

-- and no player has more strategies
pub few_of_each : (counts : List ℕ) → All (λ n. 0 < n) counts → profile_count counts ≤ most_payoffs → All (λ n. n ≤ most_payoffs) counts
few_of_each counts positive few k d l = omega (arith, get_or_default counts k d 0 l, profile_count-player counts k positive)

-- ---- the table
-- names do not change how many strategies there are
pub counts-named : (strategies : List (List (List ℕ))) → map length (map (map strategy_name) strategies) ≡ map length strategies
counts-named [] = refl
counts-named (list ∷ lists) = ap₂ (λ x y. x ∷ y) (length-map list strategy_name) (counts-named lists)

-- the table of strategies with these payoffs
abbrev pub form_table : GameTree → List (List (List ℕ)) → List ℚ → GameTable
form_table t strategies payoffs = record { title = t.title; players = t.players; strategies = map (map strategy_name) strategies; payoffs = payoffs }

-- it is a table
pub form_table-is_table : (t : GameTree) (strategies : List (List (List ℕ))) (payoffs : List ℚ) → is_game_tree (game_of_tree t) → AreStrategies (game_of_tree t) strategies
    → length payoffs ≡ length t.players * profile_count (map length strategies) → length t.players * profile_count (map length strategies) ≤ most_payoffs → IsTable (form_table t strategies payoffs)
form_table-is_table t strategies payoffs w a long few = record {
  strategies_of_each = length-map strategies (map strategy_name) ∙ a.one_for_each;
  some_strategy = λ k d l.
      let counts : List ℕ = map length (map (map strategy_name) strategies) in
      let inside : k < length counts = omega (arith, length-map (map (map strategy_name) strategies) (length {A = List ℕ})) in
      let some : 0 < get_or counts k 0 = subst (All (λ n. 0 < n)) (sym (counts-named strategies)) (counts-positive (game_of_tree t) strategies w a) k 0 inside in
      subst (λ x. 0 < x) (get_or-map length (map (map strategy_name) strategies) k d 0 l) some;
  payoffs_of_each = long ∙ ap (λ ns. length t.players * profile_count ns) (sym (counts-named strategies));
  few_payoffs = omega arith;
}

-- ---- the form
-- the reduced form with these strategies and payoffs
pub form-is_form : (t : GameTree) (strategies : List (List (List ℕ))) (payoffs : List ℚ) (table : GameTable) → is_game_tree (game_of_tree t) → AreStrategies (game_of_tree t) strategies → table ≡ form_table t strategies payoffs
    → length payoffs ≡ length t.players * profile_count (map length strategies) → length t.players * profile_count (map length strategies) ≤ most_payoffs → AreCells (game_of_tree t) strategies payoffs
    → IsReducedForm t (record { choices = strategies; table = table })
form-is_form t strategies payoffs table w a is long few cells = subst (λ (x : GameTable). IsReducedForm t (record { choices = strategies; table = x })) (sym is) (record {
  are_strategies = a;
  title_is = refl;
  players_are = refl;
  names_are = refl;
  is_table = form_table-is_table t strategies payoffs w a long few;
  pays = λ i k l h. cells k i l (omega (arith, place-inside (profile_count (map length strategies)) (length t.players) k i h l));
})

-- each cell is what every completion pays
pub form-pays_completions : (t : GameTree) (form : ReducedForm) → is_game_tree (game_of_tree t) → IsReducedForm t form → PaysCompletions t form
form-pays_completions t form w f profile choice i p c l =
    let ns : List ℕ = map length form.choices in
    completions-pay (game_of_tree t) form.choices profile choice i w f.are_strategies p c
    ∙ ap (λ x. payoff (game_of_tree t) (pure (completed (game_of_tree t) form.choices x)) i) (sym (profile_at-number_of ns profile p))
    ∙ sym (f.pays i (number_of ns profile) l (number_of-below ns profile p))
