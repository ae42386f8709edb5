-- Profiles of reduced strategies: the lists in them, what they give the sets, and their first actions.
use Rattle.std.proofs.Common.{ℕ, suc, ◌<◌, ◌≡◌, Some, List, [], length, map, get_or, sym, ap, ◌∙◌, subst, arith}
use Rattle.std.proofs.Math.ListN as lists
use Rattle.std.proofs.lemmas.List.{length-map, ext_get_or}
use Rattle.std.proofs.lemmas.Option.{slice_get-get_or}
use Rattle.game_theory.specs.OwnSets.{own_sets}
use Rattle.game_theory.proofs.OwnSetLemmas.{own_sets-tell}
use Rattle.lists.proofs.OrderLemmas.{AreAscending-place}
use Rattle.game_theory.specs.Profiles.{IsProfile}
use Rattle.game_theory.proofs.ProfileNumberLemmas.{length-profile, profile-below}
use Rattle.game_theory.specs.Trees.{Tree, IsTree}
use Rattle.reduced_strategies.specs.Choices.{choice_at, IsReduced, AreReducedStrategies}
use Rattle.reduced_strategies.specs.StrategicForm.{AreStrategies, list_of, given_by, given_at, completed}
use Rattle.reduced_strategies.specs.Laws.{FirstActionsComplete, CompletedChoicesDetermineStrategies}
use Rattle.reduced_strategies.proofs.SetLemmas.{choice_at-among}
use Rattle.reduced_strategies.proofs.ReducedStrategyLemmas.{CompletesList, reduced-unique}

-- how many strategies a player has
pub strategies-count : (strategies : List (List (List ℕ))) (i : ℕ) → get_or (map (length {A = List ℕ}) strategies) i 0 ≡ length (get_or strategies i [])
strategies-count strategies i = lists.get_or-map (length {A = List ℕ}) strategies i []

-- a player's strategies are all reduced strategies
pub strategies-of : (t : Tree) (strategies : List (List (List ℕ))) (i : ℕ) → AreStrategies t strategies → i < t.players → AreReducedStrategies t i (get_or strategies i [])
strategies-of t strategies i a l = a.are_reduced i (get_or strategies i []) (slice_get-get_or strategies i [] (omega (arith, a.one_for_each)))

-- what a profile gives a set of player i
pub given_at-own : (t : Tree) (strategies : List (List (List ℕ))) (profile : List ℕ) (s i : ℕ) → t.owner s ≡ Some i → given_at t strategies profile s ≡ choice_at (own_sets t i) (list_of strategies profile i) s
given_at-own t strategies profile s i o = ap (given_by t strategies profile s) o

-- the profile with first actions has each action that the profile gives
completed-given : (t : Tree) (strategies : List (List (List ℕ))) (profile : List ℕ) (i : ℕ) → CompletesList t i (completed t strategies profile) (list_of strategies profile i)
completed-given t strategies profile i s h =
    let own = own_sets-tell t i s (choice_at-among (own_sets t i) (list_of strategies profile i) s h) in
    omega (arith, given_at-own t strategies profile s i own.1)

-- choices that are the same at a player's sets complete the same lists
CompletesList-same : (t : Tree) (i : ℕ) (choice other : ℕ → ℕ) (choices : List ℕ) → ((s : ℕ) → s < t.sets → t.owner s ≡ Some i → choice s ≡ other s) → CompletesList t i choice choices → CompletesList t i other choices
CompletesList-same t i choice other choices same c s h =
    let own = own_sets-tell t i s (choice_at-among (own_sets t i) choices s h) in
    c s h ∙ ap suc (same s own.0 own.1)

-- ---- the lists of a profile
-- each player's strategy in a profile is one of that player's
pub place-below : (t : Tree) (strategies : List (List (List ℕ))) (profile : List ℕ) (i : ℕ) → AreStrategies t strategies → IsProfile (map length strategies) profile → i < t.players → get_or profile i 0 < length (get_or strategies i [])
place-below t strategies profile i a f l =
    subst (λ x. get_or profile i 0 < x) (strategies-count strategies i) (profile-below (map length strategies) profile i f (omega (arith, a.one_for_each, length-map strategies (length {A = List ℕ}))))

-- each player's list in a profile is a reduced strategy
pub list_of-reduced : (t : Tree) (strategies : List (List (List ℕ))) (profile : List ℕ) (i : ℕ) → AreStrategies t strategies → IsProfile (map length strategies) profile → i < t.players → IsReduced t i (list_of strategies profile i)
list_of-reduced t strategies profile i a f l =
    (strategies-of t strategies i a l).sound (get_or profile i 0) [] (place-below t strategies profile i a f l)

-- the profile with first actions is a completion
pub first_actions-complete : FirstActionsComplete
first_actions-complete t strategies profile w a f s i l o =
    let given = given_at-own t strategies profile s i o in
    let below = (list_of-reduced t strategies profile i a f (w.owners_within s i l o)).are_actions s in
    (omega (arith, given, below, w.some_action s l), λ h. omega arith)

-- ---- completed choices tell the strategies
-- players' lists are the same in two profiles with the same completed choices
lists-same : (t : Tree) (strategies : List (List (List ℕ))) (one other : List ℕ) (i : ℕ) → IsTree t → AreStrategies t strategies → IsProfile (map length strategies) one → IsProfile (map length strategies) other
    → ((s : ℕ) → s < t.sets → t.owner s ≡ Some i → completed t strategies one s ≡ completed t strategies other s) → i < t.players → list_of strategies one i ≡ list_of strategies other i
lists-same t strategies one other i w a f g same l =
    let first = list_of-reduced t strategies one i a f l in
    let second = list_of-reduced t strategies other i a g l in
    let moved = CompletesList-same t i (completed t strategies one) (completed t strategies other) (list_of strategies one i) same (completed-given t strategies one i) in
    reduced-unique t i (completed t strategies other) (list_of strategies one i) (list_of strategies other i) w first second moved (completed-given t strategies other i)

-- and stand at the same place among the player's strategies
places-same : (t : Tree) (strategies : List (List (List ℕ))) (one other : List ℕ) (i : ℕ) → AreStrategies t strategies → IsProfile (map length strategies) one → IsProfile (map length strategies) other
    → i < t.players → list_of strategies one i ≡ list_of strategies other i → get_or one i 0 ≡ get_or other i 0
places-same t strategies one other i a f g l e =
    AreAscending-place (get_or strategies i []) (get_or one i 0) (get_or other i 0) [] (strategies-of t strategies i a l).ascending (place-below t strategies one i a f l) (place-below t strategies other i a g l) e

-- completed choices tell the reduced strategies
pub completed-tell : CompletedChoicesDetermineStrategies
completed-tell t strategies one other w a f g same =
    let count : length (map (length {A = List ℕ}) strategies) ≡ t.players = length-map strategies (length {A = List ℕ}) ∙ a.one_for_each in
    let long = length-profile (map length strategies) one f in
    ext_get_or 0 one other (long ∙ sym (length-profile (map length strategies) other g)) (λ i h. let l : i < t.players = omega (arith, count, long) in places-same t strategies one other i a f g l (lists-same t strategies one other i w a f g (λ s m o. same s i m o) l))
