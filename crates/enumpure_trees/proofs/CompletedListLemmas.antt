-- Completed lists tell a player's strategies.
use Rattle.std.proofs.Common.{ℕ, ◌-◌, ◌<◌, ◌≡◌, inl, inr, List, [], ◌∷◌, length, get_or, refl, sym, ap, ◌∙◌, arith}
use Rattle.std.proofs.lemmas.Bool.{cases_eq}
use Rattle.game_theory.specs.OwnSets.{own_sets}
use Rattle.lists.proofs.OrderLemmas.{AreAscending-place}
use Rattle.game_theory.specs.Trees.{Tree, IsTree}
use Rattle.reduced_strategies.specs.Choices.{choice_at}
use Rattle.reduced_strategies.specs.StrategicForm.{AreStrategies}
use Rattle.reduced_strategies.proofs.ReducedStrategyLemmas.{CompletesList, reduced-unique}
use Rattle.reduced_strategies.proofs.SetLemmas.{choice_at-first, choice_at-later}
use Rattle.reduced_strategies.proofs.StrategyProfileLemmas.{strategies-of}
use Rattle.enumpure_trees.specs.Orders.{completed_list, completed_of}
use Rattle.enumpure_trees.specs.StrategyOrders.{AreToldApart}

-- what a completed list gives a set
choice_at-completed : (sets choices : List ℕ) (s : ℕ) → choice_at sets (completed_list choices) s ≡ choice_at sets choices s - 1
choice_at-completed [] choices s = refl
choice_at-completed (set ∷ sets) [] s = refl
choice_at-completed (set ∷ sets) (choice ∷ choices) s =
    elim (cases_eq set s) [
      | inl e ↦ choice_at-first set (choice - 1) s sets (completed_list choices) e ∙ ap (λ c. c - 1) (sym (choice_at-first set choice s sets choices e))
      | inr e ↦ choice_at-later set (choice - 1) s sets (completed_list choices) e ∙ choice_at-completed sets choices s ∙ ap (λ c. c - 1) (sym (choice_at-later set choice s sets choices e))
    ]

-- a list with these completed actions is completed by them
CompletesList-completed : (t : Tree) (i : ℕ) (choices completed : List ℕ) → completed ≡ completed_list choices → CompletesList t i (choice_at (own_sets t i) completed) choices
CompletesList-completed t i choices completed e s h =
    omega (arith, ap (λ x. choice_at (own_sets t i) x s) e ∙ choice_at-completed (own_sets t i) choices s)

-- a player's strategies differ also when they are completed
pub AreToldApart-strategies : (t : Tree) (strategies : List (List (List ℕ))) (i : ℕ) → IsTree t → AreStrategies t strategies → i < t.players → AreToldApart (get_or strategies i [])
AreToldApart-strategies t strategies i w a l =
    let list = get_or strategies i [] in
    let are = strategies-of t strategies i a l in
    record {
      long = length (own_sets t i);
      are_long = λ d h. (are.sound d [] h).one_for_each;
      tell = λ d e h k same. AreAscending-place list d e [] are.ascending h k (reduced-unique t i (choice_at (own_sets t i) (completed_of list d)) (get_or list d []) (get_or list e []) w (are.sound d [] h) (are.sound e [] k) (CompletesList-completed t i (get_or list d []) (completed_of list d) refl) (CompletesList-completed t i (get_or list e []) (completed_of list d) same));
    }
