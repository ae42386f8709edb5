-- What a tree's reduced form is, and that want of memory is no reason why there is none.
use Rattle.std.proofs.Common.{ℕ, ◌*◌, ◌≤◌, ◌≡◌, inl, inr, Ok, Err, List, map, length, subst, arith}
use Rattle.answers.specs.Answers.{Gives}
use Rattle.game_theory.specs.Profiles.{profile_count}
use Rattle.game_theory.specs.Trees.{Tree}
use Rattle.reduced_strategies.specs.StrategicForm.{AreStrategies}
use Rattle.game_core.specs.Table.{most_payoffs}
use Rattle.game_core.specs.Tree.{GameTree}
use Rattle.game_core.specs.TreeGame.{game_of_tree}
use Rattle.reduced_form.specs.Counts.{AreCounted, counts_in}
use Rattle.reduced_form.specs.Limits.{choices_of, most_choices}
use Rattle.reduced_form.specs.ReducedForm.{ReducedForm, IsReducedForm}
use Rattle.reduced_form.specs.Stops.{cells_in, reduced_form_of, within_limits}
use Rattle.reduced_form.specs.declared.stop.ReduceStop.{ReduceStop}
use Rattle.reduced_form.specs.declared.stop.ReduceStop.TheVariants as stops
use Rattle.reduced_form.proofs.FormCountLemmas.{choice_count-by, counted-same}

-- what is given is a reduced form
pub form_of : (tree : GameTree) (form : ReducedForm) → reduced_form_of tree (Ok form) → IsReducedForm tree form
form_of tree form h = h.2.2.2.0

-- ---- the stages
-- both counts are within their limits
pub form-within : (t : Tree) (counts : List ℕ) (strategies : List (List (List ℕ))) → AreCounted t counts → AreStrategies t strategies → t.players * profile_count counts ≤ most_payoffs → choices_of t counts ≤ most_choices → within_limits t strategies (Ok tt)
form-within t counts strategies h a payoffs choices =
    let same : counts ≡ map length strategies = counted-same t counts strategies h a in
    let few = subst (λ ns. t.players * profile_count ns ≤ most_payoffs) same payoffs in
    (tt, (λ more. omega arith), (λ more. omega (arith, choice_count-by t strategies counts same)))

-- so there are no more payoffs than may be
pub few_payoffs : (t : Tree) (strategies : List (List (List ℕ))) → within_limits t strategies (Ok tt) → t.players * profile_count (map length strategies) ≤ most_payoffs
few_payoffs t strategies h = omega (arith, h.1)

-- a stop of the counts is one of the form
pub counts_stop : (tree : GameTree) (stop : ReduceStop) → Gives stops.Memory (counts_in (game_of_tree tree)) (Err stop) → Gives stops.Memory (reduced_form_of tree) (Err stop)
counts_stop tree stop (inl e) = inl e
counts_stop tree stop (inr (inl h)) = absurd h
counts_stop tree stop (inr (inr (strategies, a, h))) = inr (inr (strategies, a, inl h))

-- a stop of the cells is one of the form
pub cells_stop : (tree : GameTree) (strategies : List (List (List ℕ))) (stop : ReduceStop) → AreStrategies (game_of_tree tree) strategies → within_limits (game_of_tree tree) strategies (Ok tt)
    → Gives stops.Memory (cells_in (game_of_tree tree) strategies) (Err stop) → Gives stops.Memory (reduced_form_of tree) (Err stop)
cells_stop tree strategies stop a few (inl e) = inl e
cells_stop tree strategies stop a few (inr h) = inr (inr (strategies, a, inr (tt, few, inl h)))
