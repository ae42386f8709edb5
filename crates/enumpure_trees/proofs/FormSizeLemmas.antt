-- How many strategies a reduced form's table has.
use Rattle.std.proofs.Common.{ℕ, ◌<◌, ◌≤◌, ◌≡◌, List, [], length, map, get_or, sym, ap, ◌∙◌, subst, arith}
use Rattle.std.proofs.Math.ListN.{replicate}
use Rattle.std.proofs.lemmas.List.{length-map, length-replicate, get_or-replicate}
use Rattle.game_core.proofs.TableCountLemmas.{profile_count-table}
use Rattle.game_theory.specs.Profiles.{IsProfile, profile_count}
use Rattle.game_theory.proofs.ProfileNumberLemmas.{IsProfile-by_index}
use Rattle.game_theory.specs.Trees.{IsTree}
use Rattle.game_core.specs.Table.{IsTable, most_payoffs}
use Rattle.game_core.specs.Tree.{GameTree}
use Rattle.game_core.specs.TreeGame.{game_of_tree}
use Rattle.reduced_strategies.proofs.StrategyProfileLemmas.{strategies-count}
use Rattle.reduced_form.specs.ReducedForm.{ReducedForm, IsReducedForm}
use Rattle.reduced_form.proofs.FormCountLemmas.{counts-positive}
use Rattle.reduced_form.proofs.FormLaws.{counts-named, few_of_each}

-- the table has as many strategies as there are
pub form-counts : (t : GameTree) (form : ReducedForm) → IsReducedForm t form → map length form.table.strategies ≡ map length form.choices
form-counts t form f = ap (map length) f.names_are ∙ counts-named form.choices

-- there is a strategy for each player
pub form-players : (t : GameTree) (form : ReducedForm) → IsReducedForm t form → length (map (length {A = List ℕ}) form.choices) ≡ length t.players
form-players t form f = length-map form.choices (length {A = List ℕ}) ∙ f.are_strategies.one_for_each

-- there are few profiles
pub few_profiles : (t : GameTree) (form : ReducedForm) → IsReducedForm t form → IsTable form.table → profile_count (map length form.choices) ≤ most_payoffs
few_profiles t form f valid = subst (λ ns. profile_count ns ≤ most_payoffs) (form-counts t form f) (profile_count-table form.table valid)

-- each player has some strategies, and few
pub few_strategies : (t : GameTree) (form : ReducedForm) (i : ℕ) → IsTree (game_of_tree t) → IsReducedForm t form → IsTable form.table → i < length t.players → length (get_or form.choices i []) ≤ most_payoffs
few_strategies t form i w f valid l =
    subst (λ n. n ≤ most_payoffs) (strategies-count form.choices i) (few_of_each (map length form.choices) (counts-positive (game_of_tree t) form.choices w f.are_strategies) (few_profiles t form f valid) i 0 (omega (arith, form-players t form f)))

-- the players' first strategies are a profile
pub IsProfile-first : (t : GameTree) (form : ReducedForm) → IsTree (game_of_tree t) → IsReducedForm t form → IsProfile (map length form.choices) (replicate (length t.players) 0)
IsProfile-first t form w f =
    IsProfile-by_index (map length form.choices) (replicate (length t.players) 0) (length-replicate (length t.players) 0 ∙ sym (form-players t form f)) (λ i l.
    let zero_at = get_or-replicate {A = ℕ} (length t.players) i 0 0 (omega (arith, form-players t form f)) in
    omega (arith, zero_at, counts-positive (game_of_tree t) form.choices w f.are_strategies i 0 l))
