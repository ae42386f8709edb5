-- Choices of one action at each of the players' sets: their number, their profiles and their lines.
use Rattle.std.proofs.Common.{ℕ, zero, suc, ◌*◌, ◌<◌, ◌≤◌, ◌≡◌, List, All, length, map, get_or, refl, sym, ap, ◌∙◌, arith, mul-pos}
use Rattle.std.specs.List.{flat_map, range_with_len}
use Rattle.std.proofs.lemmas.List.{length-map}
use Rattle.std.proofs.lemmas.List.Elements.{All-map}
use Rattle.std.proofs.Math.Nat.{mul-le-mul_left}
use Rattle.game_core.specs.Table.{most_payoffs}
use Rattle.game_theory.specs.Lines.{entries}
use Rattle.game_theory.specs.Mixed.{pure as pure_profile}
use Rattle.game_theory.specs.OwnSets.{action_counts, own_sets, player_sets}
use Rattle.game_theory.specs.Profiles.{IsProfile, profile_count}
use Rattle.game_theory.specs.Trees.{Tree, IsTree}
use Rattle.game_theory.proofs.PlayerSetLemmas.{player_sets-apart, player_sets-has, player_sets-within, tree_entries-profile}
use Rattle.game_theory.proofs.ProfileNumberLemmas.{length-profile}
use Rattle.reduced_strategies.specs.Choices.{choice_at}
use Rattle.reduced_strategies.proofs.ChoiceListLemmas.{choice_at-within, map-choice_at}
use Rattle.enumpure_trees.specs.Choices.{whole_choices}
use Rattle.game_theory.specs.Behaviour.{IsWholeChoice}
use Rattle.enumpure_trees.specs.PassingText.{choice_line}
use Rattle.enumpure_trees.specs.Values.{value_count}

-- each of the players' sets has an action
pub some_actions : (t : Tree) → IsTree t → All (λ n. 0 < n) (action_counts t)
some_actions t w = All-map (λ n. 0 < n) t.actions (player_sets t) (λ k d l. w.some_action (get_or (player_sets t) k d) (player_sets-within t k d l))

-- without players there is one choice
pub one_choice : (t : Tree) → t.players ≡ 0 → whole_choices t ≡ 1
one_choice t e = ap (λ n. profile_count (map t.actions (flat_map (own_sets t) (range_with_len 0 n)))) e

-- a value of each choice is one of each choice at least
few_choices_of : (t : Tree) (nodes : List ℕ) (n : ℕ) → n ≡ t.players → 0 < length nodes → value_count t nodes ≤ most_payoffs → whole_choices t ≤ most_payoffs
few_choices_of t nodes zero e some few = omega (arith, one_choice t (sym e))
few_choices_of t nodes (suc n) e some few =
    let each : 0 < length nodes * t.players = mul-pos some (omega arith) in
    let least : whole_choices t * 1 ≤ whole_choices t * (length nodes * t.players) = mul-le-mul_left (whole_choices t) each in
    omega (arith, least, few)

-- so there are few choices
pub few_choices : (t : Tree) (nodes : List ℕ) → 0 < length nodes → value_count t nodes ≤ most_payoffs → whole_choices t ≤ most_payoffs
few_choices t nodes some few = few_choices_of t nodes t.players refl some few

-- ---- choices
-- a profile of actions at the players' sets is a choice
pub IsWholeChoice-profile : (t : Tree) (profile : List ℕ) → IsTree t → IsProfile (action_counts t) profile → IsWholeChoice t (choice_at (player_sets t) profile)
IsWholeChoice-profile t profile w h i s l o = choice_at-within t.actions (player_sets t) profile s h (player_sets-has t s i w l o)

-- the line of the choice that a profile gives is the profile's
pub choice_line-at : (t : Tree) (profile : List ℕ) → IsProfile (action_counts t) profile → choice_line t (choice_at (player_sets t) profile) ≡ entries (action_counts t) (pure_profile profile)
choice_line-at t profile h =
    tree_entries-profile t (choice_at (player_sets t) profile) ∙ ap (λ v. entries (action_counts t) (pure_profile v)) (map-choice_at (player_sets t) profile (player_sets-apart t) (length-profile (action_counts t) profile h ∙ length-map (player_sets t) t.actions))
