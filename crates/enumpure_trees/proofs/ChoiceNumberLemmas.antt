-- What the choice with a number takes at the players' sets.
use Rattle.std.proofs.Common.{ℕ, zero, suc, ◌-◌, ◌<◌, ◌≤◌, ◌≡◌, ◌≢◌, ◌⊎◌, inl, inr, Some, List, ◌∷◌, length, drop, get_or, set, replicate, refl, sym, ap, ap₂, subst, ◌∙◌, arith, get_or-set_same, get_or-set_other}
use Rattle.std.specs.Prelude.{slice_index}
use Rattle.std.proofs.Math.Path.{fun_ext}
use Rattle.std.proofs.Math.Seq.{drop-cons}
use Rattle.std.proofs.lemmas.Bool.{cases_eq}
use Rattle.std.proofs.lemmas.List.{drop_all}
use Rattle.game_theory.specs.OwnSets.{action_counts, player_sets}
use Rattle.game_theory.specs.Profiles.{profile_at}
use Rattle.game_theory.specs.Trees.{Tree, IsTree}
use Rattle.game_theory.proofs.ProfileNumberLemmas.{IsProfile-profile_at}
use Rattle.pure_payoffs.specs.Choices.{AreActions}
use Rattle.reduced_strategies.specs.Choices.{choice_at}
use Rattle.reduced_strategies.proofs.SetLemmas.{choice_at-first, choice_at-later}
use Rattle.enumpure_trees.specs.Choices.{numbered_choice, whole_choices}
use Rattle.enumpure_trees.proofs.WholeChoiceLemmas.{IsWholeChoice-profile}

-- ---- what is chosen at them
-- the choice with a number takes one of the actions at each player's set
pub numbered-within : (t : Tree) (n s i : ℕ) → IsTree t → n < whole_choices t → s < t.sets → t.owner s ≡ Some i → numbered_choice t n s < t.actions s
numbered-within t n s i w h l o = IsWholeChoice-profile t (profile_at (action_counts t) n) w (IsProfile-profile_at (action_counts t) n h) i s l o

-- ---- a list of actions
-- zeros, read
zeros-read : (n s : ℕ) → get_or (replicate {A = ℕ} n zero) s zero ≡ zero
zeros-read zero s = refl
zeros-read (suc n) zero = refl
zeros-read (suc n) (suc s) = zeros-read n s

-- after the last set nothing is chosen
pub nothing-written : (n : ℕ) (sets choices : List ℕ) (s : ℕ) → get_or (replicate {A = ℕ} n zero) s zero ≡ choice_at (drop (length sets) sets) (drop (length sets) choices) s
nothing-written n sets choices s = zeros-read n s ∙ sym (ap (λ rest. choice_at rest (drop (length sets) choices) s) (drop_all (length sets) sets (omega arith)))

-- from the last set on, what is chosen is written at one set more
pub choice-written : (actions sets choices : List ℕ) (number : ℕ) → 0 < number → number ≤ length sets → length choices ≡ length sets → get_or sets (number - 1) 0 < length actions → ((s : ℕ) → get_or actions s 0 ≡ choice_at (drop number sets) (drop number choices) s)
    → (s : ℕ) → get_or (set actions (get_or sets (number - 1) 0) (get_or choices (number - 1) 0)) s 0 ≡ choice_at (drop (number - 1) sets) (drop (number - 1) choices) s
choice-written actions sets choices number some within long inside written s =
    rw (ap₂ (λ x y. choice_at x y s) (before sets (omega arith)) (before choices (omega arith))) (go (cases_eq (get_or sets (number - 1) 0) s))
  where
    before : (xs : List ℕ) → number ≤ length xs → drop (number - 1) xs ≡ get_or xs (number - 1) 0 ∷ drop number xs
    before xs l = let same : suc (number - 1) ≡ number = omega arith in drop-cons xs (number - 1) 0 (omega arith) ∙ ap (λ k. get_or xs (number - 1) 0 ∷ drop k xs) same

    go : (get_or sets (number - 1) 0 ≡ s) ⊎ (get_or sets (number - 1) 0 ≢ s)
        → get_or (set actions (get_or sets (number - 1) 0) (get_or choices (number - 1) 0)) s 0 ≡ choice_at (get_or sets (number - 1) 0 ∷ drop number sets) (get_or choices (number - 1) 0 ∷ drop number choices) s
    go (inl e) =
        ap (λ v. get_or (set actions (get_or sets (number - 1) 0) (get_or choices (number - 1) 0)) v 0) (sym e)
        ∙ get_or-set_same actions (get_or sets (number - 1) 0) (get_or choices (number - 1) 0) 0 inside
        ∙ sym (choice_at-first (get_or sets (number - 1) 0) (get_or choices (number - 1) 0) s (drop number sets) (drop number choices) e)
    go (inr ne) =
        get_or-set_other actions (get_or sets (number - 1) 0) s (get_or choices (number - 1) 0) 0 (λ e. ne (sym e))
        ∙ written s
        ∙ sym (choice_at-later (get_or sets (number - 1) 0) (get_or choices (number - 1) 0) s (drop number sets) (drop number choices) ne)

-- a list that has at each set what the profile with a number chooses there has the choice with that number
pub chosen-is : (t : Tree) (n : ℕ) (sets counts profile written actions : List ℕ) → sets ≡ player_sets t → counts ≡ action_counts t → profile ≡ profile_at counts n → ((s : ℕ) → slice_index written s ≡ choice_at sets profile s) → actions ≡ written → slice_index actions ≡ numbered_choice t n
chosen-is t n sets counts profile written actions of_players have digits are same =
    fun_ext {B = λ _. ℕ} (λ s. ap (λ xs. get_or xs s 0) same ∙ are s ∙ ap₂ (λ x y. choice_at x y s) of_players (digits ∙ ap (λ ns. profile_at ns n) have))

-- and so an action at each player's set
pub actions-are : (t : Tree) (n : ℕ) (actions : List ℕ) → IsTree t → n < whole_choices t → length actions ≡ t.sets → slice_index actions ≡ numbered_choice t n → AreActions t actions
actions-are t n actions w l long is =
    record { one_for_each = long; are_actions = λ i s below owned. subst (λ (f : ℕ → ℕ). f s < t.actions s) (sym is) (numbered-within t n s i w l below owned) }
