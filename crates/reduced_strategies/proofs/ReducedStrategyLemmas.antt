-- Every choice of actions completes exactly one reduced strategy.
use Rattle.std.proofs.Common.{ℕ, zero, suc, ◌<◌, ◌≤◌, ◌≡◌, ◌↔◌, inl, inr, Bool, true, false, Some, List, map, refl, sym, ◌∙◌, subst, arith}
use Rattle.std.specs.Prelude.{if◌then◌else◌}
use Rattle.std.proofs.lemmas.List.{length-map}
use Rattle.std.proofs.lemmas.Bool.{cases_lt}
use Rattle.game_theory.specs.OwnSets.{own_sets}
use Rattle.game_theory.proofs.OwnSetLemmas.{IsAmong, own_sets-has, own_sets-tell, own_sets-ascend}
use Rattle.game_theory.specs.Trees.{Tree, IsTree}
use Rattle.game_theory.specs.Behaviour.{IsChoice}
use Rattle.reduced_strategies.specs.Choices.{choice_at, IsReachedUnder, IsReduced}
use Rattle.reduced_strategies.specs.Laws.{ChoicesHaveReduced}
use Rattle.reduced_strategies.proofs.SetLemmas.{choice_at-map, choice_at-among, choice_at-determines}
use Rattle.reduced_strategies.proofs.ReachedSetLemmas.{is_reached, is_reached-decides, SameWhereReached, SameWhereReached-sym, IsReached-same}

-- choices complete a list: at each set to which the list gives an action they have that action
abbrev pub CompletesList : Tree → ℕ → (ℕ → ℕ) → List ℕ → Type 0
CompletesList t i choice choices = (s : ℕ) → 0 < choice_at (own_sets t i) choices s → choice_at (own_sets t i) choices s ≡ suc (choice s)

-- ---- the reduced strategy of a choice
-- the action where a set is reached, and none elsewhere
abbrev action_where : Bool → ℕ → ℕ
action_where b a = if b then suc a else 0

-- the action at each set that is reached
abbrev reached_action : Tree → ℕ → (ℕ → ℕ) → ℕ → ℕ
reached_action t i choice s = action_where (is_reached t i (λ x. suc (choice x)) s) (choice s)

-- the reduced strategy of a choice
abbrev pub reduced : Tree → ℕ → (ℕ → ℕ) → List ℕ
reduced t i choice = map (reached_action t i choice) (own_sets t i)

-- where there is an action, the test holds, and the action is that one
action_where-some : (b : Bool) (a : ℕ) → 0 < action_where b a → (b ≡ true) × (action_where b a ≡ suc a)
action_where-some true a h = (refl, refl)
action_where-some false a h = absurd (omega arith)

-- where the test holds there is the action
action_where-true : (b : Bool) (a : ℕ) → b ≡ true → action_where b a ≡ suc a
action_where-true true a h = refl
action_where-true false a h = cc

-- what the reduced strategy gives an own set
reduced-own : (t : Tree) (i : ℕ) (choice : ℕ → ℕ) (s : ℕ) → IsAmong (own_sets t i) s → choice_at (own_sets t i) (reduced t i choice) s ≡ reached_action t i choice s
reduced-own t i choice s h = choice_at-map (reached_action t i choice) (own_sets t i) s h

-- it gives a set that is reached the action there
reduced-reached : (t : Tree) (i : ℕ) (choice : ℕ → ℕ) (s : ℕ) → IsAmong (own_sets t i) s → IsReachedUnder t i (λ x. suc (choice x)) s → choice_at (own_sets t i) (reduced t i choice) s ≡ suc (choice s)
reduced-reached t i choice s m h = reduced-own t i choice s m ∙ action_where-true _ (choice s) ((is_reached-decides t i (λ x. suc (choice x)) s).1 h)

-- a set to which it gives an action is an own set that is reached, and the action is the one there
reduced-given : (t : Tree) (i : ℕ) (choice : ℕ → ℕ) (s : ℕ) → 0 < choice_at (own_sets t i) (reduced t i choice) s → IsAmong (own_sets t i) s × IsReachedUnder t i (λ x. suc (choice x)) s × (choice_at (own_sets t i) (reduced t i choice) s ≡ suc (choice s))
reduced-given t i choice s h =
    let m = choice_at-among (own_sets t i) (reduced t i choice) s h in
    let e = reduced-own t i choice s m in
    let p = action_where-some (is_reached t i (λ x. suc (choice x)) s) (choice s) (subst (λ x. 0 < x) e h) in
    (m, (is_reached-decides t i (λ x. suc (choice x)) s).0 p.0, e ∙ p.1)

-- it is the same as the choice where they are reached
reduced-same : (t : Tree) (i : ℕ) (choice : ℕ → ℕ) → IsTree t → SameWhereReached t i (choice_at (own_sets t i) (reduced t i choice)) (λ x. suc (choice x))
reduced-same t i choice w s k l e o h g = reduced-reached t i choice s (own_sets-has t i s (w.sets_within k s l e) o) (k, l, e, g)

-- it has actions of the sets
reduced-actions : (t : Tree) (i : ℕ) (choice : ℕ → ℕ) → IsChoice t i choice → (s : ℕ) → choice_at (own_sets t i) (reduced t i choice) s ≤ t.actions s
reduced-actions t i choice c s = elim (cases_lt 0 (choice_at (own_sets t i) (reduced t i choice) s)) [ inl p ↦ given p | inr p ↦ omega arith ]
  where
    given : 0 < choice_at (own_sets t i) (reduced t i choice) s → choice_at (own_sets t i) (reduced t i choice) s ≤ t.actions s
    given p =
        let q = reduced-given t i choice s p in
        let own = own_sets-tell t i s q.0 in
        omega (arith, q.2, c s own.0 own.1)

-- it has an action at a set exactly where it reaches the set
reduced-fixed : (t : Tree) (i : ℕ) (choice : ℕ → ℕ) → IsTree t → (s : ℕ) → s < t.sets → t.owner s ≡ Some i → (0 < choice_at (own_sets t i) (reduced t i choice) s) ↔ IsReachedUnder t i (choice_at (own_sets t i) (reduced t i choice)) s
reduced-fixed t i choice w s l o =
    let list = choice_at (own_sets t i) (reduced t i choice) in
    let same = reduced-same t i choice w in (
      λ h. IsReached-same t i (λ x. suc (choice x)) list w (SameWhereReached-sym t i list (λ x. suc (choice x)) same) s (reduced-given t i choice s h).1,
      λ h. subst (λ x. 0 < x) (sym (reduced-reached t i choice s (own_sets-has t i s l o) (IsReached-same t i list (λ x. suc (choice x)) w same s h))) (omega arith),
    )

-- it is a reduced strategy
pub reduced-reduced : (t : Tree) (i : ℕ) (choice : ℕ → ℕ) → IsTree t → IsChoice t i choice → IsReduced t i (reduced t i choice)
reduced-reduced t i choice w c = record { one_for_each = length-map (own_sets t i) (reached_action t i choice); are_actions = reduced-actions t i choice c; fixed_where_reached = reduced-fixed t i choice w }

-- the choice completes it
pub reduced-completed : (t : Tree) (i : ℕ) (choice : ℕ → ℕ) → CompletesList t i choice (reduced t i choice)
reduced-completed t i choice s h = (reduced-given t i choice s h).2

-- ---- there is no other
-- a reduced strategy is the same as the choices that complete it where they are reached
completed-same : (t : Tree) (i : ℕ) (choice : ℕ → ℕ) (choices : List ℕ) → IsTree t → IsReduced t i choices → CompletesList t i choice choices → SameWhereReached t i (choice_at (own_sets t i) choices) (λ x. suc (choice x))
completed-same t i choice choices w r c s k l e o h g = c s ((r.fixed_where_reached s (w.sets_within k s l e) o).1 (k, l, e, h))

-- two reduced strategies that one choice completes have actions at the same sets
given-alike : (t : Tree) (i : ℕ) (choice : ℕ → ℕ) (xs ys : List ℕ) → IsTree t → IsReduced t i xs → IsReduced t i ys → CompletesList t i choice xs → CompletesList t i choice ys → (s : ℕ) → 0 < choice_at (own_sets t i) xs s → 0 < choice_at (own_sets t i) ys s
given-alike t i choice xs ys w p q c d s h =
    let own = own_sets-tell t i s (choice_at-among (own_sets t i) xs s h) in
    let by_choice = IsReached-same t i (choice_at (own_sets t i) xs) (λ x. suc (choice x)) w (completed-same t i choice xs w p c) s ((p.fixed_where_reached s own.0 own.1).0 h) in
    let by_other = IsReached-same t i (λ x. suc (choice x)) (choice_at (own_sets t i) ys) w (SameWhereReached-sym t i (choice_at (own_sets t i) ys) (λ x. suc (choice x)) (completed-same t i choice ys w q d)) s by_choice in
    (q.fixed_where_reached s own.0 own.1).1 by_other

-- numbers that are positive together, and then equal, are equal
positive_alike : (x y z : ℕ) → (0 < x → 0 < y) → (0 < y → 0 < x) → (0 < x → x ≡ z) → (0 < y → y ≡ z) → x ≡ y
positive_alike zero zero z f g h k = refl
positive_alike zero (suc y) z f g h k = absurd (omega (arith, g (omega arith)))
positive_alike (suc x) zero z f g h k = absurd (omega (arith, f (omega arith)))
positive_alike (suc x) (suc y) z f g h k = h (omega arith) ∙ sym (k (omega arith))

-- two reduced strategies that one choice completes are equal
pub reduced-unique : (t : Tree) (i : ℕ) (choice : ℕ → ℕ) (xs ys : List ℕ) → IsTree t → IsReduced t i xs → IsReduced t i ys → CompletesList t i choice xs → CompletesList t i choice ys → xs ≡ ys
reduced-unique t i choice xs ys w p q c d =
    choice_at-determines 0 (own_sets t i) xs ys (own_sets-ascend t i) p.one_for_each q.one_for_each (λ s. positive_alike _ _ (suc (choice s)) (given-alike t i choice xs ys w p q c d s) (given-alike t i choice ys xs w q p d c s) (c s) (d s))

-- every choice of actions completes exactly one reduced strategy
pub choices-have_reduced : ChoicesHaveReduced
choices-have_reduced t i choice w c =
    record {
      choices = reduced t i choice;
      is_reduced = reduced-reduced t i choice w c;
      is_completed = reduced-completed t i choice;
      only_one = λ other r d. reduced-unique t i choice other (reduced t i choice) w r (reduced-reduced t i choice w c) d (reduced-completed t i choice);
    }
