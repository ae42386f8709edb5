-- The behaviour of realisation plans is valid, and they realise it.
use Rattle.std.proofs.Common.{ℕ, ◌+◌, ◌<◌, ◌≡◌, Some, sym, ap, ap₂, ◌∙◌, subst}
use Rattle.game_theory.specs.OwnSets.{own_sets}
use Rattle.rational.specs.Rational.{ℚ, ◌*ℚ◌, ◌≤ℚ◌, zero_ℚ, one_ℚ}
use Rattle.rational.specs.Sum.{sum_to}
use Rattle.rational.proofs.SumLemmas.{sum_to-same, sum_to-nonneg, each_zero}
use Rattle.game_theory.specs.Trees.{Tree, IsTree}
use Rattle.game_theory.specs.Behaviour.{IsValid}
use Rattle.game_theory.specs.Recall.{HasPerfectRecall}
use Rattle.sequence_forms.specs.Sides.{first, IsRealisationPlan}
use Rattle.sequence_forms.specs.Sequences.{last_edge, place_in, own_action_count, sequence, last_sequence, sequence_before, side_of}
use Rattle.sequence_forms.specs.PlanBehaviour.{share, share_of, behaviour_of}
use Rattle.sequence_forms.proofs.SequenceLemmas.{place-own, sequence-below, history_before-is}
use Rattle.sequence_forms.proofs.ShareLemmas.{share-times, share_sum, share-not_negative}
use Rattle.sequence_forms.proofs.RealisedPayoffLemmas.{Realises}

-- at an own set the weights after its actions sum to the weight before
pub splits_at : (t : Tree) (i s : ℕ) (x : ℕ → ℚ) → IsRealisationPlan (side_of t i) x → s < t.sets → t.owner s ≡ Some i → sum_to (t.actions s) (λ a. x (sequence t i (Some (s, a)))) ≡ x (sequence_before t i s)
splits_at t i s x p l e =
    let o = place-own t i s l e in
    let j : ℕ = place_in (own_sets t i) s in
    let count : own_action_count t i j ≡ t.actions s = ap t.actions o.1 in
    ap (λ n. sum_to n (λ a. x (first (side_of t i) j + a))) (sym count) ∙ p.splits j o.0 ∙ ap (λ r. x (sequence_before t i r)) o.1

-- the weights after its actions are not negative
pub after_not_negative : (t : Tree) (i s : ℕ) (x : ℕ → ℚ) → IsRealisationPlan (side_of t i) x → s < t.sets → t.owner s ≡ Some i → (a : ℕ) → a < t.actions s → zero_ℚ ≤ℚ x (sequence t i (Some (s, a)))
after_not_negative t i s x p l e a m = p.not_negative (sequence t i (Some (s, a))) (sequence-below t i s a l e m)

-- after the weight 0 each weight is 0
zero_after : (t : Tree) (i s : ℕ) (x : ℕ → ℚ) → IsRealisationPlan (side_of t i) x → s < t.sets → t.owner s ≡ Some i → (a : ℕ) → a < t.actions s → x (sequence_before t i s) ≡ zero_ℚ → x (sequence t i (Some (s, a))) ≡ zero_ℚ
zero_after t i s x p l e a m z = each_zero (t.actions s) (λ a. x (sequence t i (Some (s, a)))) (after_not_negative t i s x p l e) (splits_at t i s x p l e ∙ z) a m

-- what the behaviour is at a player's set
pub behaviour-at : (t : Tree) (plans : ℕ → ℕ → ℚ) (i s a : ℕ) → t.owner s ≡ Some i → behaviour_of t plans s a ≡ share (t.actions s) (plans i (sequence_before t i s)) (plans i (sequence t i (Some (s, a))))
behaviour-at t plans i s a e = ap (share_of t plans s a) e

-- the behaviour of plans is valid
pub plans_valid : (t : Tree) (plans : ℕ → ℕ → ℚ) → IsTree t → ((i : ℕ) → i < t.players → IsRealisationPlan (side_of t i) (plans i)) → IsValid t (behaviour_of t plans)
plans_valid t plans w p s i l e =
    record { not_negative = λ a. not_negative s i a l e; sum_is_one = one s i l e }
  where
    after : (s i : ℕ) → s < t.sets → t.owner s ≡ Some i → (a : ℕ) → a < t.actions s → zero_ℚ ≤ℚ plans i (sequence t i (Some (s, a)))
    after s i l e = after_not_negative t i s (plans i) (p i (w.owners_within s i l e)) l e

    before : (s i : ℕ) → s < t.sets → t.owner s ≡ Some i → sum_to (t.actions s) (λ a. plans i (sequence t i (Some (s, a)))) ≡ plans i (sequence_before t i s)
    before s i l e = splits_at t i s (plans i) (p i (w.owners_within s i l e)) l e

    not_negative : (s i a : ℕ) → s < t.sets → t.owner s ≡ Some i → a < t.actions s → zero_ℚ ≤ℚ behaviour_of t plans s a
    not_negative s i a l e m =
        subst (λ x. zero_ℚ ≤ℚ x) (sym (behaviour-at t plans i s a e)) (share-not_negative (t.actions s) _ _ (w.some_action s l) (subst (λ x. zero_ℚ ≤ℚ x) (before s i l e) (sum_to-nonneg (t.actions s) _ (after s i l e))) (after s i l e a m))

    one : (s i : ℕ) → s < t.sets → t.owner s ≡ Some i → sum_to (t.actions s) (behaviour_of t plans s) ≡ one_ℚ
    one s i l e =
        sum_to-same (t.actions s) _ _ (λ a m. behaviour-at t plans i s a e)
        ∙ share_sum (t.actions s) (plans i (sequence_before t i s)) (λ a. plans i (sequence t i (Some (s, a)))) (w.some_action s l) (before s i l e)

-- under perfect recall the weight before a set is that of the last own sequence of each of its nodes
pub before-is : (t : Tree) (i s k : ℕ) → HasPerfectRecall t i → t.owner s ≡ Some i → k < t.size → t.set k ≡ Some s → sequence_before t i s ≡ last_sequence t i k
before-is t i s k r o l e = ap (λ h. sequence t i (last_edge h)) (history_before-is t i s k r o l e)

-- a plan realises its behaviour
pub plan_realises : (t : Tree) (plans : ℕ → ℕ → ℚ) (i : ℕ) → IsTree t → HasPerfectRecall t i → IsRealisationPlan (side_of t i) (plans i) → Realises t i (behaviour_of t plans) (plans i)
plan_realises t plans i w r p = record { empty_is_one = p.empty_is_one; after = after }
  where
    after : (k s a : ℕ) → k < t.size → t.set k ≡ Some s → t.owner s ≡ Some i → a < t.actions s → plans i (sequence t i (Some (s, a))) ≡ behaviour_of t plans s a *ℚ plans i (last_sequence t i k)
    after k s a l q e m =
        let inside : s < t.sets = w.sets_within k s l q in
        sym (ap₂ (λ u v. u *ℚ plans i v) (behaviour-at t plans i s a e) (sym (before-is t i s k r e l q)) ∙ share-times (t.actions s) _ _ (zero_after t i s (plans i) p inside e a m))
