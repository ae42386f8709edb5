-- The plan of a choice.
use Rattle.std.proofs.Common.{ℕ, ◌+◌, ◌<◌, ◌≡◌, inl, inr, Bool, true, false, Decides, Some, List, [], ◌∷◌, ◌++◌, length, refl, sym, ap, ap₂, ◌∙◌, subst, arith}
use Rattle.std.specs.Prelude.{slice_index, if◌then◌else◌}
use Rattle.std.proofs.lemmas.Bool.Decides.{not_from_Decides}
use Rattle.game_theory.specs.OwnSets.{own_sets}
use Rattle.game_theory.proofs.OwnSetLemmas.{is_own-decides}
use Rattle.rational.specs.Rational.{ℚ, ◌*ℚ◌, ◌≤ℚ◌, zero_ℚ, one_ℚ}
use Rattle.rational.specs.Sum.{sum_to}
use Rattle.rational.proofs.RationalRing.{*ℚ_assoc, *ℚ_comm, *ℚ-one}
use Rattle.rational.proofs.Rules.{one-*ℚ}
use Rattle.rational.proofs.Field.{nonneg-mul}
use Rattle.rational.proofs.SumLemmas.{sum_to-same, sum_to-scale}
use Rattle.rational.proofs.InverseLemmas.{zero_le_one}
use Rattle.game_theory.specs.Mixed.{sure}
use Rattle.game_theory.proofs.SureStrategyLemmas.{sure-not_negative, sum_to-sure}
use Rattle.game_theory.specs.Trees.{Tree, IsTree}
use Rattle.game_theory.specs.Behaviour.{Behaviour, IsValid, IsChoice, is_own, reply}
use Rattle.game_theory.specs.Recall.{own_history, HasPerfectRecall}
use Rattle.game_theory.proofs.PathLemmas.{along_paths}
use Rattle.sequence_forms.specs.Sides.{first, IsRealisationPlan}
use Rattle.sequence_forms.specs.Sequences.{last_edge, place_in, own_action_count, sequence, last_sequence, history_before, sequence_before, side_of}
use Rattle.sequence_forms.specs.PlanBehaviour.{agreement, edges_at, edges_of, chosen_plan}
use Rattle.sequence_forms.proofs.SideLemmas.{place-empty, place-set}
use Rattle.sequence_forms.proofs.SequenceLemmas.{place-own, own_set-is, last-own, last-other, history-own, history-other, history_before-cases, history_before-is}
use Rattle.sequence_forms.proofs.RealisedPayoffLemmas.{Realises}

-- ---- agreement
-- one more step
agreement-step : (choice : ℕ → ℕ) (history : List (ℕ × ℕ)) (s a : ℕ) → agreement choice (history ++ (s, a) ∷ []) ≡ agreement choice history *ℚ sure (choice s) a
agreement-step choice [] s a = *ℚ-one (sure (choice s) a) ∙ sym (one-*ℚ (sure (choice s) a))
agreement-step choice (x ∷ history) s a =
    ap (λ y. sure (choice x.0) x.1 *ℚ y) (agreement-step choice history s a) ∙ sym (*ℚ_assoc (sure (choice x.0) x.1) (agreement choice history) (sure (choice s) a))

-- agreement is not negative
agreement-not_negative : (choice : ℕ → ℕ) (history : List (ℕ × ℕ)) → zero_ℚ ≤ℚ agreement choice history
agreement-not_negative choice [] = zero_le_one
agreement-not_negative choice (x ∷ history) =
    nonneg-mul (sure (choice x.0) x.1) (agreement choice history) (sure-not_negative (choice x.0) x.1) (agreement-not_negative choice history)

-- ---- the weights of the plan
-- the empty sequence has weight 1
pub chosen-empty : (t : Tree) (i : ℕ) (choice : ℕ → ℕ) → chosen_plan t i choice 0 ≡ one_ℚ
chosen-empty t i choice = ap (λ n. agreement choice (edges_at t i 0 n)) (place-empty (own_action_count t i) (length (own_sets t i)))

-- an action of the j-th own set
chosen-set : (t : Tree) (i : ℕ) (choice : ℕ → ℕ) (j s a : ℕ) → j < length (own_sets t i) → slice_index (own_sets t i) j ≡ s → a < t.actions s
    → chosen_plan t i choice (first (side_of t i) j + a) ≡ agreement choice (history_before t i s) *ℚ sure (choice s) a
chosen-set t i choice j s a h e m =
    ap (λ n. agreement choice (edges_at t i (first (side_of t i) j + a) n)) (place-set (own_action_count t i) (length (own_sets t i)) j a h (subst (λ x. a < t.actions x) (sym e) m))
    ∙ ap₂ (λ r b. agreement choice (history_before t i r ++ (r, b) ∷ [])) e (omega arith) ∙ agreement-step choice (history_before t i s) s a

-- an action of an own set
pub chosen-own : (t : Tree) (i : ℕ) (choice : ℕ → ℕ) (s a : ℕ) → s < t.sets → t.owner s ≡ Some i → a < t.actions s
    → chosen_plan t i choice (sequence t i (Some (s, a))) ≡ agreement choice (history_before t i s) *ℚ sure (choice s) a
chosen-own t i choice s a l e m = let o = place-own t i s l e in chosen-set t i choice (place_in (own_sets t i) s) s a o.0 o.1 m

-- the last own sequence of a node
pub chosen-last : (t : Tree) (i : ℕ) (choice : ℕ → ℕ) → IsTree t → HasPerfectRecall t i → (k : ℕ) → k < t.size → chosen_plan t i choice (last_sequence t i k) ≡ agreement choice (own_history t i k)
chosen-last t i choice w r k l = along_paths t (λ x. chosen_plan t i choice (last_sequence t i x) ≡ agreement choice (own_history t i x)) w (chosen-empty t i choice) next k l
  where
    next : (c : ℕ) → 0 < c → c < t.size → chosen_plan t i choice (last_sequence t i (t.parent c)) ≡ agreement choice (own_history t i (t.parent c)) → chosen_plan t i choice (last_sequence t i c) ≡ agreement choice (own_history t i c)
    next c p m before =
        let led = w.led_to c p m in
        let after : t.parent c < c = w.after_parent c p m in
        go led.0 led.1 led.2 (omega arith) (is_own t i led.0) (is_own-decides t i led.0)
      where
        go : (s : ℕ) → t.set (t.parent c) ≡ Some s → t.branch c < t.actions s → t.parent c < t.size → (b : Bool) → Decides b (t.owner s ≡ Some i) → chosen_plan t i choice (last_sequence t i c) ≡ agreement choice (own_history t i c)
        go s q a inside true d =
            let e : t.owner s ≡ Some i = d.0 refl in
            ap (chosen_plan t i choice) (last-own t i c s w p m q e)
            ∙ chosen-own t i choice s (t.branch c) (w.sets_within (t.parent c) s inside q) e a
            ∙ ap (λ h. agreement choice h *ℚ sure (choice s) (t.branch c)) (history_before-is t i s (t.parent c) r e inside q)
            ∙ sym (agreement-step choice (own_history t i (t.parent c)) s (t.branch c)) ∙ ap (agreement choice) (sym (history-own t i c s w p m q e))
        go s q a inside false d =
            let e = not_from_Decides false d refl in
            ap (chosen_plan t i choice) (last-other t i c s w p m q e) ∙ before ∙ ap (agreement choice) (sym (history-other t i c s w p m q e))

-- the sequence before a set
chosen-before : (t : Tree) (i : ℕ) (choice : ℕ → ℕ) (s : ℕ) → IsTree t → HasPerfectRecall t i → chosen_plan t i choice (sequence_before t i s) ≡ agreement choice (history_before t i s)
chosen-before t i choice s w r = elim (history_before-cases t i s) [
  | inl o ↦ ap (λ h. chosen_plan t i choice (sequence t i (last_edge h))) o.3 ∙ chosen-last t i choice w r o.0 o.1 ∙ ap (agreement choice) (sym o.3)
  | inr o ↦ ap (λ h. chosen_plan t i choice (sequence t i (last_edge h))) o.0 ∙ chosen-empty t i choice ∙ ap (agreement choice) (sym o.0)
]

-- the plan of a choice is a realisation plan
pub chosen_is_plan : (t : Tree) (i : ℕ) (choice : ℕ → ℕ) → IsTree t → HasPerfectRecall t i → IsChoice t i choice → IsRealisationPlan (side_of t i) (chosen_plan t i choice)
chosen_is_plan t i choice w r c =
    record { not_negative = λ q l. agreement-not_negative choice (edges_of t i q); empty_is_one = chosen-empty t i choice; splits = splits }
  where
    splits : (j : ℕ) → j < length (own_sets t i) → sum_to (own_action_count t i j) (λ a. chosen_plan t i choice (first (side_of t i) j + a)) ≡ chosen_plan t i choice (sequence_before t i (slice_index (own_sets t i) j))
    splits j h =
        let s : ℕ = slice_index (own_sets t i) j in
        let own = own_set-is t i j h in
        sum_to-same (t.actions s) _ _ (λ a m. chosen-set t i choice j s a h refl m)
        ∙ sum_to-scale (t.actions s) (agreement choice (history_before t i s)) (sure (choice s))
        ∙ ap (λ x. agreement choice (history_before t i s) *ℚ x) (sum_to-sure (t.actions s) (choice s) (c s own.0 own.1))
        ∙ *ℚ-one (agreement choice (history_before t i s)) ∙ sym (chosen-before t i choice s w r)

-- ---- the reply
-- the reply at an own set
pub reply-own : (t : Tree) (b : Behaviour) (i : ℕ) (choice : ℕ → ℕ) (s a : ℕ) → t.owner s ≡ Some i → reply t b i choice s a ≡ sure (choice s) a
reply-own t b i choice s a e = go (is_own t i s) (is_own-decides t i s)
  where
    go : (c : Bool) → Decides c (t.owner s ≡ Some i) → (if c then sure (choice s) a else b s a) ≡ sure (choice s) a
    go true d = refl
    go false d = absurd (not_from_Decides false d refl e)

-- and at another one
pub reply-other : (t : Tree) (b : Behaviour) (i j : ℕ) (choice : ℕ → ℕ) (s a : ℕ) → t.owner s ≡ Some j → (j ≡ i → ⊥) → reply t b i choice s a ≡ b s a
reply-other t b i j choice s a e ne = go (is_own t i s) (is_own-decides t i s)
  where
    go : (c : Bool) → Decides c (t.owner s ≡ Some i) → (if c then sure (choice s) a else b s a) ≡ b s a
    go true d = let q : t.owner s ≡ Some i = d.0 refl in absurd (ne (cc))
    go false d = refl

-- the plan of a choice realises the reply
pub choice_realises : (t : Tree) (b : Behaviour) (i : ℕ) (choice : ℕ → ℕ) → IsTree t → HasPerfectRecall t i → Realises t i (reply t b i choice) (chosen_plan t i choice)
choice_realises t b i choice w r = record { empty_is_one = chosen-empty t i choice; after = after }
  where
    after : (k s a : ℕ) → k < t.size → t.set k ≡ Some s → t.owner s ≡ Some i → a < t.actions s → chosen_plan t i choice (sequence t i (Some (s, a))) ≡ reply t b i choice s a *ℚ chosen_plan t i choice (last_sequence t i k)
    after k s a l q e m =
        chosen-own t i choice s a (w.sets_within k s l q) e m
        ∙ ap (λ h. agreement choice h *ℚ sure (choice s) a) (history_before-is t i s k r e l q)
        ∙ *ℚ_comm (agreement choice (own_history t i k)) (sure (choice s) a)
        ∙ ap₂ (λ u v. u *ℚ v) (sym (reply-own t b i choice s a e)) (sym (chosen-last t i choice w r k l))

-- what realises behaviour at the other player's sets realises it after the reply
pub others_realise : (t : Tree) (b : Behaviour) (i j : ℕ) (choice : ℕ → ℕ) (x : ℕ → ℚ) → (j ≡ i → ⊥) → Realises t j b x → Realises t j (reply t b i choice) x
others_realise t b i j choice x ne r =
    record { empty_is_one = r.empty_is_one; after = λ k s a l q e m. r.after k s a l q e m ∙ ap (λ u. u *ℚ x (last_sequence t j k)) (sym (reply-other t b i j choice s a e ne)) }

-- a reply to valid behaviour is valid
pub reply_valid : (t : Tree) (b : Behaviour) (i : ℕ) (choice : ℕ → ℕ) → IsChoice t i choice → IsValid t b → IsValid t (reply t b i choice)
reply_valid t b i choice c v s j l e = record { not_negative = λ a. not_negative s j a l e; sum_is_one = one s j l e }
  where
    not_negative : (s j a : ℕ) → s < t.sets → t.owner s ≡ Some j → a < t.actions s → zero_ℚ ≤ℚ reply t b i choice s a
    not_negative s j a l e m = go (is_own t i s)
      where
        go : (d : Bool) → zero_ℚ ≤ℚ (if d then sure (choice s) a else b s a)
        go true = sure-not_negative (choice s) a
        go false = (v s j l e).not_negative a m

    one : (s j : ℕ) → s < t.sets → t.owner s ≡ Some j → sum_to (t.actions s) (reply t b i choice s) ≡ one_ℚ
    one s j l e = go (is_own t i s) (is_own-decides t i s)
      where
        go : (d : Bool) → Decides d (t.owner s ≡ Some i) → sum_to (t.actions s) (λ a. if d then sure (choice s) a else b s a) ≡ one_ℚ
        go true d = sum_to-sure (t.actions s) (choice s) (c s l (d.0 refl))
        go false d = (v s j l e).sum_is_one
