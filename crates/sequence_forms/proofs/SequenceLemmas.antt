-- The last own sequences along the paths of a tree.
use Rattle.std.proofs.Common.{ℕ, suc, ◌+◌, ◌<◌, ◌≡◌, ◌≢◌, ◌⊎◌, inl, inr, Bool, true, false, Decides, Option, Some, None, List, [], ◌∷◌, ◌++◌, length, refl, sym, ap, ◌∙◌, subst, arith}
use Rattle.std.specs.Prelude.{◌==◌, if◌then◌else◌, slice_index, cond, not}
use Rattle.std.specs.List.{last_or}
use Rattle.std.proofs.lemmas.Bool.Decides.{Decides-eqb, not_from_Decides}
use Rattle.game_theory.specs.OwnSets.{own_sets}
use Rattle.game_theory.proofs.OwnSetLemmas.{is_index-decides, is_own-decides, IsAmong, among_at, own_sets-has, own_sets-tell}
use Rattle.game_theory.specs.Trees.{Tree, IsTree}
use Rattle.game_theory.specs.Behaviour.{is_index, is_own}
use Rattle.game_theory.specs.Recall.{own_edge, own_history, HasPerfectRecall}
use Rattle.game_theory.specs.Children.{last_below}
use Rattle.game_theory.proofs.NamedChildLemmas.{last_below-cases}
use Rattle.game_theory.proofs.PathLemmas.{along_paths, own_history-step}
use Rattle.sequence_forms.specs.Sides.{sequences, IsSide}
use Rattle.sequence_forms.specs.Sequences.{last_edge, place_in, own_action_count, sequence, last_sequence, history_before, sequence_before, side_of}
use Rattle.sequence_forms.proofs.SideLemmas.{first_pos, sequence_below}

-- ---- places of sets
-- the place of a set in a list, from that in the rest of the list
pub place_in-next : (set : ℕ) (sets : List ℕ) (s : ℕ) → place_in (set ∷ sets) s ≡ (if set == s then 0 else suc (place_in sets s))
place_in-next set sets s = go (set == s) (place_in sets s)
  where
    go : (b : Bool) (p : ℕ) → cond (not b) (1 + p) 0 ≡ (if b then 0 else suc p)
    go true p = refl
    go false p = omega arith

-- a set that is in a list stands at its place
pub place_in-is : (sets : List ℕ) (s : ℕ) → IsAmong sets s → (place_in sets s < length sets) × (slice_index sets (place_in sets s) ≡ s)
place_in-is [] s h = absurd h
place_in-is (set ∷ sets) s h =
    subst (λ p. (p < suc (length sets)) × (slice_index (set ∷ sets) p ≡ s)) (sym (place_in-next set sets s)) (go (set == s) (Decides-eqb set s) h (place_in-is sets s))
  where
    go : (b : Bool) → Decides b (set ≡ s) → (set ≡ s) ⊎ IsAmong sets s → (IsAmong sets s → (place_in sets s < length sets) × (slice_index sets (place_in sets s) ≡ s))
        → ((if b then 0 else suc (place_in sets s)) < suc (length sets)) × (slice_index (set ∷ sets) (if b then 0 else suc (place_in sets s)) ≡ s)
    go true d h later = (omega arith, d.0 refl)
    go false d (inl e) later = absurd (not_from_Decides false d refl e)
    go false d (inr m) later = let o = later m in (omega (arith, o.0), o.1)

-- the place of an own set
pub place-own : (t : Tree) (i s : ℕ) → s < t.sets → t.owner s ≡ Some i → (place_in (own_sets t i) s < length (own_sets t i)) × (slice_index (own_sets t i) (place_in (own_sets t i) s) ≡ s)
place-own t i s l e = place_in-is (own_sets t i) s (own_sets-has t i s l e)

-- a set of a side is an own set
pub own_set-is : (t : Tree) (i j : ℕ) → j < length (own_sets t i) → (slice_index (own_sets t i) j < t.sets) × (t.owner (slice_index (own_sets t i) j) ≡ Some i)
own_set-is t i j h = own_sets-tell t i (slice_index (own_sets t i) j) (among_at (own_sets t i) j 0 h)

-- ---- last edges
-- the last edge of a history with one more step
last_or-append : (o : Option (ℕ × ℕ)) (next : ℕ × ℕ) (history : List (ℕ × ℕ)) → last_or o (history ++ next ∷ []) ≡ Some next
last_or-append o next [] = refl
last_or-append o next (x ∷ history) = last_or-append (Some x) next history

pub last_edge-append : (next : ℕ × ℕ) (history : List (ℕ × ℕ)) → last_edge (history ++ next ∷ []) ≡ Some next
last_edge-append next history = last_or-append None next history

-- the step at an own set, and at another one
own_edge-own : (t : Tree) (i s a : ℕ) → t.owner s ≡ Some i → own_edge t i (Some s) a ≡ (s, a) ∷ []
own_edge-own t i s a e = go (is_own t i s) (is_own-decides t i s) ((s, a) ∷ [])
  where
    go : (b : Bool) → Decides b (t.owner s ≡ Some i) → (steps : List (ℕ × ℕ)) → (if b then steps else []) ≡ steps
    go true d steps = refl
    go false d steps = absurd (not_from_Decides false d refl e)

own_edge-other : (t : Tree) (i s a : ℕ) → t.owner s ≢ Some i → own_edge t i (Some s) a ≡ []
own_edge-other t i s a e = go (is_own t i s) (is_own-decides t i s) ((s, a) ∷ [])
  where
    go : (b : Bool) → Decides b (t.owner s ≡ Some i) → (steps : List (ℕ × ℕ)) → (if b then steps else []) ≡ []
    go true d steps = absurd (e (d.0 refl))
    go false d steps = refl

-- ---- children
-- the history of a child after an own set, and after another one
pub history-own : (t : Tree) (i c s : ℕ) → IsTree t → 0 < c → c < t.size → t.set (t.parent c) ≡ Some s → t.owner s ≡ Some i → own_history t i c ≡ own_history t i (t.parent c) ++ (s, t.branch c) ∷ []
history-own t i c s w p l q e =
    own_history-step t i c w p l ∙ ap (λ x. own_history t i (t.parent c) ++ own_edge t i x (t.branch c)) q ∙ ap (λ x. own_history t i (t.parent c) ++ x) (own_edge-own t i s (t.branch c) e)

append-none : (xs : List (ℕ × ℕ)) → xs ++ [] ≡ xs
append-none [] = refl
append-none (x ∷ xs) = ap (λ y. x ∷ y) (append-none xs)

pub history-other : (t : Tree) (i c s : ℕ) → IsTree t → 0 < c → c < t.size → t.set (t.parent c) ≡ Some s → t.owner s ≢ Some i → own_history t i c ≡ own_history t i (t.parent c)
history-other t i c s w p l q e =
    own_history-step t i c w p l ∙ ap (λ x. own_history t i (t.parent c) ++ own_edge t i x (t.branch c)) q ∙ ap (λ x. own_history t i (t.parent c) ++ x) (own_edge-other t i s (t.branch c) e) ∙ append-none (own_history t i (t.parent c))

-- the last sequence of a child after an own set, and after another one
pub last-own : (t : Tree) (i c s : ℕ) → IsTree t → 0 < c → c < t.size → t.set (t.parent c) ≡ Some s → t.owner s ≡ Some i → last_sequence t i c ≡ sequence t i (Some (s, t.branch c))
last-own t i c s w p l q e =
    ap (λ x. sequence t i (last_edge x)) (history-own t i c s w p l q e) ∙ ap (sequence t i) (last_edge-append (s, t.branch c) (own_history t i (t.parent c)))

pub last-other : (t : Tree) (i c s : ℕ) → IsTree t → 0 < c → c < t.size → t.set (t.parent c) ≡ Some s → t.owner s ≢ Some i → last_sequence t i c ≡ last_sequence t i (t.parent c)
last-other t i c s w p l q e = ap (λ x. sequence t i (last_edge x)) (history-other t i c s w p l q e)

-- the sequence of an own action is one of the side's
pub sequence-below : (t : Tree) (i s a : ℕ) → s < t.sets → t.owner s ≡ Some i → a < t.actions s → sequence t i (Some (s, a)) < sequences (side_of t i)
sequence-below t i s a l e m =
    let o = place-own t i s l e in
    sequence_below (side_of t i) (place_in (own_sets t i) s) a o.0 (subst (λ x. a < t.actions x) (sym o.1) m)

-- so is the last sequence of each node
pub last-below : (t : Tree) (i : ℕ) → IsTree t → (k : ℕ) → k < t.size → last_sequence t i k < sequences (side_of t i)
last-below t i w k l = along_paths t (λ x. last_sequence t i x < sequences (side_of t i)) w (first_pos (own_action_count t i) (length (own_sets t i))) next k l
  where
    next : (c : ℕ) → 0 < c → c < t.size → last_sequence t i (t.parent c) < sequences (side_of t i) → last_sequence t i c < sequences (side_of t i)
    next c p m before =
        let led = w.led_to c p m in
        let after : t.parent c < c = w.after_parent c p m in
        go led.0 led.1 led.2 (w.sets_within (t.parent c) led.0 (omega arith) led.1) (is_own t i led.0) (is_own-decides t i led.0)
      where
        go : (s : ℕ) → t.set (t.parent c) ≡ Some s → t.branch c < t.actions s → s < t.sets → (b : Bool) → Decides b (t.owner s ≡ Some i) → last_sequence t i c < sequences (side_of t i)
        go s q a r true d = subst (λ x. x < sequences (side_of t i)) (sym (last-own t i c s w p m q (d.0 refl))) (sequence-below t i s (t.branch c) r (d.0 refl) a)
        go s q a r false d = subst (λ x. x < sequences (side_of t i)) (sym (last-other t i c s w p m q (not_from_Decides false d refl))) before

-- ---- the sequence before a set
-- the history before a set is that of one of its nodes, or there is none
pub history_before-cases : (t : Tree) (i s : ℕ) → ((k : ℕ) × (k < t.size) × (t.set k ≡ Some s) × (history_before t i s ≡ own_history t i k)) ⊎ ((history_before t i s ≡ []) × ((k : ℕ) → k < t.size → t.set k ≢ Some s))
history_before-cases t i s =
    let last = last_below t.size (λ k. is_index (t.set k) s) in
    elim (last_below-cases t.size (λ k. is_index (t.set k) s)) [
      | inl o ↦ inl (last, o.0, (is_index-decides (t.set last) s).0 o.1, refl)
      | inr o ↦ inr (ap (own_history t i) o.0, λ k l. not_from_Decides (is_index (t.set k) s) (is_index-decides (t.set k) s) (o.1 k l))
    ]

-- under perfect recall it is that of each of its nodes
pub history_before-is : (t : Tree) (i s k : ℕ) → HasPerfectRecall t i → t.owner s ≡ Some i → k < t.size → t.set k ≡ Some s → history_before t i s ≡ own_history t i k
history_before-is t i s k r o l e = elim (history_before-cases t i s) [
  | inl h ↦ h.3 ∙ r s o h.0 k h.1 l h.2 e
  | inr h ↦ absurd (h.1 k l e)
]

-- a tree's sides are sides
pub side_of-is : (t : Tree) (i : ℕ) → IsTree t → IsSide (side_of t i)
side_of-is t i w j h = go (slice_index (own_sets t i) j)
  where
    go : (s : ℕ) → sequence_before t i s < sequences (side_of t i)
    go s = elim (history_before-cases t i s) [
      | inl o ↦ subst (λ x. sequence t i (last_edge x) < sequences (side_of t i)) (sym o.3) (last-below t i w o.0 o.1)
      | inr o ↦ subst (λ x. sequence t i (last_edge x) < sequences (side_of t i)) (sym o.0) (first_pos (own_action_count t i) (length (own_sets t i)))
    ]
