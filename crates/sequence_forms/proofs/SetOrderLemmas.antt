-- Where sets are numbered by their first nodes, the sequence before a set comes before the set's own.
use Rattle.std.proofs.Common.{ℕ, zero, suc, ◌<◌, ◌≤◌, ◌≡◌, ◌⊎◌, inl, inr, Bool, true, false, Decides, Some, List, [], ◌∷◌, length, refl, sym, ap, ◌∙◌, subst, subst₂, arith, tests}
use Rattle.std.specs.Prelude.{◌==◌, if◌then◌else◌, slice_index}
use Rattle.std.proofs.lemmas.Bool.{cases_lt}
use Rattle.std.proofs.lemmas.Bool.Decides.{Decides-eqb, not_from_Decides}
use Rattle.game_theory.specs.OwnSets.{own_sets}
use Rattle.game_theory.proofs.OwnSetLemmas.{among_at, is_own-decides, IsAmong, AscendFrom, IsAmong-from, own_sets-has, own_sets-ascend}
use Rattle.game_theory.specs.FirstNodes.{AreNumberedByFirstNodes}
use Rattle.game_theory.specs.Trees.{Tree, IsTree}
use Rattle.game_theory.specs.Behaviour.{is_own}
use Rattle.game_theory.specs.Recall.{HasPerfectRecall}
use Rattle.game_theory.proofs.PathLemmas.{along_paths}
use Rattle.sequence_forms.specs.Sides.{first_after, first}
use Rattle.sequence_forms.specs.Sequences.{last_edge, place_in, own_action_count, sequence, last_sequence, sequence_before, side_of}
use Rattle.sequence_forms.specs.TreeLaws.{TreesHaveOrderedSides}
use Rattle.sequence_forms.proofs.SideLemmas.{first_pos, first_up}
use Rattle.sequence_forms.proofs.SequenceLemmas.{place_in-next, place-own, own_set-is, last-own, last-other, history_before-cases}

-- ---- places
-- in an ascending list the smaller of two sets has the smaller place
place-ascends : (n : ℕ) (sets : List ℕ) (r s : ℕ) → AscendFrom n sets → IsAmong sets r → IsAmong sets s → r < s → place_in sets r < place_in sets s
place-ascends n [] r s o p q l = absurd p
place-ascends n (set ∷ sets) r s o p q l =
    subst₂ (λ x y. x < y) (sym (place_in-next set sets r)) (sym (place_in-next set sets s)) (go (set == r) (set == s) (Decides-eqb set r) (Decides-eqb set s) (place-ascends (suc set) sets r s o.1) p q)
  where
    go : (b c : Bool) → Decides b (set ≡ r) → Decides c (set ≡ s) → (IsAmong sets r → IsAmong sets s → r < s → place_in sets r < place_in sets s) → (set ≡ r) ⊎ IsAmong sets r → (set ≡ s) ⊎ IsAmong sets s → (if b then 0 else suc (place_in sets r)) < (if c then 0 else suc (place_in sets s))
    go true true d f rest p q = absurd (omega (arith, d.0 refl, f.0 refl))
    go true false d f rest p q = omega arith
    go false true d f rest (inl e) q = absurd (not_from_Decides false d refl e)
    go false true d f rest (inr p) q = absurd (omega (arith, IsAmong-from (suc set) sets r o.1 p, f.0 refl))
    go false false d f rest (inl e) q = absurd (not_from_Decides false d refl e)
    go false false d f rest p (inl e) = absurd (not_from_Decides false f refl e)
    go false false d f rest (inr p) (inr q) = omega (arith, rest p q l)

-- the sequences of an earlier own set come before those of a later one
earlier-sequence : (t : Tree) (i r s a : ℕ) → r < t.sets → t.owner r ≡ Some i → s < t.sets → t.owner s ≡ Some i → a < t.actions r → r < s → sequence t i (Some (r, a)) < first_after (own_action_count t i) (place_in (own_sets t i) s)
earlier-sequence t i r s a l e m f b h =
    let o = place-own t i r l e in
    let places : place_in (own_sets t i) r < place_in (own_sets t i) s = place-ascends 0 (own_sets t i) r s (own_sets-ascend t i) (own_sets-has t i r l e) (own_sets-has t i s m f) h in
    let up = first_up (own_action_count t i) (place_in (own_sets t i) r) (place_in (own_sets t i) s) places in
    let few : a < own_action_count t i (place_in (own_sets t i) r) = subst (λ x. a < t.actions x) (sym o.1) b in
    omega arith

-- ---- the last choice
-- the node of an own set, and its action, at which a node's last own sequence ends
record LastChoice (t : Tree) (i k : ℕ) : Type 0 where
  pub node : ℕ
  pub set : ℕ
  pub action : ℕ
  pub above : node < k
  pub inside : node < t.size
  pub set_is : t.set node ≡ Some set
  pub own : t.owner set ≡ Some i
  pub is_action : action < t.actions set
  pub last_is : last_sequence t i k ≡ sequence t i (Some (set, action))

-- a node's last own sequence is empty or ends there
last_choice : (t : Tree) (i : ℕ) → IsTree t → (k : ℕ) → k < t.size → (last_sequence t i k ≡ 0) ⊎ LastChoice t i k
last_choice t i w k l = along_paths t (λ x. (last_sequence t i x ≡ 0) ⊎ LastChoice t i x) w (inl refl) next k l
  where
    next : (c : ℕ) → 0 < c → c < t.size → (last_sequence t i (t.parent c) ≡ 0) ⊎ LastChoice t i (t.parent c) → (last_sequence t i c ≡ 0) ⊎ LastChoice t i c
    next c p m before =
        let led = w.led_to c p m in
        go led.0 led.1 led.2 (w.after_parent c p m) (is_own t i led.0) (is_own-decides t i led.0) before
      where
        go : (s : ℕ) → t.set (t.parent c) ≡ Some s → t.branch c < t.actions s → t.parent c < c → (b : Bool) → Decides b (t.owner s ≡ Some i) → (last_sequence t i (t.parent c) ≡ 0) ⊎ LastChoice t i (t.parent c) → (last_sequence t i c ≡ 0) ⊎ LastChoice t i c
        go s q a after true d before =
            inr (record { node = t.parent c; set = s; action = t.branch c; above = after; inside = omega arith; set_is = q; own = d.0 refl; is_action = a; last_is = last-own t i c s w p m q (d.0 refl) })
        go s q a after false d (inl e) = inl (last-other t i c s w p m q (not_from_Decides false d refl) ∙ e)
        go s q a after false d (inr o) =
            inr (record { node = o.node; set = o.set; action = o.action; above = omega (arith, o.above); inside = o.inside; set_is = o.set_is; own = o.own; is_action = o.is_action; last_is = last-other t i c s w p m q (not_from_Decides false d refl) ∙ o.last_is })

-- ---- the order
-- a node's last own sequence comes before the sequences of its own set
last-before : (t : Tree) (i : ℕ) → IsTree t → HasPerfectRecall t i → AreNumberedByFirstNodes t → (n k s : ℕ) → k < n → k < t.size → t.set k ≡ Some s → t.owner s ≡ Some i → last_sequence t i k < first_after (own_action_count t i) (place_in (own_sets t i) s)
last-before t i w r f zero k s h l q e = absurd (omega arith)
last-before t i w r f (suc n) k s h l q e = elim (last_choice t i w k l) [
  | inl z ↦ subst (λ x. x < first_after (own_action_count t i) (place_in (own_sets t i) s)) (sym z) (first_pos (own_action_count t i) (place_in (own_sets t i) s))
  | inr o ↦ elim (cases_lt o.set s) [
    | inl m ↦ subst (λ x. x < first_after (own_action_count t i) (place_in (own_sets t i) s)) (sym o.last_is) (earlier-sequence t i o.set s o.action (w.sets_within o.node o.set o.inside o.set_is) o.own (w.sets_within k s l q) e o.is_action m)
    | inr m ↦ later (λ j u v z. last-before t i w r f n j s u v z e) o m
  ]
]
  where
    -- a node of the set above
    Above : Type 0
    Above = (j : ℕ) × (j < k) × (t.set j ≡ Some s)

    above : (o : LastChoice t i k) → s ≤ o.set → Above
    above o m = elim (cases_lt s o.set) [
      | inl p ↦ let g = f o.node o.set s o.inside o.set_is p in (g.0, omega (arith, g.1, o.above), g.2)
      | inr p ↦ let same : o.set ≡ s = omega arith in (o.node, o.above, subst (λ x. t.set o.node ≡ Some x) same o.set_is)
    ]

    later : ((j : ℕ) → j < n → j < t.size → t.set j ≡ Some s → last_sequence t i j < first_after (own_action_count t i) (place_in (own_sets t i) s)) → (o : LastChoice t i k) → s ≤ o.set → last_sequence t i k < first_after (own_action_count t i) (place_in (own_sets t i) s)
    later earlier o m =
        let a = above o m in
        subst (λ h. sequence t i (last_edge h) < first_after (own_action_count t i) (place_in (own_sets t i) s)) (r s e a.0 k (omega (arith, a.1)) l a.2 q) (earlier a.0 (omega (arith, a.1)) (omega (arith, a.1)) a.2)

-- the place of the set that stands at a place
pub place_at : (n : ℕ) (sets : List ℕ) (j : ℕ) → AscendFrom n sets → j < length sets → place_in sets (slice_index sets j) ≡ j
place_at n [] j o h = absurd (omega arith)
place_at n (set ∷ sets) zero o h = place_in-next set sets set ∙ grind (arith, tests)
place_at n (set ∷ sets) (suc j) o h =
    place_in-next set sets (slice_index sets j) ∙ go (set == slice_index sets j) (Decides-eqb set (slice_index sets j)) (place_at (suc set) sets j o.1 (omega arith))
  where
    go : (b : Bool) → Decides b (set ≡ slice_index sets j) → place_in sets (slice_index sets j) ≡ j → (if b then 0 else suc (place_in sets (slice_index sets j))) ≡ suc j
    go true d e = absurd (omega (arith, d.0 refl, IsAmong-from (suc set) sets (slice_index sets j) o.1 (among_at sets j 0 (omega arith))))
    go false d e = ap suc e

-- the sequence before a set comes before the set's own
follows : (t : Tree) (i : ℕ) → IsTree t → HasPerfectRecall t i → AreNumberedByFirstNodes t → (j : ℕ) → j < length (own_sets t i) → sequence_before t i (slice_index (own_sets t i) j) < first (side_of t i) j
follows t i w r f j h =
    let s : ℕ = slice_index (own_sets t i) j in
    let own = own_set-is t i j h in
    let place : place_in (own_sets t i) s ≡ j = place_at 0 (own_sets t i) j (own_sets-ascend t i) h in
    subst (λ n. sequence_before t i s < first_after (own_action_count t i) n) place (go s own.1)
  where
    go : (s : ℕ) → t.owner s ≡ Some i → sequence_before t i s < first_after (own_action_count t i) (place_in (own_sets t i) s)
    go s e = elim (history_before-cases t i s) [
      | inl o ↦ subst (λ x. sequence t i (last_edge x) < first_after (own_action_count t i) (place_in (own_sets t i) s)) (sym o.3) (last-before t i w r f (suc o.0) o.0 s (omega arith) o.1 o.2 e)
      | inr o ↦ subst (λ x. sequence t i (last_edge x) < first_after (own_action_count t i) (place_in (own_sets t i) s)) (sym o.0) (first_pos (own_action_count t i) (place_in (own_sets t i) s))
    ]

-- a player's sets are in order
pub trees_ordered : TreesHaveOrderedSides
trees_ordered t i w r f = record { follows = follows t i w r f; some_action = λ j h. w.some_action (slice_index (own_sets t i) j) (own_set-is t i j h).0 }
