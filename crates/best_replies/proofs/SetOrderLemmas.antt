-- Under perfect recall sets that are numbered by their first nodes ascend on each path.
use Rattle.std.proofs.Common.{ℕ, zero, suc, ◌<◌, ◌≤◌, ◌≡◌, ◌⊎◌, inl, inr, Bool, true, false, Some, List, [], ◌∷◌, ◌++◌, refl, sym, ap, ◌∙◌, subst, arith}
use Rattle.std.specs.Prelude.{if◌then◌else◌}
use Rattle.std.proofs.lemmas.Bool.{cases_lt, cases_eq}
use Rattle.game_theory.specs.Trees.{Tree, IsTree, IsAbove, IsWithin}
use Rattle.game_theory.specs.Behaviour.{is_own}
use Rattle.game_theory.specs.Recall.{own_edge, own_history, HasPerfectRecall}
use Rattle.game_theory.proofs.PathLemmas.{along_paths, own_history-step}
use Rattle.game_theory.specs.FirstNodes.{AreNumberedByFirstNodes}
use Rattle.best_replies.specs.Laws.{SetsAscendOnPaths}
use Rattle.best_replies.proofs.WeightLemmas.{if_own}

-- ---- paths
-- what lies in the subtree of a node of a subtree lies in that subtree
pub within-trans : (t : Tree) (k c : ℕ) → IsWithin t k c → (m x : ℕ) → IsAbove t m c x → IsWithin t k x
within-trans t k c h zero x e = subst (IsWithin t k) e h
within-trans t k c h (suc m) x g =
    let rest = within-trans t k c h m (t.parent x) g.1 in
    (suc rest.0, (g.0, rest.1))

-- a node above another has no greater number
pub above-le : (t : Tree) → IsTree t → (n k c : ℕ) → c < t.size → IsAbove t n k c → k ≤ c
above-le t w zero k c l e = omega arith
above-le t w (suc n) k c l h =
    let after : t.parent c < c = w.after_parent c h.0 l in
    let before : k ≤ t.parent c = above-le t w n k (t.parent c) (omega arith) h.1 in
    omega arith

-- ---- sets in own histories
-- a history has a step at set r
abbrev HasSet : ℕ → List (ℕ × ℕ) → Type 0
HasSet r [] = ⊥
HasSet r (step ∷ history) = (step.0 ≡ r) ⊎ HasSet r history

-- of a history in two parts
HasSet-append : (r : ℕ) (xs ys : List (ℕ × ℕ)) → HasSet r xs ⊎ HasSet r ys → HasSet r (xs ++ ys)
HasSet-append r [] ys (inl h) = absurd h
HasSet-append r [] ys (inr h) = h
HasSet-append r (x ∷ xs) ys (inl (inl e)) = inl e
HasSet-append r (x ∷ xs) ys (inl (inr h)) = inr (HasSet-append r xs ys (inl h))
HasSet-append r (x ∷ xs) ys (inr h) = inr (HasSet-append r xs ys (inr h))

-- in one of its parts
HasSet-parts : (r : ℕ) (xs ys : List (ℕ × ℕ)) → HasSet r (xs ++ ys) → HasSet r xs ⊎ HasSet r ys
HasSet-parts r [] ys h = inr h
HasSet-parts r (x ∷ xs) ys (inl e) = inl (inl e)
HasSet-parts r (x ∷ xs) ys (inr h) = elim (HasSet-parts r xs ys h) [ inl g ↦ inl (inr g) | inr g ↦ inr g ]

-- the step from a node of an own set
step-has_set : (t : Tree) (i r a : ℕ) → t.owner r ≡ Some i → HasSet r (own_edge t i (Some r) a)
step-has_set t i r a o = subst (HasSet r) (sym (if_own t i r ((r, a) ∷ []) [] o)) (inl refl)

-- a step at a set is from a node of that set
step-set : (t : Tree) (i r s a : ℕ) → HasSet r (own_edge t i (Some s) a) → s ≡ r
step-set t i r s a h = go (is_own t i s) h
  where
    go : (b : Bool) → HasSet r (if b then (s, a) ∷ [] else []) → s ≡ r
    go true (inl e) = e
    go true (inr g) = absurd g
    go false g = absurd g

-- the own set of a node further up is in the history
above-has_set : (t : Tree) (i r k : ℕ) → IsTree t → t.set k ≡ Some r → t.owner r ≡ Some i → (n c : ℕ) → c < t.size → IsAbove t (suc n) k c → HasSet r (own_history t i c)
above-has_set t i r k w e o zero c l h =
    let step : own_edge t i (t.set (t.parent c)) (t.branch c) ≡ own_edge t i (Some r) (t.branch c) = ap (λ x. own_edge t i x (t.branch c)) (ap t.set (sym h.1) ∙ e) in
    subst (HasSet r) (sym (own_history-step t i c w h.0 l)) (HasSet-append r (own_history t i (t.parent c)) _ (inr (subst (HasSet r) (sym step) (step-has_set t i r (t.branch c) o))))
above-has_set t i r k w e o (suc n) c l h =
    let after : t.parent c < c = w.after_parent c h.0 l in
    subst (HasSet r) (sym (own_history-step t i c w h.0 l)) (HasSet-append r (own_history t i (t.parent c)) _ (inl (above-has_set t i r k w e o n (t.parent c) (omega arith) h.1)))

-- and a set in the history has a node further up
has_set-above : (t : Tree) (i r : ℕ) → IsTree t → (c : ℕ) → c < t.size → HasSet r (own_history t i c) → (k : ℕ) × (k < c) × (t.set k ≡ Some r)
has_set-above t i r w = along_paths t (λ c. HasSet r (own_history t i c) → (k : ℕ) × (k < c) × (t.set k ≡ Some r)) w (λ h. absurd h) next
  where
    next : (c : ℕ) → 0 < c → c < t.size → (HasSet r (own_history t i (t.parent c)) → (k : ℕ) × (k < t.parent c) × (t.set k ≡ Some r)) → HasSet r (own_history t i c) → (k : ℕ) × (k < c) × (t.set k ≡ Some r)
    next c p l before h = elim (HasSet-parts r (own_history t i (t.parent c)) _ (subst (HasSet r) (own_history-step t i c w p l) h)) [
      | inl g ↦ let k = before g in let after : t.parent c < c = w.after_parent c p l in (k.0, omega (arith, k.1), k.2)
      | inr g ↦ let led = w.led_to c p l in
          (t.parent c, w.after_parent c p l, led.1 ∙ ap Some (step-set t i r led.0 (t.branch c) (subst (λ x. HasSet r (own_edge t i x (t.branch c))) led.1 g)))
    ]

-- ---- the order
module _ (t : Tree) (i : ℕ) (w : IsTree t) (recall : HasPerfectRecall t i) (numbered : AreNumberedByFirstNodes t) where
  -- No node of an own set has a set of no smaller number in its history: by perfect recall the first node of the set would have it as well,
  -- and before that set's nodes stands a node of the first set.
  no_later_set : (r s : ℕ) → t.owner s ≡ Some i → s ≤ r → (n l : ℕ) → l < n → l < t.size → t.set l ≡ Some s → HasSet r (own_history t i l) → ⊥
  no_later_set r s o order zero l below inside e h = absurd (omega (arith, below))
  no_later_set r s o order (suc n) l below inside e h =
      let above = has_set-above t i r w l inside h in
      elim (cases_eq s r) [
        | inl same ↦ let at : t.set above.0 ≡ Some s = above.2 ∙ ap Some (sym same) in
            no_later_set r s o order n above.0 (omega (arith, above.1)) (omega (arith, above.1)) at (subst (HasSet r) (recall s o l above.0 inside (omega (arith, above.1)) e at) h)
        | inr apart ↦ let before = numbered above.0 r s (omega (arith, above.1)) above.2 (omega arith) in
            no_later_set r s o order n before.0 (omega (arith, above.1, before.1)) (omega (arith, above.1, before.1)) before.2 (subst (HasSet r) (recall s o l before.0 inside (omega (arith, above.1, before.1)) e before.2) h)
      ]

-- under perfect recall sets that are numbered by their first nodes ascend on each path
pub sets-ascend_on_paths : SetsAscendOnPaths
sets-ascend_on_paths t i w recall numbered k c r s l (zero, e) apart at_k at_c own_r own_s = absurd (apart e)
sets-ascend_on_paths t i w recall numbered k c r s l (suc n, h) apart at_k at_c own_r own_s = elim (cases_lt r s) [
  | inl before ↦ before
  | inr later ↦ absurd (no_later_set t i w recall numbered r s own_s later (suc c) c (omega arith) l at_c (above-has_set t i r k w at_k own_r n c l h))
]
