-- Which choices agree with an own history.
use Rattle.std.proofs.Common.{ℕ, suc, ◌<◌, ◌≡◌, ◌↔◌, Bool, true, false, Decides, Some, List, [], ◌∷◌, ◌++◌, refl, sym, ap, ◌∙◌, subst}
use Rattle.std.specs.Prelude.{if◌then◌else◌}
use Rattle.std.proofs.lemmas.Bool.Decides.{not_from_Decides}
use Rattle.game_theory.proofs.OwnSetLemmas.{is_own-decides}
use Rattle.game_theory.proofs.PathLemmas.{own_history-step}
use Rattle.game_theory.specs.Trees.{Tree, IsTree}
use Rattle.game_theory.specs.Behaviour.{is_own}
use Rattle.game_theory.specs.Recall.{own_edge, own_history}
use Rattle.reduced_strategies.specs.Choices.{Agrees}

-- a history in two parts agrees where both parts do
pub Agrees-append : (choice : ℕ → ℕ) (xs ys : List (ℕ × ℕ)) → Agrees choice (xs ++ ys) ↔ (Agrees choice xs × Agrees choice ys)
Agrees-append choice [] ys = (λ h. (tt, h), λ h. h.1)
Agrees-append choice (x ∷ xs) ys =
    let later = Agrees-append choice xs ys in
    (λ h. let p = later.0 h.1 in ((h.0, p.0), p.1), λ h. (h.0.0, later.1 (h.0.1, h.1)))

-- the step by action a at set s agrees where an own set is given that action
own_edge-agrees : (t : Tree) (i s a : ℕ) (choice : ℕ → ℕ) → Agrees choice (own_edge t i (Some s) a) ↔ (t.owner s ≡ Some i → choice s ≡ suc a)
own_edge-agrees t i s a choice = go (is_own t i s) (is_own-decides t i s)
  where
    go : (b : Bool) → Decides b (t.owner s ≡ Some i) → Agrees choice (if b then (s, a) ∷ [] else []) ↔ (t.owner s ≡ Some i → choice s ≡ suc a)
    go true d = (λ h o. h.0, λ h. (h (d.0 refl), tt))
    go false d = (λ h o. absurd (not_from_Decides false d refl o), λ h. tt)

-- choices agree with a child's history where they agree with the parent's and, at an own set, with the action that leads to the child
pub agrees_at_child : (t : Tree) (i c s : ℕ) (choice : ℕ → ℕ) → IsTree t → 0 < c → c < t.size → t.set (t.parent c) ≡ Some s
    → Agrees choice (own_history t i c) ↔ (Agrees choice (own_history t i (t.parent c)) × (t.owner s ≡ Some i → choice s ≡ suc (t.branch c)))
agrees_at_child t i c s choice w p l q =
    let e : own_history t i c ≡ own_history t i (t.parent c) ++ own_edge t i (Some s) (t.branch c) =
    own_history-step t i c w p l ∙ ap (λ x. own_history t i (t.parent c) ++ own_edge t i x (t.branch c)) q in
    let parts = Agrees-append choice (own_history t i (t.parent c)) (own_edge t i (Some s) (t.branch c)) in
    let step = own_edge-agrees t i s (t.branch c) choice in
    (λ h. let both = parts.0 (subst (Agrees choice) e h) in (both.0, step.0 both.1), λ h. subst (Agrees choice) (sym e) (parts.1 (h.0, step.1 h.1)))
