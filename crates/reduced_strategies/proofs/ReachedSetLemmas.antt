-- Which sets are reached, and that choices which are the same where they are reached reach the same sets.
use Rattle.std.proofs.Common.{ℕ, zero, suc, ◌<◌, ◌≡◌, Bool, true, false, Decides, Some, List, [], ◌∷◌, refl, sym, ◌∙◌, arith}
use Rattle.std.specs.Prelude.{◌==◌, ◌&&◌, ◌||◌}
use Rattle.std.proofs.lemmas.Bool.Decides.{Decides-and, Decides-eqb, Decides-like, Decides-below_or}
use Rattle.game_theory.proofs.OwnSetLemmas.{is_index-decides}
use Rattle.game_theory.specs.Trees.{Tree, IsTree}
use Rattle.game_theory.specs.Behaviour.{is_index}
use Rattle.game_theory.specs.Recall.{own_history}
use Rattle.reduced_strategies.specs.Choices.{Agrees, IsReachedUnder}
use Rattle.game_theory.proofs.PathLemmas.{along_paths}
use Rattle.reduced_strategies.proofs.AgreementLemmas.{agrees_at_child}

-- ---- the test
-- whether a history agrees with choices
abbrev agrees : (ℕ → ℕ) → List (ℕ × ℕ) → Bool
agrees choice [] = true
agrees choice (edge ∷ history) = (choice edge.0 == suc edge.1) && agrees choice history

-- what the test of a history tells
agrees-decides : (choice : ℕ → ℕ) (history : List (ℕ × ℕ)) → Decides (agrees choice history) (Agrees choice history)
agrees-decides choice [] = (λ e. tt, λ h. refl)
agrees-decides choice (edge ∷ history) =
    Decides-and (choice edge.0 == suc edge.1) (agrees choice history) (Decides-eqb (choice edge.0) (suc edge.1)) (agrees-decides choice history)

-- whether a test holds at some number below n
abbrev some_below : (ℕ → Bool) → ℕ → Bool
some_below p zero = false
some_below p (suc n) = p n || some_below p n

-- whether node k is of set s, and its history agrees with choices
abbrev reaches_at : Tree → ℕ → (ℕ → ℕ) → ℕ → ℕ → Bool
reaches_at t i choice s k = is_index (t.set k) s && agrees choice (own_history t i k)

-- whether a set is reached
abbrev pub is_reached : Tree → ℕ → (ℕ → ℕ) → ℕ → Bool
is_reached t i choice s = some_below (reaches_at t i choice s) t.size

-- node k is of set s, and its history agrees with choices
abbrev ReachesAt : Tree → ℕ → (ℕ → ℕ) → ℕ → ℕ → Type 0
ReachesAt t i choice s k = (t.set k ≡ Some s) × Agrees choice (own_history t i k)

-- what the test of a node tells
reaches_at-decides : (t : Tree) (i : ℕ) (choice : ℕ → ℕ) (s k : ℕ) → Decides (reaches_at t i choice s k) (ReachesAt t i choice s k)
reaches_at-decides t i choice s k =
    Decides-and (is_index (t.set k) s) (agrees choice (own_history t i k)) (is_index-decides (t.set k) s) (agrees-decides choice (own_history t i k))

-- what the test of a set tells
pub is_reached-decides : (t : Tree) (i : ℕ) (choice : ℕ → ℕ) (s : ℕ) → Decides (is_reached t i choice s) (IsReachedUnder t i choice s)
is_reached-decides t i choice s =
    let nodes = Decides-below_or (reaches_at t i choice s) (ReachesAt t i choice s) (some_below (reaches_at t i choice s)) (reaches_at-decides t i choice s) refl (λ n. refl) t.size in
    Decides-like (is_reached t i choice s) (λ h. (h.0, h.1, h.2.0, h.2.1)) (λ h. (h.0, h.1, (h.2, h.3))) nodes

-- ---- choices that are the same where they are reached
-- two choices are the same at each own set that both reach by one node
abbrev pub SameWhereReached : Tree → ℕ → (ℕ → ℕ) → (ℕ → ℕ) → Type 0
SameWhereReached t i choice other =
    (s k : ℕ) → k < t.size → t.set k ≡ Some s → t.owner s ≡ Some i → Agrees choice (own_history t i k) → Agrees other (own_history t i k) → choice s ≡ other s

-- the same of the second and the first
pub SameWhereReached-sym : (t : Tree) (i : ℕ) (choice other : ℕ → ℕ) → SameWhereReached t i choice other → SameWhereReached t i other choice
SameWhereReached-sym t i choice other same s k l e o h g = sym (same s k l e o g h)

-- then the second agree with each history with which the first do
agrees-same : (t : Tree) (i : ℕ) (choice other : ℕ → ℕ) → IsTree t → SameWhereReached t i choice other → (k : ℕ) → k < t.size → Agrees choice (own_history t i k) → Agrees other (own_history t i k)
agrees-same t i choice other w same k l = along_paths t (λ x. Agrees choice (own_history t i x) → Agrees other (own_history t i x)) w (λ h. tt) next k l
  where
    next : (c : ℕ) → 0 < c → c < t.size → (Agrees choice (own_history t i (t.parent c)) → Agrees other (own_history t i (t.parent c))) → Agrees choice (own_history t i c) → Agrees other (own_history t i c)
    next c p m before h =
        let after : t.parent c < c = w.after_parent c p m in
        let led = w.led_to c p m in
        let front = (agrees_at_child t i c led.0 choice w p m led.1).0 h in
        let following : Agrees other (own_history t i (t.parent c)) = before front.0 in
        (agrees_at_child t i c led.0 other w p m led.1).1 (following, λ o. sym (same led.0 (t.parent c) (omega arith) led.1 o front.0 following) ∙ front.1 o)

-- and reach each set that the first reach
pub IsReached-same : (t : Tree) (i : ℕ) (choice other : ℕ → ℕ) → IsTree t → SameWhereReached t i choice other → (s : ℕ) → IsReachedUnder t i choice s → IsReachedUnder t i other s
IsReached-same t i choice other w same s h = (h.0, h.1, h.2, agrees-same t i choice other w same h.0 h.1 h.3)
