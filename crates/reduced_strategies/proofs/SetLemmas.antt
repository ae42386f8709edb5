-- A player's own sets, and what choice lists give them.
use Rattle.std.proofs.Common.{ℕ, suc, ◌<◌, ◌≡◌, ◌≢◌, ◌⊎◌, inl, inr, Bool, true, false, Decides, List, [], ◌∷◌, length, map, refl, sym, ap, ap₂, ◌∙◌, arith, tests}
use Rattle.std.specs.Prelude.{◌==◌, if◌then◌else◌}
use Rattle.std.proofs.lemmas.Bool.{cases_lt}
use Rattle.std.proofs.lemmas.Bool.Decides.{Decides-eqb, not_from_Decides}
use Rattle.game_theory.proofs.OwnSetLemmas.{IsAmong, AscendFrom, IsAmong-from}
use Rattle.reduced_strategies.specs.Choices.{choice_at}

-- the choice at the first set
pub choice_at-first : (set choice s : ℕ) (sets choices : List ℕ) → set ≡ s → choice_at (set ∷ sets) (choice ∷ choices) s ≡ choice
choice_at-first set choice s sets choices e = grind (arith, tests)

-- the choice at a later set
pub choice_at-later : (set choice s : ℕ) (sets choices : List ℕ) → set ≢ s → choice_at (set ∷ sets) (choice ∷ choices) s ≡ choice_at sets choices s
choice_at-later set choice s sets choices e = grind (arith, tests)

-- a list of a function's values gives each of the sets that value
pub choice_at-map : (f : ℕ → ℕ) (sets : List ℕ) (s : ℕ) → IsAmong sets s → choice_at sets (map f sets) s ≡ f s
choice_at-map f [] s h = absurd h
choice_at-map f (set ∷ sets) s h = go (set == s) (Decides-eqb set s) (choice_at-map f sets s) h
  where
    go : (b : Bool) → Decides b (set ≡ s) → (IsAmong sets s → choice_at sets (map f sets) s ≡ f s) → (set ≡ s) ⊎ IsAmong sets s → (if b then f set else choice_at sets (map f sets) s) ≡ f s
    go true d later a = ap f (d.0 refl)
    go false d later (inl e) = absurd (not_from_Decides false d refl e)
    go false d later (inr a) = later a

-- a set that is given an action is one of the sets
pub choice_at-among : (sets choices : List ℕ) (s : ℕ) → 0 < choice_at sets choices s → IsAmong sets s
choice_at-among [] choices s h = absurd (omega arith)
choice_at-among (set ∷ sets) [] s h = absurd (omega arith)
choice_at-among (set ∷ sets) (choice ∷ choices) s h = go (set == s) (Decides-eqb set s) (choice_at-among sets choices s) h
  where
    go : (b : Bool) → Decides b (set ≡ s) → (0 < choice_at sets choices s → IsAmong sets s) → 0 < (if b then choice else choice_at sets choices s) → (set ≡ s) ⊎ IsAmong sets s
    go true d later p = inl (d.0 refl)
    go false d later p = inr (later p)

-- a set below those of the list is given no action
pub choice_at-below : (n : ℕ) (sets choices : List ℕ) (s : ℕ) → AscendFrom n sets → s < n → choice_at sets choices s ≡ 0
choice_at-below n sets choices s o l =
    elim (cases_lt 0 (choice_at sets choices s)) [ inl p ↦ absurd (omega (arith, IsAmong-from n sets s o (choice_at-among sets choices s p))) | inr p ↦ omega arith ]

-- lists that give the same after the first set
choice_at-rest : (set : ℕ) (sets : List ℕ) (x y : ℕ) (xs ys : List ℕ) → AscendFrom (suc set) sets → ((s : ℕ) → choice_at (set ∷ sets) (x ∷ xs) s ≡ choice_at (set ∷ sets) (y ∷ ys) s) → (s : ℕ) → choice_at sets xs s ≡ choice_at sets ys s
choice_at-rest set sets x y xs ys o h s = elim (cases_lt set s) [ inl l ↦ later (omega arith) | inr l ↦ choice_at-below (suc set) sets xs s o (omega arith) ∙ sym (choice_at-below (suc set) sets ys s o (omega arith)) ]
  where
    later : set ≢ s → choice_at sets xs s ≡ choice_at sets ys s
    later e = sym (choice_at-later set x s sets xs e) ∙ h s ∙ choice_at-later set y s sets ys e

-- lists with a choice for each set that give the same are equal
pub choice_at-determines : (n : ℕ) (sets xs ys : List ℕ) → AscendFrom n sets → length xs ≡ length sets → length ys ≡ length sets → ((s : ℕ) → choice_at sets xs s ≡ choice_at sets ys s) → xs ≡ ys
choice_at-determines n [] [] [] o d e h = refl
choice_at-determines n [] [] (y ∷ ys) o d e h = absurd (omega arith)
choice_at-determines n [] (x ∷ xs) ys o d e h = absurd (omega arith)
choice_at-determines n (set ∷ sets) [] ys o d e h = absurd (omega arith)
choice_at-determines n (set ∷ sets) (x ∷ xs) [] o d e h = absurd (omega arith)
choice_at-determines n (set ∷ sets) (x ∷ xs) (y ∷ ys) o d e h =
    ap₂ (λ v w. v ∷ w) (sym (choice_at-first set x set sets xs refl) ∙ h set ∙ choice_at-first set y set sets ys refl) (choice_at-determines (suc set) sets xs ys o.1 (omega arith) (omega arith) (choice_at-rest set sets x y xs ys o.1 h))
