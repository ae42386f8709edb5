-- Entries, as they grow one by one.
use Rattle.std.proofs.Common.{ℕ, zero, suc, ◌+◌, ◌≡◌, List, [], ◌∷◌, ◌++◌, sym, ap, ap₂, refl, ◌∙◌, append_assoc, add-one}
use Rattle.rational.specs.Rational.{ℚ}
use Rattle.game_theory.specs.Lines.{listed}

-- one entry more
pub listed-next : (n : ℕ) (f : ℕ → ℚ) → listed (suc n) f ≡ listed n f ++ f n ∷ []
listed-next zero f = refl
listed-next (suc n) f = ap (λ v. f 0 ∷ v) (listed-next n (λ i. f (suc i)))

-- the entries so far with one more
pub listed-push : (all now old : List ℚ) (n : ℕ) (f : ℕ → ℚ) (x : ℚ) → now ≡ old ++ listed n f → all ≡ now ++ x ∷ [] → x ≡ f n → all ≡ old ++ listed (n + 1) f
listed-push all now old n f x before push is =
    push ∙ ap₂ (λ v w. v ++ w ∷ []) before is ∙ append_assoc old (listed n f) (f n ∷ []) ∙ ap (λ v. old ++ v) (sym (listed-next n f) ∙ ap (λ v. listed v f) (sym (add-one n)))
