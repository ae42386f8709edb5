-- The draws, step by step.
use Rattle.std.proofs.Common.{ℕ, ◌+◌, ◌≡◌, ◌∙◌, pos, List, [], ◌∷◌, ◌++◌, sym, ap, ap₂, arith, add-one}
use Rattle.std.proofs.lemmas.List.FromFn.{map-range_with_len_more}
use Rattle.rational.specs.Rational.{ℚ, whole}
use Rattle.game_core.specs.MadeTables.{digit_of, drawn, made_payoffs, next_state, state}

pub state_next : (seed n s t : ℕ) → s ≡ state seed n → t ≡ next_state s → t ≡ state seed (n + 1)
state_next seed n s t e f = f ∙ ap next_state e ∙ sym (ap (state seed) (add-one n))

pub payoffs_next : (seed n s : ℕ) (old : List ℚ) (p : ℚ) → s ≡ state seed (n + 1) → p ≡ whole (pos (digit_of s)) → old ≡ made_payoffs seed n → old ++ p ∷ [] ≡ made_payoffs seed (n + 1)
payoffs_next seed n s old p e f g =
    ap₂ (λ (xs : List ℚ) (q : ℚ). xs ++ q ∷ []) g (f ∙ ap (λ x. whole (pos (digit_of x))) e)
    ∙ sym (map-range_with_len_more (λ k. whole (pos (drawn seed k))) 1 n (n + 1) (omega arith))
