-- Pure equilibria are extreme.
use Rattle.std.proofs.Common.{ℕ, ◌<◌, ◌≡◌, ◌∙◌, inl, inr, [], ◌∷◌, length, get_or, ap₂, sym, subst, pos, arith}
use Rattle.std.proofs.lemmas.Bool.{cases_eq}
use Rattle.std.proofs.lemmas.Int.{ints}
use Rattle.rational.specs.Rational.{ℚ, ◌+ℚ◌, ◌≤ℚ◌, zero_ℚ, one_ℚ}
use Rattle.rational.proofs.Linear.{linear, at, lit, ◌⟨+⟩◌, ◌⟨≤⟩◌, ◌⟨=⟩◌}
use Rattle.rational.proofs.SumLemmas.{sum_to-same, term_le_sum}
use Rattle.game_theory.specs.Profiles.{Game}
use Rattle.game_theory.specs.Mixed.{Mixed, pure, sure}
use Rattle.game_theory.specs.Equilibrium.{IsEquilibrium}
use Rattle.game_theory.proofs.SureStrategyLemmas.{sure-at, sure-other}
use Rattle.extreme_equilibria.specs.ExtremeEquilibria.{with_part, IsNoMidpoint}
use Rattle.extreme_equilibria.specs.Laws.{PureEquilibriaAreExtreme}
use Rattle.extreme_equilibria.proofs.TwoPlayerLemmas.{with_part-at}

-- numbers that are not negative and sum to 0 are the same
zeros_same : (a b : ℚ) → zero_ℚ ≤ℚ a → zero_ℚ ≤ℚ b → a +ℚ b ≡ zero_ℚ +ℚ zero_ℚ → a ≡ b
zeros_same a b h k e =
    linear (a ∷ b ∷ []) ((lit (pos 0) ⟨≤⟩ at 0) ∷ (lit (pos 0) ⟨≤⟩ at 1) ∷ ((at 0 ⟨+⟩ at 1) ⟨=⟩ (lit (pos 0) ⟨+⟩ lit (pos 0))) ∷ []) (at 0 ⟨=⟩ at 1) (λ one z p h. omega (arith, ints)) (h, (k, (e, tt)))

-- numbers of at most 1 that sum to 2 are the same
ones_same : (a b : ℚ) → a ≤ℚ one_ℚ → b ≤ℚ one_ℚ → a +ℚ b ≡ one_ℚ +ℚ one_ℚ → a ≡ b
ones_same a b h k e =
    linear (a ∷ b ∷ []) ((at 0 ⟨≤⟩ lit (pos 1)) ∷ (at 1 ⟨≤⟩ lit (pos 1)) ∷ ((at 0 ⟨+⟩ at 1) ⟨=⟩ (lit (pos 1) ⟨+⟩ lit (pos 1))) ∷ []) (at 0 ⟨=⟩ at 1) (λ one z p h. omega (arith, ints)) (h, (k, (e, tt)))

-- probabilities of a player in an equilibrium
module _ (g : Game) (m : Mixed) (i : ℕ) (p : ℕ → ℚ) (h : IsEquilibrium g (with_part m i p)) (l : i < length g.strategies) where
  part_not_negative : (s : ℕ) → s < get_or g.strategies i 0 → zero_ℚ ≤ℚ p s
  part_not_negative s k = subst (λ x. zero_ℚ ≤ℚ x) (with_part-at m i p s) ((h.valid i l).not_negative s k)

  part_at_most : (s : ℕ) → s < get_or g.strategies i 0 → p s ≤ℚ one_ℚ
  part_at_most s k =
      subst (λ x. p s ≤ℚ x) (sym (sum_to-same (get_or g.strategies i 0) (with_part m i p i) p (λ t _. with_part-at m i p t)) ∙ (h.valid i l).sum_is_one)
      (term_le_sum (get_or g.strategies i 0) s p part_not_negative k)

-- a sure strategy is in the middle of no two different parts
pub pure-extreme : PureEquilibriaAreExtreme
pure-extreme g profile h = record { equilibrium = h; alone = alone }
  where
    alone : (i : ℕ) → i < length g.strategies → IsNoMidpoint (get_or g.strategies i 0) (λ p. IsEquilibrium g (with_part (pure profile) i p)) (pure profile i)
    alone i l p q one other middle s k = elim (cases_eq s (get_or profile i 0)) [
      | inl e ↦
          (let played : pure profile i s ≡ one_ℚ = subst (λ t. sure t s ≡ one_ℚ) e (sure-at s) in
          ones_same (p s) (q s) (part_at_most g (pure profile) i p one l s k) (part_at_most g (pure profile) i q other l s k) (middle s k ∙ ap₂ ◌+ℚ◌ played played))
      | inr n ↦
          (let unplayed : pure profile i s ≡ zero_ℚ = sure-other (get_or profile i 0) s n in
          zeros_same (p s) (q s) (part_not_negative g (pure profile) i p one l s k) (part_not_negative g (pure profile) i q other l s k) (middle s k ∙ ap₂ ◌+ℚ◌ unplayed unplayed))
    ]
