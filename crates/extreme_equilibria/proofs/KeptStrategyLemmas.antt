-- Each player keeps some strategy.
use Rattle.std.proofs.Common.{ℕ, zero, suc, ◌<◌, ◌≡◌, ◌⊎◌, inl, inr, List, length, get_or, subst, arith}
use Rattle.std.proofs.lemmas.Bool.{cases_lt}
use Rattle.rational.specs.Rational.{ℚ, ◌≤ℚ◌}
use Rattle.rational.proofs.Field.{le_or_lt, le_refl, le_of_lt, le_trans, lt_irrefl, lt_of_lt_of_le}
use Rattle.game_theory.specs.Profiles.{Game}
use Rattle.extreme_equilibria.specs.TwoPlayers.{other, pays_against}
use Rattle.extreme_equilibria.specs.Elimination.{IsKeptAfter, AreKept}
use Rattle.extreme_equilibria.proofs.RoundLemmas.{other-below, kept-within, kept_or_not, rounds-end, last_round}

-- of the numbers below n that pass one with the greatest value
abbrev Greatest : (ℕ → Type 0) → (ℕ → ℚ) → ℕ → Type 0
Greatest P v n = (a : ℕ) × P a × ((c : ℕ) → c < n → P c → v c ≤ℚ v a)

-- if any passes
greatest_passing : (P : ℕ → Type 0) → ((k : ℕ) → P k ⊎ (P k → ⊥)) → (v : ℕ → ℚ) (n : ℕ) → Greatest P v n ⊎ ((k : ℕ) → k < n → P k → ⊥)
greatest_passing P decide v zero = inr (λ k l p. absurd (omega (arith, l)))
greatest_passing P decide v (suc n) = elim (decide n) [
  | inr not ↦ elim (greatest_passing P decide v n) [
    | inl best ↦ inl (best.0, best.1, λ c l p. elim (cases_lt c n) [ inl before ↦ best.2 c before p | inr last ↦ let e : c ≡ n = omega arith in absurd (not (subst P e p)) ])
    | inr none ↦ inr (λ k l p. elim (cases_lt k n) [ inl before ↦ none k before p | inr last ↦ let e : k ≡ n = omega arith in not (subst P e p) ])
  ]
  | inl here ↦ elim (greatest_passing P decide v n) [
    | inr none ↦ inl (n, here, λ c l p. elim (cases_lt c n) [ inl before ↦ absurd (none c before p) | inr last ↦ let e : n ≡ c = omega arith in subst (λ x. v x ≤ℚ v n) e (le_refl (v n)) ])
    | inl best ↦ elim (le_or_lt (v n) (v best.0)) [
      | inl le ↦ inl (best.0, best.1, λ c l p. elim (cases_lt c n) [ inl before ↦ best.2 c before p | inr last ↦ let e : n ≡ c = omega arith in subst (λ x. v x ≤ℚ v best.0) e le ])
      | inr lt ↦ inl (n, here, λ c l p. elim (cases_lt c n) [ inl before ↦ le_trans _ _ _ (best.2 c before p) (le_of_lt _ _ lt) | inr last ↦ let e : n ≡ c = omega arith in subst (λ x. v x ≤ℚ v n) e (le_refl (v n)) ])
    ]
  ]
]

module _ (g : Game) (some : (i : ℕ) → i < 2 → 0 < get_or g.strategies i 0) where
  -- each round keeps what pays most against a strategy that was kept before
  some-after : (n i : ℕ) → i < 2 → (s : ℕ) × IsKeptAfter g n i s
  some-after zero i l = (0, some i l)
  some-after (suc n) i l =
      let own = some-after n i l in
      let against = some-after n (other i) (other-below i) in
      elim (greatest_passing (IsKeptAfter g n i) (λ s. kept_or_not g n i s) (λ s. pays_against g i s against.0) (get_or g.strategies i 0)) [
        | inl best ↦ (best.0, (best.1, λ d. lt_irrefl (pays_against g i best.0 against.0) (lt_of_lt_of_le _ _ _ (d.pays_more against.0 against.1) (best.2 d.by (kept-within g n i d.by d.is_own) d.is_own))))
        | inr none ↦ absurd (none own.0 (kept-within g n i own.0 own.1) own.1)
      ]

  -- so the list of kept strategies is not empty
  pub some-kept : (i : ℕ) (kept : List ℕ) → i < 2 → AreKept g i kept → 0 < length kept
  some-kept i kept l h =
      let end = rounds-end g in
      let s = some-after end.0 i l in
      let c = h.complete s.0 (last_round g end.0 end.1 i s.0 l s.1) in
      omega (arith, c.1)
