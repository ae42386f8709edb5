-- The equilibria of a game of two players are those of the table of the kept strategies.
use Rattle.std.proofs.Common.{ℕ, zero, suc, ◌<◌, ◌≡◌, inl, inr, List, [], ◌∷◌, length, map, get_or, refl, sym, ap, ◌∙◌, subst, subst₂, arith}
use Rattle.std.proofs.lemmas.Bool.{cases_eq}
use Rattle.std.specs.Prelude.{Contains}
use Rattle.std.proofs.lemmas.List.{length-map}
use Rattle.std.proofs.lemmas.List.Elements.{Contains-get_or}
use Rattle.rational.specs.Rational.{ℚ, ◌*ℚ◌, ◌≤ℚ◌, zero_ℚ}
use Rattle.rational.specs.Sum.{sum_to}
use Rattle.rational.proofs.Field.{le_refl, le_trans}
use Rattle.rational.proofs.Rules.{zero-*ℚ}
use Rattle.rational.proofs.SumLemmas.{sum_to-same}
use Rattle.game_theory.specs.Profiles.{Game, number_of, strategies_at}
use Rattle.game_theory.specs.Mixed.{Mixed, IsValid, payoff}
use Rattle.game_theory.specs.Equilibrium.{IsEquilibrium}
use Rattle.game_theory.proofs.ProfileNumberLemmas.{profile_at-number_of}
use Rattle.extreme_equilibria.specs.TwoPlayers.{other, pays_against}
use Rattle.extreme_equilibria.specs.Elimination.{IsKept, AreKept}
use Rattle.extreme_equilibria.specs.KeptTable.{AreKeptLists, kept_table, at_kept, IsZeroAtRemoved}
use Rattle.extreme_equilibria.specs.KeptLaws.{EquilibriaOfTheKeptTable}
use Rattle.extreme_equilibria.proofs.RoundLemmas.{other-below, kept-within}
use Rattle.extreme_equilibria.proofs.KeptListLemmas.{place, contains_or_not}
use Rattle.extreme_equilibria.proofs.ListSumLemmas.{sum-over_list, greatest}
use Rattle.extreme_equilibria.proofs.KeptPlayerLemmas.{two-profile, gain, payoff-gains, gain-below, equilibrium-by_gains, PlaysKept, best-kept, zero-at_removed}

-- how many strategies a player keeps
pub kept-count : (kept : List (List ℕ)) (i : ℕ) → get_or (map length kept) i 0 ≡ length (get_or kept i [])
kept-count [] i = refl
kept-count (xs ∷ kept) zero = refl
kept-count (xs ∷ kept) (suc i) = kept-count kept i

-- the strategies at two places
strategies_at-two : (kept : List (List ℕ)) (j l : ℕ) → length kept ≡ 2 → strategies_at kept (j ∷ l ∷ []) ≡ get_or (get_or kept 0 []) j 0 ∷ get_or (get_or kept 1 []) l 0 ∷ []
strategies_at-two [] j l e = absurd (omega (arith, e))
strategies_at-two (xs ∷ []) j l e = absurd (omega (arith, e))
strategies_at-two (xs ∷ ys ∷ []) j l e = refl
strategies_at-two (xs ∷ ys ∷ zs ∷ kept) j l e = absurd (omega (arith, e))

module _ (g : Game) (kept : List (List ℕ)) (two : length g.strategies ≡ 2) (lists : AreKeptLists g kept) where
  -- the kept strategies of a player, and the table over them
  abbrev pub list : ℕ → List ℕ
  list i = get_or kept i []

  abbrev pub table : Game
  table = kept_table g kept

  two-lists : length kept ≡ 2
  two-lists = lists.one_for_each ∙ two

  pub table-two : length table.strategies ≡ 2
  table-two = length-map kept length ∙ two-lists

  pub are-kept : (i : ℕ) → i < 2 → AreKept g i (list i)
  are-kept i l = lists.are_kept i (omega (arith, two-lists))

  -- the strategy at a place
  abbrev pub at : ℕ → ℕ → ℕ
  at i j = get_or (list i) j 0

  pub at-kept : (i j : ℕ) → i < 2 → j < length (list i) → IsKept g i (at i j)
  at-kept i j l h = (are-kept i l).sound (get_or (list i) j 0) (Contains-get_or (list i) j 0 h)

  pub at-within : (i j : ℕ) → i < 2 → j < length (list i) → at i j < get_or g.strategies i 0
  at-within i j l h = kept-within g 0 i (at i j) (at-kept i j l h 0)

  -- off the list probabilities are 0
  pub off-list : (m : Mixed) → IsZeroAtRemoved g m → (i s : ℕ) → i < 2 → s < get_or g.strategies i 0 → (Contains (list i) s → ⊥) → m i s ≡ zero_ℚ
  off-list m off i s l h none = off i s (omega arith) h (λ k. none ((are-kept i l).complete s k))

  -- what kept strategies pay against each other
  pays-at : (i j l : ℕ) → i < 2 → j < length (list i) → l < length (list (other i)) → pays_against table i j l ≡ pays_against g i (at i j) (at (other i) l)
  pays-at zero j l i_in h k =
      ap (λ x. g.pays 0 (number_of g.strategies (strategies_at kept x))) (profile_at-number_of (map length kept) (j ∷ l ∷ []) (two-profile (map length kept) j l table-two (omega (arith, h, kept-count kept 0)) (omega (arith, k, kept-count kept 1))))
      ∙ ap (λ x. g.pays 0 (number_of g.strategies x)) (strategies_at-two kept j l two-lists)
  pays-at (suc zero) j l i_in h k =
      ap (λ x. g.pays 1 (number_of g.strategies (strategies_at kept x))) (profile_at-number_of (map length kept) (l ∷ j ∷ []) (two-profile (map length kept) l j table-two (omega (arith, k, kept-count kept 0)) (omega (arith, h, kept-count kept 1))))
      ∙ ap (λ x. g.pays 1 (number_of g.strategies x)) (strategies_at-two kept l j two-lists)
  pays-at (suc (suc i)) j l i_in h k = absurd (omega arith)

  -- a sum over a player's strategies is one over the kept ones
  over-kept : (i : ℕ) (f : ℕ → ℚ) → i < 2 → ((s : ℕ) → s < get_or g.strategies i 0 → (Contains (list i) s → ⊥) → f s ≡ zero_ℚ) → sum_to (get_or g.strategies i 0) f ≡ sum_to (get_or table.strategies i 0) (λ j. f (at i j))
  over-kept i f l off =
      sum-over_list (get_or g.strategies i 0) (list i) f (are-kept i l).ascending (λ j h. at-within i j l h) off ∙ ap (λ n. sum_to n (λ j. f (get_or (list i) j 0))) (sym (kept-count kept i))

  module _ (m : Mixed) (off : IsZeroAtRemoved g m) where
    -- gains are the same
    pub gain-same : (i j : ℕ) → i < 2 → j < length (list i) → gain table (at_kept kept m) i j ≡ gain g m i (at i j)
    unfolding gain
    gain-same i j l h =
        sum_to-same (get_or table.strategies (other i) 0) _ _ (λ k b. ap (λ x. m (other i) (get_or (list (other i)) k 0) *ℚ x) (pays-at i j k l h (omega (arith, b, kept-count kept (other i)))))
        ∙ sym (over-kept (other i) (λ t. m (other i) t *ℚ pays_against g i (at i j) t) (other-below i) (λ t b none. ap (λ x. x *ℚ pays_against g i (at i j) t) (off-list m off (other i) t (other-below i) b none) ∙ zero-*ℚ _))

    -- and so are payoffs
    pub payoff-same_at_kept : (i : ℕ) → i < 2 → payoff table (at_kept kept m) i ≡ payoff g m i
    payoff-same_at_kept i l =
        payoff-gains table (at_kept kept m) table-two i l
        ∙ sum_to-same (get_or table.strategies i 0) _ _ (λ j b. ap (λ x. m i (get_or (list i) j 0) *ℚ x) (gain-same i j l (omega (arith, b, kept-count kept i))))
        ∙ sym (over-kept i (λ s. m i s *ℚ gain g m i s) l (λ s b none. ap (λ x. x *ℚ gain g m i s) (off-list m off i s l b none) ∙ zero-*ℚ _))
        ∙ sym (payoff-gains g m two i l)

    -- valid probabilities are so on the table
    valid-at_kept : IsValid g.strategies m → IsValid table.strategies (at_kept kept m)
    valid-at_kept valid i l =
        record {
          not_negative = λ j b. (valid i (omega (arith, two, table-two))).not_negative (at i j) (at-within i j (omega (arith, table-two)) (omega (arith, b, kept-count kept i)));
          sum_is_one = sym (over-kept i (m i) (omega (arith, table-two)) (λ s b none. off-list m off i s (omega (arith, table-two)) b none)) ∙ (valid i (omega (arith, two, table-two))).sum_is_one;
        }

    -- and back
    valid-from_kept : IsValid table.strategies (at_kept kept m) → IsValid g.strategies m
    valid-from_kept valid i l =
        record {
          not_negative = λ s b. elim (contains_or_not cases_eq (list i) s) [
            | inl c ↦ let p = place (list i) s 0 c in subst (λ x. zero_ℚ ≤ℚ m i x) p.2 ((valid i (omega (arith, two, table-two))).not_negative p.0 (omega (arith, p.1, kept-count kept i)))
            | inr none ↦ subst (λ x. zero_ℚ ≤ℚ x) (sym (off-list m off i s (omega arith) b none)) (le_refl zero_ℚ)
          ];
          sum_is_one = over-kept i (m i) (omega arith) (λ s b none. off-list m off i s (omega arith) b none) ∙ (valid i (omega (arith, two, table-two))).sum_is_one;
        }

    -- an equilibrium is one of the table
    equilibrium-at_kept : IsEquilibrium g m → IsEquilibrium table (at_kept kept m)
    equilibrium-at_kept e =
        equilibrium-by_gains table (at_kept kept m) table-two (valid-at_kept e.valid) (λ i j l b.
        let inside : j < length (list i) = omega (arith, b, kept-count kept i) in
        subst₂ (λ x y. x ≤ℚ y) (sym (gain-same i j l inside)) (sym (payoff-same_at_kept i l)) (gain-below g m two e i (at i j) l (at-within i j l inside)))

    -- where only kept strategies are played
    plays-kept : (n i : ℕ) → i < 2 → PlaysKept g m n i
    plays-kept n i l s b played = elim (contains_or_not cases_eq (list i) s) [ inl c ↦ (are-kept i l).sound s c n | inr none ↦ absurd (played (off-list m off i s l b none)) ]

    -- a strategy that gains most is kept, so an equilibrium of the table is one of the game
    equilibrium-from_kept : IsEquilibrium table (at_kept kept m) → IsEquilibrium g m
    equilibrium-from_kept e = equilibrium-by_gains g m two valid below
      where
        valid : IsValid g.strategies m
        valid = valid-from_kept e.valid

        below : (i s : ℕ) → i < 2 → s < get_or g.strategies i 0 → gain g m i s ≤ℚ payoff g m i
        below i s l b = go (get_or g.strategies i 0) refl b
          where
            go : (n : ℕ) → n ≡ get_or g.strategies i 0 → s < n → gain g m i s ≤ℚ payoff g m i
            go zero q h = absurd (omega arith)
            go (suc n) q h =
                let best = greatest n (gain g m i) in
                let is_kept = best-kept g m two valid i best.0 l (omega (arith, best.1, q)) (λ r k. best.2 r (omega (arith, k, q))) (λ k. plays-kept k (other i) (other-below i)) in
                let p = place (list i) best.0 0 ((are-kept i l).complete best.0 is_kept) in
                le_trans _ _ _ (best.2 s h) (subst₂ (λ x y. x ≤ℚ y) (gain-same i p.0 l p.1 ∙ ap (gain g m i) p.2) (payoff-same_at_kept i l) (gain-below table (at_kept kept m) table-two e i p.0 l (omega (arith, p.1, kept-count kept i))))

-- the equilibria are those of the kept table, with 0 at removed strategies
pub equilibria-kept : EquilibriaOfTheKeptTable
equilibria-kept g kept m two lists =
    (λ e. let off = zero-at_removed g m two e in (off, equilibrium-at_kept g kept two lists m off e), λ h. equilibrium-from_kept g kept two lists m h.0 h.1)
