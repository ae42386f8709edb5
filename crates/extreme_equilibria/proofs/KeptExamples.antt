-- Elimination in two games.
use Rattle.std.proofs.Common.{ℕ, zero, suc, ◌<◌, ◌≡◌, [], ◌∷◌, get_or, refl, sym, subst, arith}
use Rattle.std.specs.Prelude.{Contains}
use Rattle.std.specs.List.Sorted.{IsStrictlyIncreasing}
use Rattle.lists.proofs.NumberLemmas.{below_two}
use Rattle.rational.specs.Gcd.{gcd}
use Rattle.rational.specs.Rational.{is_lowest, frac, ◌<ℚ◌}
use Rattle.rational.specs.Tests.{lt_test}
use Rattle.rational.proofs.Decide.{lt_test-true}
use Rattle.rational.proofs.Field.{lt_irrefl, lt_trans}
use Rattle.game_theory.specs.Examples.{prisoners_dilemma_game}
use Rattle.extreme_equilibria.specs.TwoPlayers.{other, pays_against}
use Rattle.lists.specs.Listed.{AreListed}
use Rattle.extreme_equilibria.specs.Elimination.{IsDominated, IsKeptAfter, AreKeptAfter}
use Rattle.extreme_equilibria.specs.KeptExamples.{weak_game, EliminationInTwoGames}
use Rattle.extreme_equilibria.proofs.RoundLemmas.{other-below}
use Rattle.extreme_equilibria.proofs.KeptListLemmas.{place, last-lists}

-- ---- lists
-- an element of a list of both strategies, and of one of the second alone
two-sound : (s : ℕ) → Contains (0 ∷ 1 ∷ []) s → s < 2
two-sound s c = let at = place (0 ∷ 1 ∷ []) s 0 c in go at.0 at.1 at.2
  where
    go : (j : ℕ) → j < 2 → get_or (0 ∷ 1 ∷ []) j 0 ≡ s → s < 2
    go zero l e = omega arith
    go (suc zero) l e = omega arith
    go (suc (suc j)) l e = absurd (omega arith)

two-complete : (s : ℕ) → s < 2 → Contains (0 ∷ 1 ∷ []) s
two-complete = below_two (λ s. Contains (0 ∷ 1 ∷ []) s) (0, omega arith, refl) (1, omega arith, refl)

one-sound : (s : ℕ) → Contains (1 ∷ []) s → 1 ≡ s
one-sound s c = let at = place (1 ∷ []) s 0 c in go at.0 at.1 at.2
  where
    go : (j : ℕ) → j < 1 → get_or (1 ∷ []) j 0 ≡ s → 1 ≡ s
    go zero l e = e
    go (suc j) l e = absurd (omega arith)

-- ---- weak dominance
-- against the first strategy of the other player both pay the same
weak-same : (i : ℕ) → i < 2 → (s : ℕ) → s < 2 → (r : ℕ) → r < 2 → pays_against weak_game i s 0 <ℚ pays_against weak_game i r 0 → ⊥
weak-same =
    below_two (λ i. (s : ℕ) → s < 2 → (r : ℕ) → r < 2 → pays_against weak_game i s 0 <ℚ pays_against weak_game i r 0 → ⊥)
    (below_two (λ s. (r : ℕ) → r < 2 → pays_against weak_game 0 s 0 <ℚ pays_against weak_game 0 r 0 → ⊥) (below_two _ (λ h. lt_irrefl _ h) (λ h. lt_irrefl (pays_against weak_game 0 0 0) h)) (below_two _ (λ h. lt_irrefl (pays_against weak_game 0 0 0) h) (λ h. lt_irrefl _ h)))
    (below_two (λ s. (r : ℕ) → r < 2 → pays_against weak_game 1 s 0 <ℚ pays_against weak_game 1 r 0 → ⊥) (below_two _ (λ h. lt_irrefl _ h) (λ h. lt_irrefl (pays_against weak_game 1 0 0) h)) (below_two _ (λ h. lt_irrefl (pays_against weak_game 1 0 0) h) (λ h. lt_irrefl _ h)))

-- both strategies
weak-all : (i : ℕ) → i < 2 → AreKeptAfter weak_game 0 i (0 ∷ 1 ∷ [])
weak-all = below_two (λ i. AreKeptAfter weak_game 0 i (0 ∷ 1 ∷ [])) whole whole
  where
    whole : AreListed (λ s. s < 2) (0 ∷ 1 ∷ [])
    whole = record { ascending = up; sound = two-sound; complete = two-complete }
      where
        up : IsStrictlyIncreasing (0 ∷ 1 ∷ [])
        up zero l = omega arith
        up (suc k) l = absurd (omega arith)

-- none is strictly dominated
weak-stays : (i : ℕ) → i < 2 → (s : ℕ) → Contains (0 ∷ 1 ∷ []) s → IsDominated weak_game i (Contains (0 ∷ 1 ∷ [])) (Contains (0 ∷ 1 ∷ [])) s → ⊥
weak-stays i l s c d = weak-same i l s (two-sound s c) d.by (two-sound d.by d.is_own) (d.pays_more 0 (two-complete 0 (omega arith)))

-- ---- the prisoners
-- to confess pays more
confess-more : (i : ℕ) → i < 2 → (t : ℕ) → t < 2 → pays_against prisoners_dilemma_game i 0 t <ℚ pays_against prisoners_dilemma_game i 1 t
unfolding frac gcd is_lowest lt_test
confess-more =
    below_two (λ i. (t : ℕ) → t < 2 → pays_against prisoners_dilemma_game i 0 t <ℚ pays_against prisoners_dilemma_game i 1 t)
    (below_two (λ t. pays_against prisoners_dilemma_game 0 0 t <ℚ pays_against prisoners_dilemma_game 0 1 t) ((lt_test-true (pays_against prisoners_dilemma_game 0 0 0) (pays_against prisoners_dilemma_game 0 1 0)).0 refl) ((lt_test-true (pays_against prisoners_dilemma_game 0 0 1) (pays_against prisoners_dilemma_game 0 1 1)).0 refl))
    (below_two (λ t. pays_against prisoners_dilemma_game 1 0 t <ℚ pays_against prisoners_dilemma_game 1 1 t) ((lt_test-true (pays_against prisoners_dilemma_game 1 0 0) (pays_against prisoners_dilemma_game 1 1 0)).0 refl) ((lt_test-true (pays_against prisoners_dilemma_game 1 0 1) (pays_against prisoners_dilemma_game 1 1 1)).0 refl))

-- where the other may confess too
module _ (i : ℕ) (l : i < 2) where
  -- nothing pays more
  confess-stays : (own others : ℕ → Type 0) → ((r : ℕ) → own r → r < 2) → others 1 → IsDominated prisoners_dilemma_game i own others 1 → ⊥
  confess-stays own others within some d =
      below_two (λ r. pays_against prisoners_dilemma_game i 1 1 <ℚ pays_against prisoners_dilemma_game i r 1 → ⊥) (λ h. lt_irrefl _ (lt_trans _ _ _ h (confess-more i l 1 (omega arith)))) (λ h. lt_irrefl _ h) d.by (within d.by d.is_own) (d.pays_more 1 some)

-- the number of strategies of each player
two-each : (i : ℕ) → i < 2 → (s : ℕ) → s < 2 → IsKeptAfter prisoners_dilemma_game 0 i s
two-each = below_two (λ i. (s : ℕ) → s < 2 → IsKeptAfter prisoners_dilemma_game 0 i s) (λ s h. h) (λ s h. h)

two-within : (i : ℕ) → i < 2 → (s : ℕ) → IsKeptAfter prisoners_dilemma_game 0 i s → s < 2
two-within = below_two (λ i. (s : ℕ) → IsKeptAfter prisoners_dilemma_game 0 i s → s < 2) (λ s h. h) (λ s h. h)

-- after the first round it alone is kept
confess-list : (i : ℕ) → i < 2 → AreKeptAfter prisoners_dilemma_game 1 i (1 ∷ [])
confess-list i l =
    record {
      ascending = λ k h. absurd (omega (arith, h));
      sound = λ s c. subst (IsKeptAfter prisoners_dilemma_game 1 i) (one-sound s c) (two-each i l 1 (omega arith), confess-stays i l (IsKeptAfter prisoners_dilemma_game 0 i) (IsKeptAfter prisoners_dilemma_game 0 (other i)) (two-within i l) (two-each (other i) (other-below i) 1 (omega arith)));
      complete = λ s h. below_two (λ s. IsKeptAfter prisoners_dilemma_game 1 i s → Contains (1 ∷ []) s) (λ h. absurd (h.1 (record { by = 1; is_own = two-each i l 1 (omega arith); pays_more = λ t k. confess-more i l t (two-within (other i) (other-below i) t k) }))) (λ h. (0, omega arith, refl)) s (two-within i l s h.0) h;
    }

-- and stays
confess-last : (i : ℕ) → i < 2 → (s : ℕ) → Contains (1 ∷ []) s → IsDominated prisoners_dilemma_game i (Contains (1 ∷ [])) (Contains (1 ∷ [])) s → ⊥
confess-last i l s c d =
    confess-stays i l (Contains (1 ∷ [])) (Contains (1 ∷ [])) (λ r k. omega (arith, one-sound r k)) (0, omega arith, refl) (subst (IsDominated prisoners_dilemma_game i (Contains (1 ∷ [])) (Contains (1 ∷ []))) (sym (one-sound s c)) d)

-- the law of the two games
pub elimination-in_two_games : EliminationInTwoGames
elimination-in_two_games =
    let prisoners = last-lists prisoners_dilemma_game 1 (1 ∷ []) (1 ∷ []) (confess-list 0 (omega arith)) (confess-list 1 (omega arith)) (confess-last 0 (omega arith)) (confess-last 1 (omega arith)) in
    let weak = last-lists weak_game 0 (0 ∷ 1 ∷ []) (0 ∷ 1 ∷ []) (weak-all 0 (omega arith)) (weak-all 1 (omega arith)) (weak-stays 0 (omega arith)) (weak-stays 1 (omega arith)) in
    record { first_confesses = prisoners.0; second_confesses = prisoners.1; first_keeps_all = weak.0; second_keeps_all = weak.1 }
