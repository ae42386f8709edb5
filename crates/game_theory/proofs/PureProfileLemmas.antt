-- Pure profiles: their payoffs, and which of them are equilibria.
use Rattle.std.proofs.Common.{ℕ, ◌+◌, ◌*◌, ◌<◌, ◌≡◌, Bool, true, false, List, [], ◌∷◌, length, get_or, set, eqb, eqb→eq, cond, T, refl, sym, ap, ◌∙◌, subst, subst₂, arith, tests}
use Rattle.std.proofs.lemmas.List.{get_or-set_same, get_or-set_other}
use Rattle.rational.specs.Rational.{ℚ, ◌≤ℚ◌}
use Rattle.rational.proofs.RationalRing.{rational_ring}
use Rattle.rational.proofs.Ring.{ring, num, ◌:+◌, ◌:*◌, A}
use Rattle.game_theory.specs.Profiles.{Game, IsProfile, number_of}
use Rattle.game_theory.specs.Mixed.{mean, IsValid, sure, pure, reply}
use Rattle.game_theory.specs.Equilibrium.{IsEquilibrium}
use Rattle.game_theory.specs.Laws.{PurePaysItsCell, PureReplyPaysItsCell, NoGreaterCell, PureEquilibriaByCells}
use Rattle.game_theory.proofs.PayoffLemmas.{mean-same, mean-first_sure}
use Rattle.game_theory.proofs.SureStrategyLemmas.{sure-not_negative, sum_to-sure}
use Rattle.game_theory.proofs.ProfileNumberLemmas.{length-profile, profile-below, IsProfile-exchange}

-- the mean at a pure profile is the number that the profile has
pub mean-pure : (ns s : List ℕ) (u : ℕ → ℚ) → IsProfile ns s → mean ns (pure s) u ≡ u (number_of ns s)
mean-pure [] [] u h = ring rational_ring (u 0 ∷ []) (num 0 :+ num 1 :* A) A refl
mean-pure [] (s ∷ ss) u h = absurd h
mean-pure (n ∷ ns) [] u h = absurd h
mean-pure (n ∷ ns) (s ∷ ss) u h =
    mean-first_sure n ns (pure (s ∷ ss)) s u h.0 (λ t. refl) ∙ mean-pure ns ss (λ j. u (n * j + s)) h.1 ∙ ap u (omega arith)

-- a pure reply to a pure profile is the pure profile with that strategy exchanged
pub reply-pure : (s : List ℕ) (i t j v : ℕ) → i < length s → reply (pure s) i t j v ≡ pure (set s i t) j v
reply-pure s i t j v h = go (eqb j i) refl
  where
    go : (b : Bool) → eqb j i ≡ b → cond b (sure t v) (pure s j v) ≡ pure (set s i t) j v
    go true e = ap (λ x. sure x v) (sym (ap (λ x. get_or (set s i t) x 0) (eqb→eq j i (subst T (sym e) tt)) ∙ get_or-set_same s i t 0 h))
    go false e = ap (λ x. sure x v) (sym (get_or-set_other s i j t 0 (grind (arith, tests))))

-- a pure profile pays its cell
pub payoff-pure : PurePaysItsCell
payoff-pure g s i h = mean-pure g.strategies s (g.pays i) h

-- a pure reply to a pure profile pays the cell of the profile with that strategy exchanged
pub payoff-reply_pure : PureReplyPaysItsCell
payoff-reply_pure g s i t j h l b =
    mean-same g.strategies _ (pure (set s i t)) (g.pays j) (λ k v p q. reply-pure s i t k v (omega (arith, length-profile g.strategies s h))) ∙ payoff-pure g (set s i t) j (IsProfile-exchange g.strategies s i t h l b)

-- a pure profile is valid
pub IsValid-pure : (ns s : List ℕ) → IsProfile ns s → IsValid ns (pure s)
IsValid-pure ns s h i l =
    record { not_negative = λ t b. sure-not_negative (get_or s i 0) t; sum_is_one = sum_to-sure (get_or ns i 0) (get_or s i 0) (profile-below ns s i h l) }

-- the cells of a pure equilibrium
pub NoGreaterCell-equilibrium : (g : Game) (s : List ℕ) → IsProfile g.strategies s → IsEquilibrium g (pure s) → NoGreaterCell g s
NoGreaterCell-equilibrium g s h e i t l b =
    subst₂ (λ x y. x ≤ℚ y) (payoff-reply_pure g s i t i h l b) (payoff-pure g s i h) (e.no_better_reply i t l b)

-- a pure profile with no greater cell is an equilibrium
pub IsEquilibrium-by_cells : (g : Game) (s : List ℕ) → IsProfile g.strategies s → NoGreaterCell g s → IsEquilibrium g (pure s)
IsEquilibrium-by_cells g s h c =
    record { valid = IsValid-pure g.strategies s h; no_better_reply = λ i t l b. subst₂ (λ x y. x ≤ℚ y) (sym (payoff-reply_pure g s i t i h l b)) (sym (payoff-pure g s i h)) (c i t l b) }

-- a pure profile is an equilibrium exactly where it has no greater cell
pub pure_equilibria-by_cells : PureEquilibriaByCells
pure_equilibria-by_cells g s h = (NoGreaterCell-equilibrium g s h, IsEquilibrium-by_cells g s h)
