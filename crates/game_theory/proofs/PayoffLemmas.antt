-- Means over the pure profiles, player by player.
use Rattle.std.proofs.Common.{ℕ, suc, ◌+◌, ◌*◌, ◌%◌, ◌/◌, ◌<◌, ◌≡◌, List, [], ◌∷◌, length, get_or, refl, sym, ap, ap₂, ◌∙◌, arith}
use Rattle.std.proofs.lemmas.Nat.{div-mul-add, mod-mul-add}
use Rattle.rational.specs.Rational.{ℚ, ◌*ℚ◌}
use Rattle.rational.specs.Sum.{sum_to}
use Rattle.rational.proofs.RationalRing.{rational_ring}
use Rattle.rational.proofs.Ring.{ring, ◌:*◌, A, B, C}
use Rattle.rational.proofs.SumLemmas.{sum_to-same, sum_to-scale, sum_to-exchange, sum_to-single, sum_to-blocks}
use Rattle.game_theory.specs.Profiles.{profile_count, IsProfile, profile_at}
use Rattle.game_theory.specs.Mixed.{Mixed, later, probability, mean, sure}
use Rattle.game_theory.proofs.ProfileNumberLemmas.{IsProfile-profile_at}
use native.Mathlib.Nat as N

-- equal probabilities of the strategies give a profile equal probabilities
pub probability-same : (ns s : List ℕ) (m n : Mixed) → IsProfile ns s → ((i t : ℕ) → i < length ns → t < get_or ns i 0 → m i t ≡ n i t) → probability m s ≡ probability n s
probability-same [] [] m n h e = refl
probability-same [] (t ∷ s) m n h e = absurd h
probability-same (c ∷ ns) [] m n h e = absurd h
probability-same (c ∷ ns) (t ∷ s) m n h e =
    ap₂ (λ x y. x *ℚ y) (e 0 t (omega arith) h.0) (probability-same ns s (later m) (later n) h.1 (λ i u l b. e (suc i) u (omega arith) b))

-- equal probabilities give equal means
pub mean-same : (ns : List ℕ) (m n : Mixed) (u : ℕ → ℚ) → ((i t : ℕ) → i < length ns → t < get_or ns i 0 → m i t ≡ n i t) → mean ns m u ≡ mean ns n u
mean-same ns m n u e =
    sum_to-same (profile_count ns) _ _ (λ k h. ap (λ x. x *ℚ u k) (probability-same ns (profile_at ns k) m n (IsProfile-profile_at ns k h) e))

-- equal numbers at the profiles give equal means
pub mean-same_numbers : (ns : List ℕ) (m : Mixed) (u v : ℕ → ℚ) → ((k : ℕ) → k < profile_count ns → u k ≡ v k) → mean ns m u ≡ mean ns m v
mean-same_numbers ns m u v e = sum_to-same (profile_count ns) _ _ (λ k h. ap (λ x. probability m (profile_at ns k) *ℚ x) (e k h))

-- the probability of the profile with number n * j + i, where the first player has n strategies
probability-first : (n : ℕ) (ns : List ℕ) (m : Mixed) (j i : ℕ) → i < n → probability m (profile_at (n ∷ ns) (n * j + i)) ≡ m 0 i *ℚ probability (later m) (profile_at ns j)
probability-first n ns m j i h =
    ap₂ (λ x y. m 0 x *ℚ probability (later m) (profile_at ns y)) (ap (λ x. (x + i) % n) (N.mul_comm n j) ∙ mod-mul-add j n i h) (ap (λ x. (x + i) / n) (N.mul_comm n j) ∙ div-mul-add j n i h)

-- a mean is a mean over the later players of the sums over the first player's strategies
pub mean-first : (n : ℕ) (ns : List ℕ) (m : Mixed) (u : ℕ → ℚ) → mean (n ∷ ns) m u ≡ mean ns (later m) (λ j. sum_to n (λ i. m 0 i *ℚ u (n * j + i)))
mean-first n ns m u =
    sum_to-blocks n (profile_count ns) (λ k. probability m (profile_at (n ∷ ns) k) *ℚ u k)
    ∙ sum_to-same (profile_count ns) _ _ (λ j h. sum_to-same n _ (λ i. probability (later m) (profile_at ns j) *ℚ (m 0 i *ℚ u (n * j + i))) (λ i p. ap (λ x. x *ℚ u (n * j + i)) (probability-first n ns m j i p) ∙ ring rational_ring (m 0 i ∷ probability (later m) (profile_at ns j) ∷ u (n * j + i) ∷ []) (A :* B :* C) (B :* (A :* C)) refl) ∙ sum_to-scale n (probability (later m) (profile_at ns j)) (λ i. m 0 i *ℚ u (n * j + i)))

-- a mean where the first player plays one strategy
pub mean-first_sure : (n : ℕ) (ns : List ℕ) (m : Mixed) (s : ℕ) (u : ℕ → ℚ) → s < n → ((t : ℕ) → m 0 t ≡ sure s t) → mean (n ∷ ns) m u ≡ mean ns (later m) (λ j. u (n * j + s))
mean-first_sure n ns m s u h e =
    mean-first n ns m u ∙ mean-same_numbers ns (later m) _ (λ j. u (n * j + s)) (λ j p. sum_to-same n _ (λ i. sure s i *ℚ u (n * j + i)) (λ i q. ap (λ x. x *ℚ u (n * j + i)) (e i)) ∙ sum_to-single n s (λ i. u (n * j + i)) h)

-- a mean of sums is a sum of means
pub mean-sum : (ns : List ℕ) (m : Mixed) (n : ℕ) (c : ℕ → ℚ) (u : ℕ → ℕ → ℚ) → mean ns m (λ j. sum_to n (λ i. c i *ℚ u i j)) ≡ sum_to n (λ i. c i *ℚ mean ns m (u i))
mean-sum ns m n c u =
    sum_to-same (profile_count ns) _ (λ k. sum_to n (λ i. c i *ℚ (probability m (profile_at ns k) *ℚ u i k))) (λ k h. sym (sum_to-scale n (probability m (profile_at ns k)) (λ i. c i *ℚ u i k)) ∙ sum_to-same n _ _ (λ i p. ring rational_ring (probability m (profile_at ns k) ∷ c i ∷ u i k ∷ []) (A :* (B :* C)) (B :* (A :* C)) refl))
    ∙ sum_to-exchange (profile_count ns) n (λ k i. c i *ℚ (probability m (profile_at ns k) *ℚ u i k))
    ∙ sum_to-same n _ _ (λ i p. sum_to-scale (profile_count ns) (c i) (λ k. probability m (profile_at ns k) *ℚ u i k))
