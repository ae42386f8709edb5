-- The ranks of pure profiles in the order of their lines.
use Rattle.std.proofs.Common.{ℕ, zero, suc, ◌+◌, ◌*◌, ◌/◌, ◌%◌, ◌<◌, ◌≤◌, ◌≡◌, ◌⊎◌, inl, inr, List, [], ◌∷◌, refl, ap, ap₂, ◌∙◌, arith, mod-lt}
use Rattle.std.proofs.lemmas.Bool.{cases_order}
use Rattle.std.proofs.lemmas.Nat.{mul-add-lt, div-mul-add, mod-mul-add, div_below}
use Rattle.std.proofs.Math.Nat.{mul-le-mul_left}
use Rattle.lists.specs.Orders.{ComesBefore}
use Rattle.game_theory.specs.Profiles.{profile_count, IsProfile}
use Rattle.game_theory.specs.Ranks.{ranked}

-- the factors of a product with a number below it are positive
pub factors-positive : (n p k : ℕ) → k < n * p → (0 < n) × (0 < p)
factors-positive zero p k h = absurd (omega arith)
factors-positive (suc n) zero k h = absurd (omega arith)
factors-positive (suc n) (suc p) k h = (omega arith, omega arith)

-- the profile with a rank below the count is a profile
pub IsProfile-ranked : (ns : List ℕ) (r : ℕ) → r < profile_count ns → IsProfile ns (ranked ns r)
IsProfile-ranked [] r h = tt
IsProfile-ranked (n ∷ ns) r h =
    let p : 0 < profile_count ns = (factors-positive n (profile_count ns) r h).1 in
    (div_below r (profile_count ns) n p h, IsProfile-ranked ns (r % profile_count ns) (mod-lt r p))

-- the rank of a profile
abbrev pub rank_of : List ℕ → List ℕ → ℕ
rank_of (n ∷ ns) (s ∷ ss) = s * profile_count ns + rank_of ns ss
rank_of _ _ = 0

-- a profile's rank is below the count
pub rank_of-below : (ns s : List ℕ) → IsProfile ns s → rank_of ns s < profile_count ns
rank_of-below [] [] h = omega arith
rank_of-below [] (a ∷ s) h = absurd h
rank_of-below (n ∷ ns) [] h = absurd h
rank_of-below (n ∷ ns) (a ∷ s) h = omega (arith, mul-add-lt a (profile_count ns) (rank_of ns s) n h.0 (rank_of-below ns s h.1))

-- the profile with a profile's rank is that profile
pub ranked-rank_of : (ns s : List ℕ) → IsProfile ns s → ranked ns (rank_of ns s) ≡ s
ranked-rank_of [] [] h = refl
ranked-rank_of [] (a ∷ s) h = absurd h
ranked-rank_of (n ∷ ns) [] h = absurd h
ranked-rank_of (n ∷ ns) (a ∷ s) h =
    let l : rank_of ns s < profile_count ns = rank_of-below ns s h.1 in
    ap₂ (λ x y. x ∷ y) (div-mul-add a (profile_count ns) (rank_of ns s) l) (ap (ranked ns) (mod-mul-add a (profile_count ns) (rank_of ns s) l) ∙ ranked-rank_of ns s h.1)

-- quotients keep the order
wrong_order : (q r p : ℕ) → 0 < p → q < r → r / p < q / p → ⊥
wrong_order q r p h l k =
    let m : p * suc (r / p) ≤ p * (q / p) = mul-le-mul_left p (omega arith) in
    omega (arith, m, mod-lt r h)

-- with equal quotients the lesser number has the lesser rest
rest_less : (q r p : ℕ) → 0 < p → q < r → q / p ≡ r / p → q % p < r % p
rest_less q r p h l e = let m : p * (q / p) ≡ p * (r / p) = ap (λ x. p * x) e in omega (arith, m)

-- the profile with the smaller rank comes before the other
pub ComesBefore-ranked : (ns : List ℕ) (q r : ℕ) → q < r → r < profile_count ns → ComesBefore (ranked ns q) (ranked ns r)
ComesBefore-ranked [] q r h l = absurd (omega arith)
ComesBefore-ranked (n ∷ ns) q r h l = go (cases_order (q / profile_count ns) (r / profile_count ns)) (λ k. ComesBefore-ranked ns (q % profile_count ns) (r % profile_count ns) k (mod-lt r ((factors-positive n (profile_count ns) r l).1)))
  where
    p : ℕ
    p = profile_count ns

    some : 0 < p
    some = (factors-positive n p r l).1

    go : (q / p ≡ r / p) ⊎ ((q / p < r / p) ⊎ (r / p < q / p)) → (q % p < r % p → ComesBefore (ranked ns (q % p)) (ranked ns (r % p))) → ComesBefore (ranked (n ∷ ns) q) (ranked (n ∷ ns) r)
    go (inr (inl k)) f = inl k
    go (inr (inr k)) f = absurd (wrong_order q r p some h k)
    go (inl e) f = inr (e, f (rest_less q r p some h e))
