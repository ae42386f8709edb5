-- there are no more than 2 ^ m different sets of variables below m
use Rattle.std.proofs.Common.{ℕ, zero, suc, ◌+◌, ◌*◌, ◌^◌, ◌<◌, ◌≤◌, ◌≡◌, ◌≢◌, ◌⊎◌, inl, inr, ◌||◌, Bool, true, false, cond, eqb, List, [], ◌∷◌, All, length, map, get_or, refl, sym, subst, ◌∙◌, true≢false, arith}
use Rattle.std.specs.List.{AllPairs, IsDistinct, list_any}
use Rattle.std.proofs.lemmas.Map.Made.{IsDistinct-from_AllPairs}
use Rattle.std.proofs.lemmas.Map.Steps.{length-le_from_distinct_below}
use Rattle.std.proofs.lemmas.List.{length-map, get_or-map}
use Rattle.std.proofs.Math.Path.{fun_ext}
use Rattle.std.proofs.lemmas.Bool.Decides.{eqb_tells, Decides-eqb}
use Rattle.std.proofs.lemmas.Bool.{cases_lt}
use Rattle.std.proofs.Math.Nat.{pow-succ'}

bit : Bool → ℕ
bit b = cond b 1 0

-- a set as a number
code : ℕ → (ℕ → Bool) → ℕ
code zero f = 0
code (suc m) f = bit (f 0) + 2 * code m (λ i. f (suc i))

code-below : (m : ℕ) (f : ℕ → Bool) → code m f < 2 ^ m
unfolding code bit
code-below zero f = omega arith
code-below (suc m) f = let e = pow-succ' 2 m in let ih = code-below m (λ i. f (suc i)) in elim (f 0) as (λ b. cond b 1 0 + 2 * code m (λ i. f (suc i)) < 2 ^ suc m) [ true ↦ omega arith | false ↦ omega arith ]

bits : (a b : Bool) (x y : ℕ) → bit a + 2 * x ≡ bit b + 2 * y → (a ≡ b) × (x ≡ y)
unfolding bit
bits true true x y e = (refl, omega arith)
bits true false x y e = absurd (omega arith)
bits false true x y e = absurd (omega arith)
bits false false x y e = (refl, omega arith)

code-same : (m : ℕ) (f g : ℕ → Bool) → code m f ≡ code m g → (i : ℕ) → i < m → f i ≡ g i
unfolding code
code-same zero f g e i h = absurd (omega arith)
code-same (suc m) f g e zero h = (bits (f 0) (g 0) _ _ e).0
code-same (suc m) f g e (suc i) h = code-same m (λ i. f (suc i)) (λ i. g (suc i)) (bits (f 0) (g 0) _ _ e).1 i (omega arith)

-- a set of numbers below m
abbrev pub Below : ℕ → (ℕ → Bool) → Type 0
Below m f = (i : ℕ) → m ≤ i → f i ≡ false

same_set : (m : ℕ) (f g : ℕ → Bool) → Below m f → Below m g → code m f ≡ code m g → f ≡ g
same_set m f g hf hg e = fun_ext (λ i. at i (cases_lt i m))
  where
    at : (i : ℕ) → (i < m) ⊎ (m ≤ i) → f i ≡ g i
    at i (inl h) = code-same m f g e i h
    at i (inr h) = hf i h ∙ sym (hg i h)

distinct_codes : (m : ℕ) (fs : List (ℕ → Bool)) → All (Below m) fs → AllPairs (λ f g. f ≢ g) fs → IsDistinct eqb (map (code m) fs)
distinct_codes m fs h d = IsDistinct-from_AllPairs Decides-eqb (map (code m) fs) apart
  where
    none : ℕ → Bool
    none i = false

    apart : AllPairs (λ x y. x ≢ y) (map (code m) fs)
    apart i j x l w e =
        let k : j < length fs = subst (λ n. j < n) (length-map fs (code m)) w in
        d i j none l k (same_set m (get_or fs i none) (get_or fs j none) (h i none (omega arith)) (h j none k) (sym (get_or-map (code m) fs i none x (omega arith)) ∙ e ∙ get_or-map (code m) fs j none x k))

small_codes : (m : ℕ) (fs : List (ℕ → Bool)) (q : ℕ) → list_any (eqb q) (map (code m) fs) ≡ true → q < 2 ^ m
small_codes m [] q e = absurd (true≢false (sym e))
small_codes m (f ∷ fs) q e = go (eqb_tells q (code m f)) (small_codes m fs q)
  where
    go : ((eqb q (code m f) ≡ true) × (q ≡ code m f)) ⊎ ((eqb q (code m f) ≡ false) × (q ≢ code m f)) → (list_any (eqb q) (map (code m) fs) ≡ true → q < 2 ^ m) → q < 2 ^ m
    go (inl t) ih = let b = code-below m f in let s = t.1 in omega arith
    go (inr t) ih = ih (subst (λ b. (b || list_any (eqb q) (map (code m) fs)) ≡ true) t.0 e)

-- different sets of numbers below m
pub sets-bound : (m : ℕ) (fs : List (ℕ → Bool)) → All (Below m) fs → AllPairs (λ f g. f ≢ g) fs → length fs ≤ 2 ^ m
sets-bound m fs h d =
    subst (λ n. n ≤ 2 ^ m) (length-map fs (code m)) (length-le_from_distinct_below (map (code m) fs) (2 ^ m) (distinct_codes m fs h d) (small_codes m fs))
