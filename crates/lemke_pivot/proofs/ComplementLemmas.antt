-- which variables are complements
use Rattle.std.proofs.Common.{ℕ, suc, ◌<◌, ◌≤◌, ◌≡◌, ◌≢◌, ◌+◌, ◌-◌, ◌⊎◌, inl, inr, eqb, leb, true, false, cond, ap, ap₂, ◌∙◌, arith, tests}
use Rattle.std.proofs.lemmas.Bool.{cases_lt, cases_eq}
use Rattle.lemke_pivot.proofs.EdgeLemmas.{Labels}
use Rattle.lemke_pivot.specs.ProblemPaths.{is_w, complement, w_of, z_of, z0_of}

-- where a variable stands: it is a w, a z, or neither
abbrev pub IsNeither : ℕ → ℕ → Type 0
IsNeither n v = (v ≡ 0) ⊎ (n + n < v)

abbrev pub Which : ℕ → ℕ → Type 0
Which n v = ((0 < v) × (v ≤ n)) ⊎ (((n < v) × (v ≤ n + n)) ⊎ IsNeither n v)

pub which : (n v : ℕ) → Which n v
which n v = go (cases_eq v 0) (cases_lt n v) (cases_lt (n + n) v)
  where
    go : (v ≡ 0) ⊎ (v ≢ 0) → (n < v) ⊎ (v ≤ n) → (n + n < v) ⊎ (v ≤ n + n) → Which n v
    go (inl e) l m = inr (inr (inl e))
    go (inr e) (inr l) m = inl (omega (arith, e), l)
    go (inr e) (inl l) (inr m) = inr (inl (l, m))
    go (inr e) (inl l) (inl m) = inr (inr (inr m))

pub complement_w : (n v : ℕ) → 0 < v → v ≤ n → complement n v ≡ v + n
complement_w n v h g = grind (arith, tests)

pub complement_z : (n v : ℕ) → n < v → v ≤ n + n → complement n v ≡ v - n
complement_z n v h g =
    let e : is_w n v ≡ false = grind (arith, tests) in
    let f : eqb v 0 ≡ false = grind (arith, tests) in
    let k : leb v (n + n) ≡ true = grind (arith, tests) in
    ap (λ a. cond a (v + n) (cond (eqb v 0) v (cond (leb v (n + n)) (v - n) v))) e ∙ ap₂ (λ a b. cond a v (cond b (v - n) v)) f k

pub complement_neither : (n v : ℕ) → IsNeither n v → complement n v ≡ v
complement_neither n v (inl e) = let f : eqb v 0 ≡ true = grind (arith, tests) in let k : is_w n v ≡ false = grind (arith, tests) in ap₂ (λ a b. cond a (v + n) (cond b v (cond (leb v (n + n)) (v - n) v))) k f
complement_neither n v (inr h) =
    let k : is_w n v ≡ false = grind (arith, tests) in let f : eqb v 0 ≡ false = grind (arith, tests) in let g : leb v (n + n) ≡ false = grind (arith, tests) in
    ap (λ a. cond a (v + n) (cond (eqb v 0) v (cond (leb v (n + n)) (v - n) v))) k ∙ ap₂ (λ a b. cond a v (cond b (v - n) v)) f g

-- the complements of a row
pub complement_of_w : (n i : ℕ) → i < n → complement n (w_of i) ≡ z_of n i
complement_of_w n i h = complement_w n (suc i) (omega arith) (omega arith) ∙ omega arith

pub complement_of_z : (n i : ℕ) → i < n → complement n (z_of n i) ≡ w_of i
complement_of_z n i h = complement_z n (suc (n + i)) (omega arith) (omega arith) ∙ omega arith

pub complement_twice : (n v : ℕ) → complement n (complement n v) ≡ v
complement_twice n v = go (which n v)
  where
    go : Which n v → complement n (complement n v) ≡ v
    go (inl h) = let a = h.0 in let b = h.1 in ap (complement n) (complement_w n v a b) ∙ complement_z n (v + n) (omega arith) (omega arith) ∙ omega arith
    go (inr (inl h)) = let a = h.0 in let b = h.1 in ap (complement n) (complement_z n v a b) ∙ complement_w n (v - n) (omega arith) (omega arith) ∙ omega arith
    go (inr (inr h)) = ap (complement n) (complement_neither n v h) ∙ complement_neither n v h

abbrev pub labels : ℕ → Labels
labels n = record { z0 = z0_of n; partner = complement n; twice = complement_twice n; alone = complement_neither n (z0_of n) (inr (omega arith)) }
