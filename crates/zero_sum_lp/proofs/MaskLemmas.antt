-- Bases as numbers.
use Rattle.std.proofs.Common.{ℕ, suc, zero, ◌<◌, ◌≤◌, ◌≡◌, ◌+◌, ◌*◌, ◌^◌, eqb, cond, Bool, true, false, refl, sym, ap, ◌∙◌, subst, arith, inl, inr, pow-suc, true≢false}
use Rattle.std.proofs.lemmas.Bool.{cases_eq}
use Rattle.linear_systems.specs.Tableau.{Tableau}
use Rattle.linear_systems.specs.RowEquivalence.{HasSameBasis}
use Rattle.linear_systems.proofs.PivotLemmas.{eqb_same, eqb_apart}
use Rattle.linear_systems.proofs.LexRowLemmas.{below_cases}

-- whether v is a basic variable of one of the first n rows
abbrev pub has_basic : ℕ → Tableau → ℕ → Bool
has_basic zero t v = false
has_basic (suc n) t v = cond (eqb (t.basic n) v) true (has_basic n t v)

-- the numbers below n that pass f, as binary digits
abbrev pub mask : ℕ → (ℕ → Bool) → ℕ
mask zero f = 0
mask (suc n) f = mask n f + cond (f n) (2 ^ n) 0

-- the basis of the first m rows as one number, where all variables are below N
abbrev pub basis_number : ℕ → ℕ → Tableau → ℕ
basis_number N m t = mask N (has_basic m t)

digit : (b : Bool) (k : ℕ) → cond b k 0 ≤ k
digit true k = omega arith
digit false k = omega arith

pub mask_below : (n : ℕ) (f : ℕ → Bool) → mask n f < 2 ^ n
mask_below zero f = omega arith
mask_below (suc n) f =
    let e : 2 ^ suc n ≡ 2 ^ n * 2 = pow-suc 2 n in
    let ih : mask n f < 2 ^ n = mask_below n f in
    let d : cond (f n) (2 ^ n) 0 ≤ 2 ^ n = digit (f n) (2 ^ n) in
    omega arith

digits_same : (k a b : ℕ) (p q : Bool) → a < k → b < k → a + cond p k 0 ≡ b + cond q k 0 → (p ≡ q) × (a ≡ b)
digits_same k a b true true ha hb e = (refl, omega arith)
digits_same k a b false false ha hb e = (refl, omega arith)
digits_same k a b true false ha hb e = absurd (omega arith)
digits_same k a b false true ha hb e = absurd (omega arith)

pub mask_same : (n : ℕ) (f g : ℕ → Bool) → mask n f ≡ mask n g → (v : ℕ) → v < n → f v ≡ g v
mask_same zero f g e v h = absurd (omega arith)
mask_same (suc n) f g e v h =
    let d = digits_same (2 ^ n) (mask n f) (mask n g) (f n) (g n) (mask_below n f) (mask_below n g) e in
    elim (below_cases v n h) [ inl q ↦ subst (λ k. f k ≡ g k) (sym q) d.0 | inr l ↦ mask_same n f g d.1 v l ]

has_own : (n : ℕ) (t : Tableau) (q : ℕ) → q < n → has_basic n t (t.basic q) ≡ true
has_own zero t q h = absurd (omega arith)
has_own (suc n) t q h = elim (below_cases q n h) [ inl e ↦ here e | inr l ↦ later (eqb (t.basic n) (t.basic q)) (has_own n t q l) ]
  where
    here : q ≡ n → cond (eqb (t.basic n) (t.basic q)) true (has_basic n t (t.basic q)) ≡ true
    here e = ap (λ b. cond b true (has_basic n t (t.basic q))) (ap (λ k. eqb (t.basic n) (t.basic k)) e ∙ eqb_same (t.basic n))

    later : (b : Bool) → has_basic n t (t.basic q) ≡ true → cond b true (has_basic n t (t.basic q)) ≡ true
    later true e = refl
    later false e = e

-- the row among the first n with basic variable v
place_of : ℕ → Tableau → ℕ → ℕ
place_of zero t v = 0
place_of (suc n) t v = cond (eqb (t.basic n) v) n (place_of n t v)

place_is : (n : ℕ) (t : Tableau) (v : ℕ) → has_basic n t v ≡ true → (place_of n t v < n) × (t.basic (place_of n t v) ≡ v)
unfolding place_of
place_is zero t v h = absurd (true≢false (sym h))
place_is (suc n) t v h = elim (cases_eq (t.basic n) v) [
  | inl e ↦ (let f : cond (eqb (t.basic n) v) n (place_of n t v) ≡ n = ap (λ w. cond (eqb w v) n (place_of n t v)) e ∙ ap (λ b. cond b n (place_of n t v)) (eqb_same v) in (subst (λ k. k < suc n) (sym f) (omega arith), ap t.basic f ∙ e))
  | inr ne ↦ (let f : cond (eqb (t.basic n) v) n (place_of n t v) ≡ place_of n t v = ap (λ b. cond b n (place_of n t v)) (eqb_apart (t.basic n) v ne) in
      let ih = place_is n t v (sym (ap (λ b. cond b true (has_basic n t v)) (eqb_apart (t.basic n) v ne)) ∙ h) in
      let w : place_of n t v < n = ih.0 in
      (subst (λ k. k < suc n) (sym f) (omega arith), ap t.basic f ∙ ih.1))
]

pub same_basis : (N m : ℕ) (t u : Tableau) → ((i : ℕ) → i < m → t.basic i < N) → basis_number N m t ≡ basis_number N m u → HasSameBasis m t u
same_basis N m t u h e =
    let found : (q : ℕ) → q < m → has_basic m u (t.basic q) ≡ true = λ q hq. sym (mask_same N (has_basic m t) (has_basic m u) e (t.basic q) (h q hq)) ∙ has_own m t q hq in
    record {
      other = λ q. place_of m u (t.basic q);
      within = λ q hq. (place_is m u (t.basic q) (found q hq)).0;
      basic = λ q hq. sym (place_is m u (t.basic q) (found q hq)).1;
    }
