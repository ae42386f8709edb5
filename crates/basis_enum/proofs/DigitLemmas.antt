-- Bases as binary numbers: a number tells its digits, and the first digit that differs decides the order
use Rattle.std.proofs.Common.{ℕ, suc, zero, ◌<◌, ◌≤◌, ◌≡◌, ◌≢◌, ◌+◌, ◌-◌, ◌^◌, eqb, cond, refl, sym, ap, ap₂, ◌∙◌, subst, arith, ◌⊎◌, inl, inr, List, [], ◌∷◌, length, get_or, eq-or-lt_of_le}
use Rattle.std.proofs.Math.Nat.{two-pow-succ}
use Rattle.std.proofs.lemmas.Bool.{cases_eq}
use Rattle.std.specs.List.{Contains}
use Rattle.std.proofs.lemmas.List.Sums.{sum_by-cons}
use Rattle.lists.proofs.ElementLemmas.{first_in, rest_in, in_cases}
use Rattle.linear_systems.proofs.PivotLemmas.{eqb_same, eqb_apart}
use Rattle.basis_enum.specs.Bases.{digit, basis_of, AreVariables, ComesFirst}

-- the number with the digits d 1, d 2, .. d n
binary : ℕ → (ℕ → ℕ) → ℕ
binary zero d = 0
binary (suc n) d = binary n d + binary n d + d (suc n)

binary_same : (n : ℕ) (d e : ℕ → ℕ) → ((v : ℕ) → 0 < v → v ≤ n → d v ≡ e v) → binary n d ≡ binary n e
unfolding binary
binary_same zero d e h = refl
binary_same (suc n) d e h = ap₂ (λ x y. x + x + y) (binary_same n d e (λ v l k. h v l (omega arith))) (h (suc n) (omega arith) (omega arith))

binary_below : (n : ℕ) (d : ℕ → ℕ) → ((v : ℕ) → d v ≤ 1) → binary n d < 2 ^ n
unfolding binary
binary_below zero d h = omega arith
binary_below (suc n) d h = let p : 2 ^ suc n ≡ 2 ^ n + 2 ^ n = two-pow-succ n in let i : binary n d < 2 ^ n = binary_below n d h in let j : d (suc n) ≤ 1 = h (suc n) in omega arith

-- one digit more
binary_put : (n x : ℕ) (d e : ℕ → ℕ) → 0 < x → x ≤ n → e x ≡ suc (d x) → ((v : ℕ) → v ≢ x → e v ≡ d v) → binary n e ≡ 2 ^ (n - x) + binary n d
unfolding binary
binary_put zero x d e l k h g = absurd (omega arith)
binary_put (suc n) x d e l k h g = elim (eq-or-lt_of_le k) [ inl q ↦ last q | inr m ↦ before m (binary_put n x d e l (omega arith) h g) ]
  where
    last : x ≡ suc n → binary n e + binary n e + e (suc n) ≡ 2 ^ (suc n - x) + (binary n d + binary n d + d (suc n))
    last q =
        let b : binary n e ≡ binary n d = binary_same n e d (λ v a c. g v (omega arith)) in
        let t : e (suc n) ≡ suc (d (suc n)) = subst (λ y. e y ≡ suc (d y)) q h in
        let p : 2 ^ (suc n - x) ≡ 1 = ap (λ k. 2 ^ k) (let z : suc n - x ≡ 0 = omega arith in z) in
        omega arith

    before : x < suc n → binary n e ≡ 2 ^ (n - x) + binary n d → binary n e + binary n e + e (suc n) ≡ 2 ^ (suc n - x) + (binary n d + binary n d + d (suc n))
    before m b =
        let t : e (suc n) ≡ d (suc n) = g (suc n) (omega arith) in
        let p : 2 ^ (suc n - x) ≡ 2 ^ (n - x) + 2 ^ (n - x) = ap (λ k. 2 ^ k) (let z : suc n - x ≡ suc (n - x) = omega arith in z) ∙ two-pow-succ (n - x) in
        omega arith

-- equal numbers have equal digits
binary_tells : (n : ℕ) (d e : ℕ → ℕ) → ((v : ℕ) → d v ≤ 1) → ((v : ℕ) → e v ≤ 1) → binary n d ≡ binary n e → (v : ℕ) → 0 < v → v ≤ n → d v ≡ e v
unfolding binary
binary_tells zero d e hd he q v l k = absurd (omega arith)
binary_tells (suc n) d e hd he q v l k =
    let a : d (suc n) ≤ 1 = hd (suc n) in
    let b : e (suc n) ≤ 1 = he (suc n) in
    elim (eq-or-lt_of_le k) [ inl s ↦ subst (λ v. d v ≡ e v) (sym s) (let z : d (suc n) ≡ e (suc n) = omega arith in z) | inr m ↦ binary_tells n d e hd he (omega arith) v l (omega arith) ]

-- the first digit that differs is 0 in the less number
pub record DiffersFirst (n : ℕ) (d e : ℕ → ℕ) : Type 0 where
  pub variable : ℕ
  pub above : 0 < variable
  pub within : variable ≤ n
  pub first : d variable ≡ 0
  pub second : e variable ≡ 1
  pub before : (v : ℕ) → 0 < v → v < variable → d v ≡ e v

binary_less : (n : ℕ) (d e : ℕ → ℕ) → ((v : ℕ) → d v ≤ 1) → ((v : ℕ) → e v ≤ 1) → binary n d < binary n e → DiffersFirst n d e
unfolding binary
binary_less zero d e hd he q = absurd (omega arith)
binary_less (suc n) d e hd he q = go (eq-or-lt_of_le at_most) (λ l. binary_less n d e hd he l)
  where
    at_most : binary n d ≤ binary n e
    at_most = let a : d (suc n) ≤ 1 = hd (suc n) in let b : e (suc n) ≤ 1 = he (suc n) in omega arith

    go : (binary n d ≡ binary n e) ⊎ (binary n d < binary n e) → (binary n d < binary n e → DiffersFirst n d e) → DiffersFirst (suc n) d e
    go (inl s) less =
        let a : d (suc n) ≤ 1 = hd (suc n) in let b : e (suc n) ≤ 1 = he (suc n) in
        record { variable = suc n; above = omega arith; within = omega arith; first = omega arith; second = omega arith; before = λ v l k. binary_tells n d e hd he s v l (omega arith) }
    go (inr l) less = let f = less l in record { variable = f.variable; above = f.above; within = (let w : f.variable ≤ n = f.within in omega arith); first = f.first; second = f.second; before = f.before }

-- ---- 1 where a variable is in a list
pub has : List ℕ → ℕ → ℕ
has [] v = 0
has (x ∷ xs) v = cond (eqb x v) 1 (has xs v)

has_most : (xs : List ℕ) (v : ℕ) → has xs v ≤ 1
unfolding has
has_most [] v = omega arith
has_most (x ∷ xs) v = elim (cases_eq x v) [ inl e ↦ subst (λ b. cond b 1 (has xs v) ≤ 1) (sym (ap (λ y. eqb x y) (sym e) ∙ eqb_same x)) (omega arith) | inr ne ↦ subst (λ b. cond b 1 (has xs v) ≤ 1) (sym (eqb_apart x v ne)) (has_most xs v) ]

has_here : (x : ℕ) (xs : List ℕ) → has (x ∷ xs) x ≡ 1
unfolding has
has_here x xs = ap (λ b. cond b 1 (has xs x)) (eqb_same x)

has_other : (x v : ℕ) (xs : List ℕ) → v ≢ x → has (x ∷ xs) v ≡ has xs v
unfolding has
has_other x v xs ne = ap (λ b. cond b 1 (has xs v)) (eqb_apart x v (λ e. ne (sym e)))

has_in : (xs : List ℕ) (v : ℕ) → Contains xs v → has xs v ≡ 1
has_in [] v h = absurd (omega (arith, h.1))
has_in (x ∷ xs) v h = elim (cases_eq v x) [ inl e ↦ subst (λ v. has (x ∷ xs) v ≡ 1) (sym e) (has_here x xs) | inr ne ↦ has_other x v xs ne ∙ elim (in_cases x v xs h) [ inl e ↦ absurd (ne (sym e)) | inr t ↦ has_in xs v t ] ]

in_has : (xs : List ℕ) (v : ℕ) → has xs v ≡ 1 → Contains xs v
unfolding has
in_has [] v h = absurd (omega arith)
in_has (x ∷ xs) v h = elim (cases_eq v x) [ inl e ↦ subst (λ v. Contains (x ∷ xs) v) (sym e) (first_in x xs) | inr ne ↦ rest_in x v xs (in_has xs v (sym (has_other x v xs ne) ∙ h)) ]

has_not : (xs : List ℕ) (v : ℕ) → (Contains xs v → ⊥) → has xs v ≡ 0
has_not xs v h = elim (cases_eq (has xs v) 1) [ inl e ↦ absurd (h (in_has xs v e)) | inr ne ↦ (let m : has xs v ≤ 1 = has_most xs v in omega arith) ]

-- ---- a basis is the number with these digits
pub variables_tail : (x : ℕ) (xs : List ℕ) → AreVariables (x ∷ xs) → AreVariables xs
variables_tail x xs h = record { above = λ v c. h.above v (rest_in x v xs c); most = λ v c. h.most v (rest_in x v xs c); once = λ i j a b e. (let s : suc i ≡ suc j = h.once (suc i) (suc j) (omega arith) (omega arith) e in omega arith) }

head_apart : (x : ℕ) (xs : List ℕ) → AreVariables (x ∷ xs) → Contains xs x → ⊥
head_apart x xs h c = let k = c.0 in let w : k < length xs = c.1 in let s : 0 ≡ suc k = h.once 0 (suc k) (omega arith) (omega arith) (sym (get_here xs k x w c.2)) in omega arith
  where
    get_here : (xs : List ℕ) (k x : ℕ) → k < length xs → get_or xs k x ≡ x → get_or xs k 0 ≡ x
    get_here [] k x w e = absurd (omega arith)
    get_here (y ∷ ys) zero x w e = e
    get_here (y ∷ ys) (suc k) x w e = get_here ys k x (omega arith) e

basis_binary : (xs : List ℕ) → AreVariables xs → basis_of xs ≡ binary 128 (has xs)
unfolding binary has
basis_binary [] h = sym (none 128)
  where
    none : (n : ℕ) → binary n (has []) ≡ 0
    none zero = refl
    none (suc n) = ap (λ x. x + x + 0) (none n)
basis_binary (x ∷ xs) h =
    sum_by-cons digit x xs ∙ ap (λ n. digit x + n) (basis_binary xs (variables_tail x xs h))
    ∙ sym (binary_put 128 x (has xs) (has (x ∷ xs)) (h.above x (first_in x xs)) (h.most x (first_in x xs)) (has_here x xs ∙ ap suc (sym (has_not xs x (head_apart x xs h)))) (λ v ne. has_other x v xs ne))

pub basis_below : (xs : List ℕ) → AreVariables xs → basis_of xs < 2 ^ 128
basis_below xs h = subst (λ n. n < 2 ^ 128) (sym (basis_binary xs h)) (binary_below 128 (has xs) (has_most xs))

-- equal numbers are those of the same variables
pub basis_tells : (xs ys : List ℕ) (v : ℕ) → AreVariables xs → AreVariables ys → basis_of xs ≡ basis_of ys → Contains xs v → Contains ys v
basis_tells xs ys v hx hy e c =
    in_has ys v (sym (binary_tells 128 (has xs) (has ys) (has_most xs) (has_most ys) (sym (basis_binary xs hx) ∙ e ∙ basis_binary ys hy) v (hx.above v c) (hx.most v c)) ∙ has_in xs v c)

-- the order of the numbers
pub basis_order : (xs ys : List ℕ) → AreVariables xs → AreVariables ys → basis_of xs < basis_of ys → DiffersFirst 128 (has xs) (has ys)
basis_order xs ys hx hy l = binary_less 128 (has xs) (has ys) (has_most xs) (has_most ys) (subst (λ n. n < binary 128 (has ys)) (basis_binary xs hx) (subst (λ n. basis_of xs < n) (basis_binary ys hy) l))

pub comes_first : (xs ys : List ℕ) → AreVariables xs → AreVariables ys → basis_of xs < basis_of ys → ComesFirst xs ys
comes_first xs ys hx hy l = let f = basis_order xs ys hx hy l in
    record {
      variable = f.variable;
      basic = λ c. (let a : has xs f.variable ≡ 1 = has_in xs f.variable c in let b : has xs f.variable ≡ 0 = f.first in omega arith);
      nonbasic = in_has ys f.variable f.second;
      before = λ v k. (λ c. in_has ys v (sym (f.before v (hx.above v c) k) ∙ has_in xs v c), λ c. in_has xs v (f.before v (hy.above v c) k ∙ has_in ys v c));
    }
