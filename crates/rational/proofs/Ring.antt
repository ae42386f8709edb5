-- A prover of identities in any commutative ring. An identity is written twice as an expression, and both are brought to a sum of monomials in one order by computing.
use Rattle.std.proofs.Common.{◌≡◌, ℕ, zero, suc, ◌+◌, ◌*◌, ◌-◌, ◌≤◌, arith, sym, ap, ap₂, ◌∙◌, refl, subst, Bool, true, false, eqb, ltb, leb, List, [], ◌∷◌, min, eqb→eq, ◌&&◌, T}
use Rattle.std.proofs.Common.{suc-add, zero-mul, suc-mul, true≢false}
use Rattle.std.proofs.Common.{sub-add_cancel}
use native.Mathlib.Nat as N
use Rattle.rational.proofs.CommutativeRing.{CommutativeRing}
use Rattle.rational.proofs.CommutativeRing as L

infixl 60 ◌:+◌ ◌:-◌
infixl 70 ◌:*◌
-- an expression over variables that have numbers
pub data Ex : Type 0 where
  var : ℕ → Ex
  num : ℕ → Ex
  ◌:+◌ : Ex → Ex → Ex
  ◌:*◌ : Ex → Ex → Ex
  ◌:-◌ : Ex → Ex → Ex
  :neg : Ex → Ex

-- a sum of terms: p copies of a product of variables, less n copies
pub data Poly : Type 0 where
  nil : Poly
  term : ℕ → ℕ → List ℕ → Poly → Poly

-- ---- computing
abbrev pub same_vars : List ℕ → List ℕ → Bool
same_vars [] [] = true
same_vars (x ∷ xs) (y ∷ ys) = eqb x y && same_vars xs ys
same_vars _ _ = false

-- the order of the monomials
abbrev pub before : List ℕ → List ℕ → Bool
before [] [] = false
before [] (y ∷ ys) = true
before (x ∷ xs) [] = false
before (x ∷ xs) (y ∷ ys) = elim (ltb x y) [ true ↦ true | false ↦ elim (eqb x y) [ true ↦ before xs ys | false ↦ false ] ]

-- one more variable, in order
abbrev pub put_var : ℕ → List ℕ → List ℕ
put_var i [] = i ∷ []
put_var i (j ∷ m) = elim (leb i j) [ true ↦ i ∷ (j ∷ m) | false ↦ j ∷ put_var i m ]

-- the variables of both monomials, in order
abbrev pub join_vars : List ℕ → List ℕ → List ℕ
join_vars [] n = n
join_vars (i ∷ m) n = put_var i (join_vars m n)

-- one more term, joined with the term of the same variables
abbrev pub put_term : ℕ → ℕ → List ℕ → Poly → Poly
put_term p n m nil = term p n m nil
put_term p n m (term p' n' m' r) =
    elim (same_vars m m') [ true ↦ term (p + p') (n + n') m' r | false ↦ elim (before m m') [ true ↦ term p n m (term p' n' m' r) | false ↦ term p' n' m' (put_term p n m r) ] ]

-- a sum
abbrev pub add_poly : Poly → Poly → Poly
add_poly nil b = b
add_poly (term p n m r) b = put_term p n m (add_poly r b)

-- a negation
abbrev pub neg_poly : Poly → Poly
neg_poly nil = nil
neg_poly (term p n m r) = term n p m (neg_poly r)

-- a term times a sum
abbrev pub scale_poly : ℕ → ℕ → List ℕ → Poly → Poly
scale_poly p n m nil = nil
scale_poly p n m (term p' n' m' r) =
    put_term (p * p' + n * n') (p * n' + n * p') (join_vars m m') (scale_poly p n m r)

-- a product
abbrev pub mul_poly : Poly → Poly → Poly
mul_poly nil b = nil
mul_poly (term p n m r) b = add_poly (scale_poly p n m b) (mul_poly r b)

-- a term whose copies cancel is left out
abbrev pub clean : Poly → Poly
clean nil = nil
clean (term p n m r) = elim (eqb p n) [ true ↦ clean r | false ↦ term (p - min p n) (n - min p n) m (clean r) ]

-- the sum of terms of an expression
abbrev pub poly_of : Ex → Poly
poly_of (var i) = term 1 0 (i ∷ []) nil
poly_of (num k) = term k 0 [] nil
poly_of (a :+ b) = add_poly (poly_of a) (poly_of b)
poly_of (a :* b) = mul_poly (poly_of a) (poly_of b)
poly_of (a :- b) = add_poly (poly_of a) (neg_poly (poly_of b))
poly_of (:neg a) = neg_poly (poly_of a)

-- the normal form of an expression
abbrev pub normal : Ex → Poly
normal e = clean (poly_of e)

-- two lists of variables that the test takes for one are one
same_vars-true : (a b : List ℕ) → same_vars a b ≡ true → a ≡ b
same_vars-true [] [] e = refl
same_vars-true [] (y ∷ ys) e = elim (true≢false (sym e)) [ ]
same_vars-true (x ∷ xs) [] e = elim (true≢false (sym e)) [ ]
same_vars-true (x ∷ xs) (y ∷ ys) e = go (eqb x y) refl e (same_vars-true xs ys)
  where
    go : (t : Bool) → eqb x y ≡ t → (t && same_vars xs ys) ≡ true → (same_vars xs ys ≡ true → xs ≡ ys) → x ∷ xs ≡ y ∷ ys
    go true f g ih = ap₂ (λ u v. u ∷ v) (eqb→eq x y (subst T (sym f) tt)) (ih g)
    go false f g ih = elim (true≢false (sym g)) [ ]

-- ---- what it means
module _ (R : CommutativeRing) where
  open R use {carrier, ◌⊕◌, ◌⊗◌, neg, 𝟘, 𝟙}

  -- 1 + 1 + ..
  abbrev pub times : ℕ → carrier
  times zero = 𝟘
  times (suc zero) = 𝟙
  times (suc (suc k)) = 𝟙 ⊕ times (suc k)

  times-suc : (k : ℕ) → times (suc k) ≡ 𝟙 ⊕ times k
  times-suc zero = sym (R.add-zero 𝟙)
  times-suc (suc k) = refl

  -- the value at an index, and 0 past the end
  abbrev pub at : List carrier → ℕ → carrier
  at [] i = 𝟘
  at (x ∷ xs) zero = x
  at (x ∷ xs) (suc i) = at xs i

  -- the value of an expression, at the values of its variables
  abbrev pub eval : List carrier → Ex → carrier
  eval ρ (var i) = at ρ i
  eval ρ (num k) = times k
  eval ρ (a :+ b) = eval ρ a ⊕ eval ρ b
  eval ρ (a :* b) = eval ρ a ⊗ eval ρ b
  eval ρ (a :- b) = eval ρ a ⊕ neg (eval ρ b)
  eval ρ (:neg a) = neg (eval ρ a)

  -- p copies of 1 less n copies
  coef : ℕ → ℕ → carrier
  coef p n = times p ⊕ neg (times n)

  module _ (ρ : List carrier) where
    prod : List ℕ → carrier
    prod [] = 𝟙
    prod (i ∷ m) = at ρ i ⊗ prod m

    total : Poly → carrier
    total nil = 𝟘
    total (term p n m r) = coef p n ⊗ prod m ⊕ total r

  times-add : (a b : ℕ) → times (a + b) ≡ times a ⊕ times b
  times-add zero b = ap times (N.zero-add b) ∙ sym (L.zero-add R (times b))
  times-add (suc a) b =
      ap times (suc-add a b) ∙ times-suc (a + b) ∙ ap (λ x. 𝟙 ⊕ x) (times-add a b) ∙ sym (R.add_assoc 𝟙 (times a) (times b)) ∙ ap (λ x. x ⊕ times b) (sym (times-suc a))

  times-mul : (a b : ℕ) → times (a * b) ≡ times a ⊗ times b
  times-mul zero b = ap times (zero-mul b) ∙ sym (L.zero-mul R (times b))
  times-mul (suc a) b =
      ap times (suc-mul a b) ∙ times-add (a * b) b ∙ R.add_comm (times (a * b)) (times b) ∙ ap₂ (λ x y. x ⊕ y) (sym (L.one-mul R (times b))) (times-mul a b) ∙ sym (L.add-mul R 𝟙 (times a) (times b)) ∙ ap (λ x. x ⊗ times b) (sym (times-suc a))

  less_none : (p : ℕ) → coef p 0 ≡ times p
  unfolding coef
  less_none p = ap (λ x. times p ⊕ x) (L.neg-zero R) ∙ R.add-zero (times p)

  coef-add : (p n p' n' : ℕ) → coef (p + p') (n + n') ≡ coef p n ⊕ coef p' n'
  unfolding coef
  coef-add p n p' n' =
      ap₂ (λ x y. x ⊕ neg y) (times-add p p') (times-add n n') ∙ ap (λ y. (times p ⊕ times p') ⊕ y) (L.neg-add R (times n) (times n')) ∙ L.swap_middle R (times p) (times p') (neg (times n)) (neg (times n'))

  coef-same : (p : ℕ) → coef p p ≡ 𝟘
  unfolding coef
  coef-same p = R.add-neg (times p)

  coef-neg : (p n : ℕ) → coef n p ≡ neg (coef p n)
  unfolding coef
  coef-neg p n =
      R.add_comm (times n) (neg (times p)) ∙ ap (λ x. neg (times p) ⊕ x) (sym (L.neg-neg R (times n))) ∙ sym (L.neg-add R (times p) (neg (times n)))

  -- a coefficient times copies of 1
  coef-scale : (k p n : ℕ) → coef (k * p) (k * n) ≡ times k ⊗ coef p n
  unfolding coef
  coef-scale k p n =
      ap₂ (λ x y. x ⊕ neg y) (times-mul k p) (times-mul k n) ∙ ap (λ x. times k ⊗ times p ⊕ x) (sym (L.mul-neg R (times k) (times n))) ∙ sym (R.mul-add (times k) (times p) (neg (times n)))

  coef-mul : (p n p' n' : ℕ) → coef (p * p' + n * n') (p * n' + n * p') ≡ coef p n ⊗ coef p' n'
  unfolding coef
  coef-mul p n p' n' =
      coef-add (p * p') (p * n') (n * n') (n * p')
      ∙ ap₂ (λ x y. x ⊕ y) (coef-scale p p' n') (coef-neg (n * p') (n * n') ∙ ap neg (coef-scale n p' n') ∙ sym (L.neg-mul R (times n) (coef p' n')))
      ∙ sym (L.add-mul R (times p) (neg (times n)) (coef p' n'))

  coef-less : (p n k : ℕ) → k ≤ p → k ≤ n → coef (p - k) (n - k) ≡ coef p n
  coef-less p n k h g =
      sym (R.add-zero (coef (p - k) (n - k))) ∙ ap (λ x. coef (p - k) (n - k) ⊕ x) (sym (coef-same k)) ∙ sym (coef-add (p - k) (n - k) k k) ∙ ap₂ coef (sub-add_cancel h) (sub-add_cancel g)

  module _ (ρ : List carrier) where
    prod-put : (i : ℕ) (m : List ℕ) → prod ρ (put_var i m) ≡ at ρ i ⊗ prod ρ m
    unfolding prod
    prod-put i [] = refl
    prod-put i (j ∷ m) = go (leb i j) (prod-put i m)
      where
        go : (t : Bool) → prod ρ (put_var i m) ≡ at ρ i ⊗ prod ρ m → prod ρ (elim t [ true ↦ i ∷ (j ∷ m) | false ↦ j ∷ put_var i m ]) ≡ at ρ i ⊗ (at ρ j ⊗ prod ρ m)
        go true ih = refl
        go false ih = ap (λ x. at ρ j ⊗ x) ih ∙ L.mul_left_comm R (at ρ j) (at ρ i) (prod ρ m)

    prod-join : (m n : List ℕ) → prod ρ (join_vars m n) ≡ prod ρ m ⊗ prod ρ n
    unfolding prod
    prod-join [] n = sym (L.one-mul R (prod ρ n))
    prod-join (i ∷ m) n =
        prod-put i (join_vars m n) ∙ ap (λ x. at ρ i ⊗ x) (prod-join m n) ∙ sym (R.mul_assoc (at ρ i) (prod ρ m) (prod ρ n))

    total-put : (p n : ℕ) (m : List ℕ) (r : Poly) → total ρ (put_term p n m r) ≡ coef p n ⊗ prod ρ m ⊕ total ρ r
    unfolding total
    total-put p n m nil = refl
    total-put p n m (term p' n' m' r) = go (same_vars m m') (before m m') (same_vars-true m m') (total-put p n m r)
      where
        go : (t s : Bool) → (t ≡ true → m ≡ m') → total ρ (put_term p n m r) ≡ coef p n ⊗ prod ρ m ⊕ total ρ r → total ρ (elim t [ true ↦ term (p + p') (n + n') m' r | false ↦ elim s [ true ↦ term p n m (term p' n' m' r) | false ↦ term p' n' m' (put_term p n m r) ] ]) ≡ coef p n ⊗ prod ρ m ⊕ (coef p' n' ⊗ prod ρ m' ⊕ total ρ r)
        go true s e ih =
            ap (λ x. x ⊗ prod ρ m' ⊕ total ρ r) (coef-add p n p' n') ∙ ap (λ x. x ⊕ total ρ r) (L.add-mul R (coef p n) (coef p' n') (prod ρ m'))
            ∙ R.add_assoc (coef p n ⊗ prod ρ m') (coef p' n' ⊗ prod ρ m') (total ρ r) ∙ ap (λ x. coef p n ⊗ prod ρ x ⊕ (coef p' n' ⊗ prod ρ m' ⊕ total ρ r)) (sym (e refl))
        go false true e ih = refl
        go false false e ih =
            ap (λ x. coef p' n' ⊗ prod ρ m' ⊕ x) ih ∙ L.add_left_comm R (coef p' n' ⊗ prod ρ m') (coef p n ⊗ prod ρ m) (total ρ r)

    total-add : (a b : Poly) → total ρ (add_poly a b) ≡ total ρ a ⊕ total ρ b
    unfolding total
    total-add nil b = sym (L.zero-add R (total ρ b))
    total-add (term p n m r) b =
        total-put p n m (add_poly r b) ∙ ap (λ x. coef p n ⊗ prod ρ m ⊕ x) (total-add r b) ∙ sym (R.add_assoc (coef p n ⊗ prod ρ m) (total ρ r) (total ρ b))

    total-neg : (a : Poly) → total ρ (neg_poly a) ≡ neg (total ρ a)
    unfolding total
    total-neg nil = sym (L.neg-zero R)
    total-neg (term p n m r) =
        ap₂ (λ x y. x ⊗ prod ρ m ⊕ y) (coef-neg p n) (total-neg r) ∙ ap (λ x. x ⊕ neg (total ρ r)) (L.neg-mul R (coef p n) (prod ρ m)) ∙ sym (L.neg-add R (coef p n ⊗ prod ρ m) (total ρ r))

    total-scale : (p n : ℕ) (m : List ℕ) (a : Poly) → total ρ (scale_poly p n m a) ≡ (coef p n ⊗ prod ρ m) ⊗ total ρ a
    unfolding total
    total-scale p n m nil = sym (L.mul-zero R (coef p n ⊗ prod ρ m))
    total-scale p n m (term p' n' m' r) =
        total-put (p * p' + n * n') (p * n' + n * p') (join_vars m m') (scale_poly p n m r)
        ∙ ap₂ (λ x y. x ⊕ y) (ap₂ (λ x y. x ⊗ y) (coef-mul p n p' n') (prod-join m m') ∙ mix (coef p n) (coef p' n') (prod ρ m) (prod ρ m')) (total-scale p n m r)
        ∙ sym (R.mul-add (coef p n ⊗ prod ρ m) (coef p' n' ⊗ prod ρ m') (total ρ r))
      where
        mix : (a b c d : carrier) → (a ⊗ b) ⊗ (c ⊗ d) ≡ (a ⊗ c) ⊗ (b ⊗ d)
        mix a b c d = R.mul_assoc a b (c ⊗ d) ∙ ap (λ x. a ⊗ x) (L.mul_left_comm R b c d) ∙ sym (R.mul_assoc a c (b ⊗ d))

    total-mul : (a b : Poly) → total ρ (mul_poly a b) ≡ total ρ a ⊗ total ρ b
    unfolding total
    total-mul nil b = sym (L.zero-mul R (total ρ b))
    total-mul (term p n m r) b =
        total-add (scale_poly p n m b) (mul_poly r b) ∙ ap₂ (λ x y. x ⊕ y) (total-scale p n m b) (total-mul r b) ∙ sym (L.add-mul R (coef p n ⊗ prod ρ m) (total ρ r) (total ρ b))

    total-clean : (a : Poly) → total ρ (clean a) ≡ total ρ a
    unfolding total
    total-clean nil = refl
    total-clean (term p n m r) = go (eqb p n) (λ e. eqb→eq p n (subst T (sym e) tt)) (total-clean r)
      where
        go : (t : Bool) → (t ≡ true → p ≡ n) → total ρ (clean r) ≡ total ρ r → total ρ (elim t [ true ↦ clean r | false ↦ term (p - min p n) (n - min p n) m (clean r) ]) ≡ coef p n ⊗ prod ρ m ⊕ total ρ r
        go true e ih =
            ih ∙ sym (L.zero-add R (total ρ r)) ∙ ap (λ x. x ⊕ total ρ r) (sym (L.zero-mul R (prod ρ m)) ∙ ap (λ x. x ⊗ prod ρ m) (sym (coef-same p) ∙ ap (coef p) (e refl)))
        go false e ih = ap₂ (λ x y. x ⊗ prod ρ m ⊕ y) (coef-less p n (min p n) (omega arith) (omega arith)) ih

    total-poly : (e : Ex) → total ρ (poly_of e) ≡ eval ρ e
    unfolding total prod coef
    total-poly (var i) = R.add-zero (coef 1 0 ⊗ (at ρ i ⊗ 𝟙)) ∙ ap₂ (λ x y. x ⊗ y) (less_none 1) (R.mul-one (at ρ i)) ∙ L.one-mul R (at ρ i)
    total-poly (num k) = R.add-zero (coef k 0 ⊗ 𝟙) ∙ R.mul-one (coef k 0) ∙ less_none k
    total-poly (a :+ b) = total-add (poly_of a) (poly_of b) ∙ ap₂ (λ x y. x ⊕ y) (total-poly a) (total-poly b)
    total-poly (a :* b) = total-mul (poly_of a) (poly_of b) ∙ ap₂ (λ x y. x ⊗ y) (total-poly a) (total-poly b)
    total-poly (a :- b) =
        total-add (poly_of a) (neg_poly (poly_of b)) ∙ ap₂ (λ x y. x ⊕ y) (total-poly a) (total-neg (poly_of b) ∙ ap neg (total-poly b))
    total-poly (:neg a) = total-neg (poly_of a) ∙ ap neg (total-poly a)

    -- two expressions with one normal form are equal
    pub ring : (a b : Ex) → normal a ≡ normal b → eval ρ a ≡ eval ρ b
    ring a b e =
        sym (total-poly a) ∙ sym (total-clean (poly_of a)) ∙ ap (total ρ) e ∙ total-clean (poly_of b) ∙ total-poly b

-- the first variables, by short names
abbrev pub A : Ex
A = var 0

abbrev pub B : Ex
B = var 1

abbrev pub C : Ex
C = var 2

abbrev pub D : Ex
D = var 3

abbrev pub E : Ex
E = var 4

abbrev pub F : Ex
F = var 5

abbrev pub G : Ex
G = var 6

abbrev pub H : Ex
H = var 7

-- ---- from equations: the difference of the sides is a sum of multiples of the differences of known sides
-- a multiple, and the two sides of a known equation
pub data Use : Type 0 where
  ◌times◌is◌ : Ex → Ex → Ex → Use

infix 40 ◌times◌is◌
-- a, and the right sides of the known equations by their multipliers
abbrev pub with_right : Ex → List Use → Ex
with_right a [] = a
with_right a ((m times l is r) ∷ us) = with_right (a :+ m :* r) us

-- b, and the left sides of the known equations by their multipliers
abbrev pub with_left : Ex → List Use → Ex
with_left b [] = b
with_left b ((m times l is r) ∷ us) = with_left (b :+ m :* l) us

module _ (R : CommutativeRing) where
  open R use {carrier, ◌⊕◌, ◌⊗◌, neg, 𝟘, 𝟙}

  -- each known equation holds
  abbrev pub Known : List carrier → List Use → Type 0
  Known ρ [] = Unit {0}
  Known ρ ((m times l is r) ∷ us) = (eval R ρ l ≡ eval R ρ r) × Known ρ us

  take_away : (ρ : List carrier) (us : List Use) (a b : Ex) → Known ρ us → eval R ρ (with_right a us) ≡ eval R ρ (with_left b us) → eval R ρ a ≡ eval R ρ b
  take_away ρ [] a b k e = e
  take_away ρ ((m times l is r) ∷ us) a b k e =
      L.add_cancel R (eval R ρ a) (eval R ρ b) (eval R ρ m ⊗ eval R ρ r) (take_away ρ us (a :+ m :* r) (b :+ m :* l) k.1 e ∙ ap (λ x. eval R ρ b ⊕ eval R ρ m ⊗ x) k.0)

  -- a follows from the known equations
  pub combine : (ρ : List carrier) (us : List Use) (a b : Ex) → normal (with_right a us) ≡ normal (with_left b us) → Known ρ us → eval R ρ a ≡ eval R ρ b
  combine ρ us a b e k = take_away ρ us a b k (ring R ρ (with_right a us) (with_left b us) e)
