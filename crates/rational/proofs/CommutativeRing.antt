-- A commutative ring: its operations, their laws, and what follows from them.
use Rattle.std.proofs.Common.{◌≡◌, sym, ap, ap₂, ◌∙◌}

-- operations on a type, with the eight laws of a commutative ring
pub record CommutativeRing : Type 1 where
  pub carrier : Type 0
  infixl 60 ◌⊕◌
  infixl 70 ◌⊗◌
  pub ◌⊕◌ : carrier → carrier → carrier
  pub ◌⊗◌ : carrier → carrier → carrier
  pub neg : carrier → carrier
  pub 𝟘 : carrier
  pub 𝟙 : carrier
  pub add_assoc : (a b c : carrier) → (a ⊕ b) ⊕ c ≡ a ⊕ (b ⊕ c)
  pub add_comm : (a b : carrier) → a ⊕ b ≡ b ⊕ a
  pub add-zero : (a : carrier) → a ⊕ 𝟘 ≡ a
  pub add-neg : (a : carrier) → a ⊕ neg a ≡ 𝟘
  pub mul_assoc : (a b c : carrier) → (a ⊗ b) ⊗ c ≡ a ⊗ (b ⊗ c)
  pub mul_comm : (a b : carrier) → a ⊗ b ≡ b ⊗ a
  pub mul-one : (a : carrier) → a ⊗ 𝟙 ≡ a
  pub mul-add : (a b c : carrier) → a ⊗ (b ⊕ c) ≡ a ⊗ b ⊕ a ⊗ c

module _ (R : CommutativeRing) where
  open R use {carrier, ◌⊕◌, ◌⊗◌, neg, 𝟘, 𝟙}

  -- 0 before a summand
  pub zero-add : (a : carrier) → 𝟘 ⊕ a ≡ a
  zero-add a = R.add_comm 𝟘 a ∙ R.add-zero a

  -- the first two of three summands change places
  pub add_left_comm : (a b c : carrier) → a ⊕ (b ⊕ c) ≡ b ⊕ (a ⊕ c)
  add_left_comm a b c = sym (R.add_assoc a b c) ∙ ap (λ x. x ⊕ c) (R.add_comm a b) ∙ R.add_assoc b a c

  -- the first two of three factors change places
  pub mul_left_comm : (a b c : carrier) → a ⊗ (b ⊗ c) ≡ b ⊗ (a ⊗ c)
  mul_left_comm a b c = sym (R.mul_assoc a b c) ∙ ap (λ x. x ⊗ c) (R.mul_comm a b) ∙ R.mul_assoc b a c

  -- (a + b) + (c + d) = (a + c) + (b + d)
  pub swap_middle : (a b c d : carrier) → (a ⊕ b) ⊕ (c ⊕ d) ≡ (a ⊕ c) ⊕ (b ⊕ d)
  swap_middle a b c d = R.add_assoc a b (c ⊕ d) ∙ ap (λ x. a ⊕ x) (add_left_comm b c d) ∙ sym (R.add_assoc a c (b ⊕ d))

  -- a sum times a factor
  pub add-mul : (a b c : carrier) → (a ⊕ b) ⊗ c ≡ a ⊗ c ⊕ b ⊗ c
  add-mul a b c = R.mul_comm (a ⊕ b) c ∙ R.mul-add c a b ∙ ap₂ (λ x y. x ⊕ y) (R.mul_comm c a) (R.mul_comm c b)

  -- 1 times a factor
  pub one-mul : (a : carrier) → 𝟙 ⊗ a ≡ a
  one-mul a = R.mul_comm 𝟙 a ∙ R.mul-one a

  -- a negated number plus the number
  pub neg-add_self : (a : carrier) → neg a ⊕ a ≡ 𝟘
  neg-add_self a = R.add_comm (neg a) a ∙ R.add-neg a

  -- what a summand hides can be taken away
  pub add_cancel : (a b c : carrier) → a ⊕ c ≡ b ⊕ c → a ≡ b
  add_cancel a b c e =
      sym (back a) ∙ ap (λ x. x ⊕ neg c) e ∙ back b
    where
      back : (x : carrier) → (x ⊕ c) ⊕ neg c ≡ x
      back x = R.add_assoc x c (neg c) ∙ ap (λ y. x ⊕ y) (R.add-neg c) ∙ R.add-zero x

  -- a factor times 0
  pub mul-zero : (a : carrier) → a ⊗ 𝟘 ≡ 𝟘
  mul-zero a =
      add_cancel (a ⊗ 𝟘) 𝟘 (a ⊗ 𝟘) (sym (R.mul-add a 𝟘 𝟘) ∙ ap (λ x. a ⊗ x) (R.add-zero 𝟘) ∙ sym (zero-add (a ⊗ 𝟘)))

  -- 0 times a factor
  pub zero-mul : (a : carrier) → 𝟘 ⊗ a ≡ 𝟘
  zero-mul a = R.mul_comm 𝟘 a ∙ mul-zero a

  -- the only number that makes 0 with a
  pub neg_unique : (a b : carrier) → a ⊕ b ≡ 𝟘 → neg a ≡ b
  neg_unique a b e = add_cancel (neg a) b a (neg-add_self a ∙ sym e ∙ R.add_comm a b)

  -- a negated sum
  pub neg-add : (a b : carrier) → neg (a ⊕ b) ≡ neg a ⊕ neg b
  neg-add a b =
      neg_unique (a ⊕ b) (neg a ⊕ neg b) (swap_middle a b (neg a) (neg b) ∙ ap₂ (λ x y. x ⊕ y) (R.add-neg a) (R.add-neg b) ∙ R.add-zero 𝟘)

  -- 0 negated
  pub neg-zero : neg 𝟘 ≡ 𝟘
  neg-zero = neg_unique 𝟘 𝟘 (R.add-zero 𝟘)

  -- a number negated twice
  pub neg-neg : (a : carrier) → neg (neg a) ≡ a
  neg-neg a = neg_unique (neg a) a (neg-add_self a)

  -- a negated factor times another
  pub neg-mul : (a b : carrier) → neg a ⊗ b ≡ neg (a ⊗ b)
  neg-mul a b = sym (neg_unique (a ⊗ b) (neg a ⊗ b) (sym (add-mul a (neg a) b) ∙ ap (λ x. x ⊗ b) (R.add-neg a) ∙ zero-mul b))

  -- a factor times a negated one
  pub mul-neg : (a b : carrier) → a ⊗ neg b ≡ neg (a ⊗ b)
  mul-neg a b = R.mul_comm a (neg b) ∙ neg-mul b a ∙ ap neg (R.mul_comm b a)
