-- the order of two rationals
use Rattle.std.proofs.Common.{ℕ, ◌≡◌, ◌<◌, ◌^◌, ℤ, pos, ◌*ℤ◌, ◌<ℤ◌, nat_abs, sym, ap, ap₂, ◌∙◌, SFits, to_z, of_z, Ordering, Less, Equal, Greater, int_cmp, IsTrue, nat_eq, lit<}
use mir.Syntax.{w128}
use native.Mathlib.Nat.{le_of_lt}
use Rattle.std.proofs.lemmas.Int.{to_z-of_z, fits_signed_mul}
use Rattle.std.specs.Ordering.{MatchOrdering}
use Rattle.std.proofs.lemmas.Bool.Decides.{Decides-eqb}
use Rattle.std.specs.Cmp.{int_cmp_is, int_ranks}
use Rattle.rational.specs.Tests.{cmp_ℚ}
use Rattle.rational.specs.Rational.{ℚ}
use Rattle.rational.proofs.DenominatorLemmas.{den_pos}
use Rattle.rational.proofs.OrderLemmas.{lt-times}
use Rattle.rational.proofs.FractionLemmas.{equal_by_parts}
use Rattle.frac128.specs.Fraction.{Fits}
use Rattle.frac128.proofs.PartLemmas.{kept, kept-part}

-- the order of two numbers and of their multiples
times_ranks : (x y : ℤ) (d : ℕ) (o : Ordering) → 0 < d → MatchOrdering o (x <ℤ y) (x ≡ y) (y <ℤ x) → MatchOrdering o ((x *ℤ pos d) <ℤ (y *ℤ pos d)) (x *ℤ pos d ≡ y *ℤ pos d) ((y *ℤ pos d) <ℤ (x *ℤ pos d))
times_ranks x y d Less p h = lt-times x y d p h
times_ranks x y d Equal p h = ap (λ z. z *ℤ pos d) h
times_ranks x y d Greater p h = lt-times y x d p h

-- numerators over one denominator are in the order of the values
cmp-times : (x y : ℤ) (d : ℕ) → 0 < d → int_cmp x y ≡ int_cmp (x *ℤ pos d) (y *ℤ pos d)
cmp-times x y d p = int_cmp_is (x *ℤ pos d) (y *ℤ pos d) (int_cmp x y) (times_ranks x y d (int_cmp x y) p (int_ranks x y))

-- the parts of two rationals, as the code has them
pub record Pair (a b : ℚ) (n d m e : ℤ) : Type 0 where
  pub left : Fits a
  pub right : Fits b
  pub num : n ≡ a.num
  pub den : d ≡ pos a.den
  pub other_num : m ≡ b.num
  pub other_den : e ≡ pos b.den

-- over one denominator the numerators decide
pub by_nums : (a b : ℚ) (n d m e : ℤ) (o : Ordering) → Pair a b n d m e → of_z w128 d ≡ of_z w128 e → o ≡ int_cmp (to_z w128 (of_z w128 n)) (to_z w128 (of_z w128 m)) → o ≡ cmp_ℚ a b
by_nums a b n d m e o k same is =
    let dens : a.den ≡ b.den = ap (of_z w128) (sym k.den) ∙ same ∙ ap (of_z w128) k.other_den in
    is ∙ ap₂ int_cmp (kept-part n a.num k.num k.left.num) (kept-part m b.num k.other_num k.right.num) ∙ cmp-times a.num b.num b.den (den_pos b) ∙ ap (λ x. int_cmp (a.num *ℤ pos b.den) (b.num *ℤ pos x)) (sym dens)

-- a product of two short parts fits
pub short_product : (n e : ℤ) → nat_abs n < 2 ^ 63 → nat_abs e < 2 ^ 63 → SFits w128 (n *ℤ e)
short_product n e h g = fits_signed_mul w128 n e (2 ^ 63) (2 ^ 63) (le_of_lt h) (le_of_lt g) (lit< tt)

-- the parts of both rationals are short
pub record Short (n d m e : ℤ) : Type 0 where
  pub num : nat_abs (kept n) < 2 ^ 63
  pub den : nat_abs (kept d) < 2 ^ 63
  pub other_num : nat_abs (kept m) < 2 ^ 63
  pub other_den : nat_abs (kept e) < 2 ^ 63

-- short parts are compared by their cross products
pub by_products : (a b : ℚ) (n d m e : ℤ) (o : Ordering) → Pair a b n d m e → Short n d m e → o ≡ int_cmp (kept (kept n *ℤ kept e)) (kept (kept m *ℤ kept d)) → o ≡ cmp_ℚ a b
by_products a b n d m e o k s is =
    is ∙ ap₂ int_cmp (to_z-of_z w128 (kept n *ℤ kept e) (short_product (kept n) (kept e) s.num s.other_den) ∙ ap₂ ◌*ℤ◌ (kept-part n a.num k.num k.left.num) (kept-part e (pos b.den) k.other_den k.right.den)) (to_z-of_z w128 (kept m *ℤ kept d) (short_product (kept m) (kept d) s.other_num s.den) ∙ ap₂ ◌*ℤ◌ (kept-part m b.num k.other_num k.right.num) (kept-part d (pos a.den) k.den k.left.den))

-- rationals with equal numerators are equal where their denominators are
pub den_test : (a b : ℚ) (n d m e : ℤ) → Pair a b n d m e → of_z w128 n ≡ of_z w128 m → (IsTrue (nat_eq (of_z w128 d) (of_z w128 e)) → a ≡ b) × (a ≡ b → IsTrue (nat_eq (of_z w128 d) (of_z w128 e)))
den_test a b n d m e k same =
    let nums : a.num ≡ b.num = sym (kept-part n a.num k.num k.left.num) ∙ ap (to_z w128) same ∙ kept-part m b.num k.other_num k.right.num in
    (λ t. equal_by_parts a b nums (ap (of_z w128) (sym k.den) ∙ (Decides-eqb (of_z w128 d) (of_z w128 e)).0 t ∙ ap (of_z w128) k.other_den), λ z. (Decides-eqb (of_z w128 d) (of_z w128 e)).1 (ap (of_z w128) k.den ∙ ap (λ (x : ℚ). x.den) z ∙ sym (ap (of_z w128) k.other_den)))
