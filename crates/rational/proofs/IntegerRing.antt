-- The integers are a commutative ring.
use Rattle.std.proofs.Common.{◌≡◌, ◌+◌, ◌*◌, ℤ, pos, negsuc, ◌+ℤ◌, ◌*ℤ◌, neg_ℤ, arith, ap}
use borrow.Author.Differences.{up, down, same_in, product_is, sum_is_lem}
use lib.IntN.{+ℤ_assoc, +ℤ_comm, +ℤ_idr, +ℤ_invr, *ℤ_comm}
use Rattle.rational.proofs.CommutativeRing.{CommutativeRing}

-- an integer z is read as `up z - down z`: what this makes of a product
pub up-mul : (a b : ℤ) → up (a *ℤ b) ≡ up a * up b + down a * down b
up-mul a b = (product_is a b).0

-- the other part of a product
pub down-mul : (a b : ℤ) → down (a *ℤ b) ≡ up a * down b + down a * up b
down-mul a b = (product_is a b).1

-- products of integers may be bracketed anyhow
pub *ℤ_assoc : (a b c : ℤ) → (a *ℤ b) *ℤ c ≡ a *ℤ (b *ℤ c)
*ℤ_assoc a b c = same_in ((a *ℤ b) *ℤ c) (a *ℤ (b *ℤ c)) (simp (up-mul, down-mul) (omega arith))

-- an integer times a sum
pub *ℤ-add : (a b c : ℤ) → a *ℤ (b +ℤ c) ≡ (a *ℤ b) +ℤ (a *ℤ c)
*ℤ-add a b c =
    let h = sum_is_lem b c in
    same_in (a *ℤ (b +ℤ c)) ((a *ℤ b) +ℤ (a *ℤ c)) (omega (arith, up-mul a (b +ℤ c), down-mul a (b +ℤ c), up-mul a b, down-mul a b, up-mul a c, down-mul a c, sum_is_lem (a *ℤ b) (a *ℤ c), ap (λ t. up a * t) h, ap (λ t. down a * t) h))

-- an integer times 1
pub *ℤ_one : (a : ℤ) → a *ℤ pos 1 ≡ a
*ℤ_one (pos n) = ap pos (omega arith)
*ℤ_one (negsuc n) = same_in (negsuc n *ℤ pos 1) (negsuc n) (omega (arith, up-mul (negsuc n) (pos 1), down-mul (negsuc n) (pos 1)))

-- the ring of integers, for `ring` and `combine`
abbrev pub integer_ring : CommutativeRing
integer_ring = record {
  carrier = ℤ;
  ◌⊕◌ = ◌+ℤ◌;
  ◌⊗◌ = ◌*ℤ◌;
  neg = neg_ℤ;
  𝟘 = pos 0;
  𝟙 = pos 1;
  add_assoc = +ℤ_assoc;
  add_comm = +ℤ_comm;
  add-zero = +ℤ_idr;
  add-neg = +ℤ_invr;
  mul_assoc = *ℤ_assoc;
  mul_comm = *ℤ_comm;
  mul-one = *ℤ_one;
  mul-add = *ℤ-add;
}
