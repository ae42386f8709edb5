-- a product of 128 bits, by the halves of one factor
use Rattle.std.proofs.Common.{ℕ, ◌≡◌, ◌+◌, ◌*◌, ◌/◌, ◌%◌, ◌<◌, ◌^◌, arith, ap, div-add-mod'}

-- a product by the halves of one factor
pub by_halves : (n m : ℕ) → n / 18446744073709551616 * m * 18446744073709551616 + n % 18446744073709551616 * m ≡ n * m
by_halves n m =
    let e : (n / 18446744073709551616 * 18446744073709551616 + n % 18446744073709551616) * m ≡ n * m = ap (λ x. x * m) (div-add-mod' n 18446744073709551616) in
    omega (arith, e)

-- where the upper product leaves 64 bits, the whole leaves 128
pub wide_half : (n m : ℕ) → 18446744073709551615 < n / 18446744073709551616 * m → ¬ (n * m < 2 ^ 128)
wide_half n m h g = let e = by_halves n m in omega (arith, e)
