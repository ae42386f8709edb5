-- Natural numbers.
use Rattle.std.proofs.Common.{◌≡◌, ◌≢◌, ◌==◌, ℕ, zero, suc, ◌*◌, ◌<◌, ◌≤◌, false, arith, ◌+◌, ◌/◌, ◌%◌, sym, ap, ◌∙◌, Less, Equal, Greater}
use Rattle.std.specs.Prelude.{nat_eq}
use Rattle.std.proofs.lemmas.Bool.{false_from_ne_true}
use Rattle.std.proofs.lemmas.Bool.Decides.{nat_tests, Decides-eqb}
use Rattle.std.specs.Ordering.{nat_cmp}
use Rattle.std.proofs.lemmas.Nat.{div-mul-add, mod-mul-add}
use Rattle.std.proofs.Math.Nat.{mul-le-mul_right}

-- what holds at 0 and at 1 holds below 2
pub below_two : (P : ℕ → Type 0) → P 0 → P 1 → (i : ℕ) → i < 2 → P i
below_two P p q zero h = p
below_two P p q (suc zero) h = q
below_two P p q (suc (suc i)) h = absurd (omega arith)

-- a product with a number below it has a positive factor
pub positive_factor : (n p k : ℕ) → k < n * p → 0 < n
positive_factor n p k h = grind arith

-- a number that is not 0 is positive
pub positive : (n : ℕ) → nat_eq n 0 ≡ false → 1 ≤ n
positive n e = grind (arith, nat_tests)

-- a positive number is not 0
pub not_zero : (n : ℕ) → 1 ≤ n → nat_eq n 0 ≡ false
not_zero n h = grind (arith, nat_tests)

-- numbers that differ are told apart
pub unequal : (a b : ℕ) → a ≢ b → (a == b) ≡ false
unequal a b h = false_from_ne_true (a == b) (λ e. h ((Decides-eqb a b).0 e))

-- ---- comparisons
pub nat_cmp-less : (a b : ℕ) → a < b → nat_cmp a b ≡ Less
nat_cmp-less a b l = grind (arith, nat_tests)

pub nat_cmp-more : (a b : ℕ) → b < a → nat_cmp a b ≡ Greater
nat_cmp-more a b l = grind (arith, nat_tests)

pub nat_cmp-same : (a b : ℕ) → a ≡ b → nat_cmp a b ≡ Equal
nat_cmp-same a b e = grind (arith, nat_tests)

-- ---- places in rows
-- two places are the same only in one row and one column
pub place-tells : (columns row column other next : ℕ) → column < columns → next < columns → row * columns + column ≡ other * columns + next → (row ≡ other) × (column ≡ next)
place-tells columns row column other next h l e =
    (sym (div-mul-add row columns column h) ∙ ap (λ n. n / columns) e ∙ div-mul-add other columns next l, sym (mod-mul-add row columns column h) ∙ ap (λ n. n % columns) e ∙ mod-mul-add other columns next l)

-- a place of a row is a place of all rows
pub place-inside : (rows columns row column : ℕ) → row < rows → column < columns → row * columns + column < rows * columns
place-inside rows columns row column h l = let room : suc row * columns ≤ rows * columns = mul-le-mul_right columns h in omega (arith, room)

-- more than a quotient of a limit is too many
pub above_quotient : (limit size count : ℕ) → 0 < size → limit / size < count → limit < count * size
above_quotient limit size count positive more = let room : (limit / size + 1) * size ≤ count * size = mul-le-mul_right size (omega arith) in omega arith
