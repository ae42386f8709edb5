-- Sums over profiles by their ranks, where the players' strategies have orders.
use Rattle.std.proofs.Common.{ℕ, zero, suc, ◌+◌, ◌*◌, ◌/◌, ◌%◌, ◌<◌, ◌≡◌, List, [], ◌∷◌, length, map, get_or, refl, sym, ap, ap₂, ◌∙◌, arith}
use Rattle.std.specs.List.{sum_by, range_with_len}
use Rattle.std.specs.List.Sorted.{IsPermutation}
use Rattle.std.proofs.lemmas.List.FromFn.{length-range_with_len, get_or-range_with_len}
use Rattle.std.proofs.lemmas.List.Sorted.{sum_by-IsPermutation}
use Rattle.std.proofs.lemmas.List.Sums.{sum_by-cons}
use Rattle.std.proofs.lemmas.Nat.{div-mul-add, mod-mul-add}
use Rattle.game_theory.specs.Profiles.{profile_count, number_of, strategies_at}
use Rattle.enumpure.proofs.TotalLemmas.{total, total-same, total-parts, total-exchange}
use Rattle.game_theory.specs.Ranks.{ranked}

-- the first term and the others
total-first : (n : ℕ) (f : ℕ → ℕ) → total (suc n) f ≡ f 0 + total n (λ a. f (suc a))
total-first zero f = omega arith
total-first (suc n) f = omega (arith, total-first n f)

-- a sum over the members of a list
total-members : (f : ℕ → ℕ) (xs : List ℕ) → total (length xs) (λ a. f (get_or xs a 0)) ≡ sum_by f xs
total-members f [] = refl
total-members f (x ∷ xs) = total-first (length xs) (λ a. f (get_or (x ∷ xs) a 0)) ∙ ap (λ v. f x + v) (total-members f xs) ∙ sym (sum_by-cons f x xs)

-- a list with the first numbers
abbrev pub HasNumbers : List ℕ → Type 0
HasNumbers order = IsPermutation (range_with_len 0 (length order)) order

-- a sum in the order of such a list
total-order : (f : ℕ → ℕ) (order : List ℕ) → HasNumbers order → total (length order) (λ a. f (get_or order a 0)) ≡ total (length order) f
total-order f order h =
    let numbers : List ℕ = range_with_len 0 (length order) in
    let long : length numbers ≡ length order = length-range_with_len 0 (length order) in
    total-members f order ∙ sum_by-IsPermutation f numbers order h ∙ sym (total-members f numbers) ∙ ap (λ n. total n (λ a. f (get_or numbers a 0))) long ∙ total-same (length order) (λ a. f (get_or numbers a 0)) f (λ a l. ap f (get_or-range_with_len 0 (length order) a 0 l ∙ omega arith))

-- such a list for each player
abbrev pub AllHaveNumbers : List (List ℕ) → Type 0
AllHaveNumbers [] = Unit {0}
AllHaveNumbers (order ∷ orders) = HasNumbers order × AllHaveNumbers orders

-- the number of the profile with a rank
abbrev rank_number : List (List ℕ) → ℕ → ℕ
rank_number orders r = number_of (map length orders) (strategies_at orders (ranked (map length orders) r))

-- a sum over the profiles by their ranks is the sum by their numbers
pub total-ordered : (orders : List (List ℕ)) (f : ℕ → ℕ) → AllHaveNumbers orders → total (profile_count (map length orders)) (λ r. f (number_of (map length orders) (strategies_at orders (ranked (map length orders) r)))) ≡ total (profile_count (map length orders)) f
total-ordered [] f h = refl
total-ordered (order ∷ orders) f h =
    total-parts n p (λ r. f (get_or order (r / p) 0 + n * rank_number orders (r % p))) ∙ total-same n _ _ (λ a l. part a (total-ordered orders (λ k. f (get_or order a 0 + n * k)) h.1)) ∙ total-order (λ a. total p (λ k. f (a + n * k))) order h.0 ∙ total-exchange n p (λ a k. f (a + n * k)) ∙ total-same p _ _ (λ k l. total-same n (λ a. f (a + n * k)) (λ a. f (k * n + a)) (λ a b. ap f (omega arith))) ∙ sym (total-parts p n f) ∙ ap (λ v. total v f) (omega arith)
  where
    n : ℕ
    n = length order

    p : ℕ
    p = profile_count (map length orders)

    place : (a q : ℕ) → q < p → f (get_or order ((a * p + q) / p) 0 + n * rank_number orders ((a * p + q) % p)) ≡ f (get_or order a 0 + n * rank_number orders q)
    place a q l = ap₂ (λ x y. f (get_or order x 0 + n * rank_number orders y)) (div-mul-add a p q l) (mod-mul-add a p q l)

    part : (a : ℕ) → total p (λ q. f (get_or order a 0 + n * rank_number orders q)) ≡ total p (λ k. f (get_or order a 0 + n * k)) → total p (λ q. f (get_or order ((a * p + q) / p) 0 + n * rank_number orders ((a * p + q) % p))) ≡ total p (λ k. f (get_or order a 0 + n * k))
    part a e = total-same p _ _ (λ q l. place a q l) ∙ e
