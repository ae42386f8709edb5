-- The payoffs of the table over the kept strategies, profile after profile.
use Rattle.std.proofs.Common.{ℕ, ◌+◌, ◌*◌, ◌<◌, ◌≡◌, inl, inr, List, [], ◌∷◌, ◌++◌, length, get_or, sym, ap, ◌∙◌, subst, arith}
use Rattle.std.proofs.lemmas.Bool.{cases_lt}
use Rattle.std.proofs.lemmas.List.{get_or_append_left, get_or_push, length_push}
use Rattle.std.proofs.Math.Nat.{mul_comm}
use native.Mathlib.Nat as N
use Rattle.lists.proofs.NumberLemmas.{below_two}
use Rattle.rational.specs.Rational.{ℚ, zero_ℚ}
use Rattle.game_theory.specs.Profiles.{Game, number_of, profile_at, strategies_at}
use Rattle.game_theory.proofs.ProfileNumberLemmas.{profile_at-number_of}
use Rattle.extreme_equilibria.specs.KeptTable.{kept_table}

-- the payoffs of one more profile
pub cells-next : (u : ℕ → ℕ → ℚ) (n : ℕ) (xs new : List ℚ) (a b : ℚ) → length xs ≡ n * 2 → ((i k : ℕ) → i < 2 → k < n → get_or xs (k * 2 + i) zero_ℚ ≡ u i k)
    → new ≡ (xs ++ a ∷ []) ++ b ∷ [] → a ≡ u 0 n → b ≡ u 1 n → (i k : ℕ) → i < 2 → k < n + 1 → get_or new (k * 2 + i) zero_ℚ ≡ u i k
cells-next u n xs new a b long before is first second i k l h = ap (λ ys. get_or ys (k * 2 + i) zero_ℚ) is ∙ elim (cases_lt k n) [
  | inl earlier ↦ get_or_append_left (xs ++ a ∷ []) (b ∷ []) zero_ℚ (k * 2 + i) (omega (arith, length_push xs a)) ∙ get_or_append_left xs (a ∷ []) zero_ℚ (k * 2 + i) (omega arith) ∙ before i k l earlier
  | inr last ↦ let e : n ≡ k = omega arith in subst (λ m. get_or ((xs ++ a ∷ []) ++ b ∷ []) (m * 2 + i) zero_ℚ ≡ u i m) e (below_two (λ i. get_or ((xs ++ a ∷ []) ++ b ∷ []) (n * 2 + i) zero_ℚ ≡ u i n) one two i l)
]
  where
    one : get_or ((xs ++ a ∷ []) ++ b ∷ []) (n * 2 + 0) zero_ℚ ≡ u 0 n
    one = get_or_append_left (xs ++ a ∷ []) (b ∷ []) zero_ℚ (n * 2 + 0) (omega (arith, length_push xs a)) ∙ get_or_push xs a zero_ℚ (n * 2 + 0) (omega arith) ∙ first

    two : get_or ((xs ++ a ∷ []) ++ b ∷ []) (n * 2 + 1) zero_ℚ ≡ u 1 n
    two = get_or_push (xs ++ a ∷ []) b zero_ℚ (n * 2 + 1) (omega (arith, length_push xs a)) ∙ second

-- what the profile of a row and a column pays
pub pays-cell : (g : Game) (first second : List ℕ) (i row column : ℕ) → row < length first → column < length second
    → g.pays i (number_of g.strategies (get_or first row 0 ∷ get_or second column 0 ∷ [])) ≡ (kept_table g (first ∷ second ∷ [])).pays i (column * length first + row)
pays-cell g first second i row column r l =
    let m = length first in
    let n = length second in
    let number : row + m * (column + n * 0) ≡ column * m + row = ap (λ x. row + m * x) (ap (λ x. column + x) (N.mul-zero n) ∙ N.add-zero column) ∙ ap (λ x. row + x) (mul_comm m column) ∙ omega arith in
    let profile : profile_at (m ∷ n ∷ []) (column * m + row) ≡ row ∷ column ∷ [] = subst (λ k. profile_at (m ∷ n ∷ []) k ≡ row ∷ column ∷ []) number (profile_at-number_of (m ∷ n ∷ []) (row ∷ column ∷ []) (r, (l, tt))) in
    ap (λ x. g.pays i (number_of g.strategies (strategies_at (first ∷ second ∷ []) x))) (sym profile)
