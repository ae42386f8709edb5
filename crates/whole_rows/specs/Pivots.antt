-- The steps of a pivot on whole numbers, in order, and what it makes of each row.
use Rattle.std.specs.Prelude.{ℕ, ℤ, pos, negsuc, ◌-ℤ◌, ◌*ℤ◌, neg_ℤ, nat_abs, eqb, cond, List, [], ◌∷◌}
use Rattle.std.specs.List.{flat_map, range_with_len}
use Rattle.rational.specs.Gcd.{gcd, div_ℤ}
use Rattle.frac128.specs.Steps.{Step}
use Rattle.whole_rows.specs.Steps.{product_step, combination_steps}

-- n times the sign of p, which is 1 where p is 0
abbrev pub signed_by : ℤ → ℤ → ℤ
signed_by (pos p) n = n
signed_by (negsuc p) n = neg_ℤ n

-- of an entry p and a row's number k in its column: what the row is multiplied by
abbrev pub own_factor : ℤ → ℤ → ℤ
own_factor p k = div_ℤ (signed_by p p) (gcd (nat_abs p) (nat_abs k))

-- and the multiple of the pivot's row that is then taken away
abbrev pub other_factor : ℤ → ℤ → ℤ
other_factor p k = div_ℤ (signed_by p k) (gcd (nat_abs p) (nat_abs k))

-- the steps at one place of a row: b is the pivot's row, and c the place of the column
abbrev pub place_steps : (ℕ → ℤ) → (ℕ → ℤ) → ℕ → ℤ → ℤ → ℕ → List Step
place_steps row b c u v place =
    cond (eqb place 0) (product_step (row 0) u ∷ [])
    (cond (eqb place c) (product_step (b 0) v ∷ []) (combination_steps (row place) u (b place) v))

-- the steps at the first places of a row
abbrev pub steps_to : (ℕ → ℤ) → (ℕ → ℤ) → ℕ → ℤ → ℤ → ℕ → List Step
steps_to row b c u v count = flat_map (place_steps row b c u v) (range_with_len 0 count)

-- the steps of a row: none where its number in the column is 0
abbrev pub row_steps : ℕ → (ℕ → ℤ) → (ℕ → ℤ) → ℕ → List Step
row_steps size row b c =
    cond (eqb (nat_abs (row c)) 0) []
    (steps_to row b c (own_factor (b c) (row c)) (other_factor (b c) (row c)) size)

-- the steps of the first rows; row r takes none
abbrev pub pivot_steps : ℕ → (ℕ → ℕ → ℤ) → ℕ → ℕ → ℕ → List Step
pivot_steps size rows r c count =
    flat_map (λ i. cond (eqb i r) [] (row_steps size (rows i) (rows r) c)) (range_with_len 0 count)

-- the number at a place of a row before it is divided
abbrev pub place_number : (ℕ → ℤ) → (ℕ → ℤ) → ℕ → ℤ → ℤ → ℕ → ℤ
place_number row b c u v place =
    cond (eqb place 0) (row 0 *ℤ u)
    (cond (eqb place c) (neg_ℤ (b 0 *ℤ v)) ((row place *ℤ u) -ℤ (b place *ℤ v)))

-- the place whose number comes to a place of the pivot's row
abbrev pub exchanged : ℕ → ℕ → ℕ
exchanged c place = cond (eqb place 0) c (cond (eqb place c) 0 place)

-- the pivot's row afterwards
abbrev pub turned : (ℕ → ℤ) → ℕ → ℕ → ℤ
turned b c place = signed_by (b c) (b (exchanged c place))
