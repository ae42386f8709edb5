-- How a sequence form is stored as numbers and lists.
use Rattle.std.specs.Prelude.{ℕ, List, refl}
use Rattle.std.specs.Coded.{Coded, code_by, coded×, coded_ℕ, coded_list}
use Rattle.rational.specs.Rational.{ℚ}
use Rattle.rational.proofs.CodeLemmas.{code_ℚ}
use Rattle.sequence_data.specs.declared.types.Cell.{Cell}
use Rattle.sequence_data.specs.declared.types.Leaf.{Leaf}
use Rattle.sequence_data.specs.declared.types.SetRow.{SetRow}
use Rattle.sequence_data.specs.Data.{FormData, SideData}

-- a set is stored as its numbers
abbrev pub code_of_row : Coded SetRow
code_of_row =
    code_by (ℕ × (ℕ × ℕ)) (coded× coded_ℕ (coded× coded_ℕ coded_ℕ))
    (λ r. (r.before, (r.first, r.count)))
    (λ p. record { before = p.0; first = p.1.0; count = p.1.1 }) (λ _. refl)

-- a side as its number of sequences and its sets
abbrev pub code_of_side : Coded SideData
code_of_side =
    code_by (ℕ × List SetRow) (coded× coded_ℕ (coded_list code_of_row)) (λ s. (s.sequences, s.sets))
    (λ p. record { sequences = p.0; sets = p.1 }) (λ _. refl)

-- a leaf as its numbers
abbrev pub code_of_leaf : Coded Leaf
code_of_leaf =
    code_by (ℕ × (ℕ × (ℕ × (ℚ × (ℚ × ℚ)))))
    (coded× coded_ℕ (coded× coded_ℕ (coded× coded_ℕ (coded× code_ℚ (coded× code_ℚ code_ℚ)))))
    (λ l. (l.place, (l.row, (l.column, (l.chance, (l.one, l.two))))))
    (λ p. record {
      place = p.0;
      row = p.1.0;
      column = p.1.1.0;
      chance = p.1.1.1.0;
      one = p.1.1.1.1.0;
      two = p.1.1.1.1.1;
    }) (λ _. refl)

-- a cell as its numbers
abbrev pub code_of_cell : Coded Cell
code_of_cell =
    code_by (ℕ × (ℕ × (ℚ × (ℚ × ℚ))))
    (coded× coded_ℕ (coded× coded_ℕ (coded× code_ℚ (coded× code_ℚ code_ℚ))))
    (λ c. (c.row, (c.column, (c.weight, (c.one, c.two)))))
    (λ p. record { row = p.0; column = p.1.0; weight = p.1.1.0; one = p.1.1.1.0; two = p.1.1.1.1 })
    (λ _. refl)

-- a form as its parts
abbrev pub code_of_form : Coded FormData
code_of_form =
    code_by (SideData × (SideData × (List Leaf × (List Cell × (ℚ × (ℚ × ℚ))))))
    (coded× code_of_side
    (coded× code_of_side
    (coded× (coded_list code_of_leaf)
    (coded× (coded_list code_of_cell) (coded× code_ℚ (coded× code_ℚ code_ℚ))))))
    (λ f. (
      f.first,
      (f.second, (f.leaves, (f.cells, (f.greatest_one, (f.greatest_two, f.least_one))))),
    ))
    (λ p. record {
      first = p.0;
      second = p.1.0;
      leaves = p.1.1.0;
      cells = p.1.1.1.0;
      greatest_one = p.1.1.1.1.0;
      greatest_two = p.1.1.1.1.1.0;
      least_one = p.1.1.1.1.1.1;
    })
    (λ _. refl)
