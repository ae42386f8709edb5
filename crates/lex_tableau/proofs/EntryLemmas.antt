-- Entries and numbered variables, one more at a time
use Rattle.std.proofs.Common.{ℕ, suc, ◌<◌, ◌≤◌, ◌≡◌, ◌+◌, ◌*◌, List, get_or, sym, ap₂, ◌∙◌, arith, tests}
use Rattle.std.proofs.lemmas.Nat.{div-mul-add, mod-mul-add}
use Rattle.std.proofs.Math.Nat.{mul-le-mul_right}
use Rattle.rational.specs.Rational.{ℚ, zero_ℚ}
use Rattle.linear_systems.specs.Tableau.{Tableau}
use Rattle.lex_tableau.specs.Entries.{AreEntries, entry_of}

-- a row's entry
module _ (t : Tableau) (rows width : ℕ) (cells : List ℚ) (w : AreEntries t (width + 1) (rows * (width + 1)) cells) where
  pub entry_at : (i j : ℕ) → i < rows → j ≤ width → get_or cells (i * (width + 1) + j) zero_ℚ ≡ entry_of t i j
  entry_at i j hi hj =
      let up : suc i * (width + 1) ≤ rows * (width + 1) = mul-le-mul_right (width + 1) hi in
      w.same (i * (width + 1) + j) (omega (arith, up, hj)) ∙ ap₂ (entry_of t) (div-mul-add i (width + 1) j (omega (arith, hj))) (mod-mul-add i (width + 1) j (omega (arith, hj)))

  inner : (u : Tableau) (i j : ℕ) → j < u.width → entry_of u i j ≡ u.cell i j
  inner u i j l = grind (arith, tests)

  last : (u : Tableau) (i j : ℕ) → j ≡ u.width → entry_of u i j ≡ u.right i
  last u i j e = grind (arith, tests)

  pub cell_at : (i j : ℕ) → i < rows → j < width → width ≡ t.width → t.cell i j ≡ get_or cells (i * (width + 1) + j) zero_ℚ
  cell_at i j hi hj e = sym (entry_at i j hi (omega arith) ∙ inner t i j (omega (arith, e)))

  pub right_at : (i : ℕ) → i < rows → width ≡ t.width → t.right i ≡ get_or cells (i * (width + 1) + width) zero_ℚ
  right_at i hi e = sym (entry_at i width hi (omega arith) ∙ last t i width e)
