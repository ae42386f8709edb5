-- The path of a program has an end: an optimum, or the first pivot with a step that does not fit.
use Rattle.std.proofs.Common.{ℕ, zero, suc, ◌+◌, ◌<◌, ◌^◌, ◌⊎◌, inl, inr, List, Ok, Err, length, refl, sym, subst, subst₂, arith}
use Rattle.rational.proofs.InverseLemmas.{ne_zero_of_pos}
use Rattle.linear_systems.specs.Rows.{IsLexicographicRow}
use Rattle.linear_systems.proofs.LexRowLemmas.{lex_row_by}
use Rattle.lex_tableau.specs.Pivots.{pivot_number}
use Rattle.lex_tableau.specs.Ratio.{IsLeavingRow, variable_at}
use Rattle.lex_tableau.specs.Rows.{WholeTableau, IsTableau, tableau}
use Rattle.lex_tableau.specs.declared.unfit_pivot.UnfitPivot.{UnfitPivot}
use Rattle.lex_tableau.proofs.AnsweredPivotLemmas.{pivot-answered}
use Rattle.zero_sum_lp.specs.AnsweredLaws.{EndsAreAnswered}
use Rattle.zero_sum_lp.specs.ExactPaths.{EndsPath, IsProgramStart, IsUnfitPivot, LeadsTo, linear_program}
use Rattle.zero_sum_lp.specs.Paths.{IsEntering, IsOptimal}
use Rattle.zero_sum_lp.proofs.DeterminedPathLemmas.{after_goes_on}
use Rattle.zero_sum_lp.proofs.OptimumLemmas.{program_starts}
use Rattle.zero_sum_lp.proofs.PathEndLemmas.{valid_at}
use Rattle.zero_sum_lp.proofs.PathWalkLemmas.{kept, leads_after, short}

module _ (first : WholeTableau) (valid : IsTableau first) (starts : IsProgramStart first) where
  -- after some steps the path is at its end, or a column enters and a row leaves
  path_goes_on : (k : ℕ) (n : WholeTableau) → LeadsTo first k n → EndsPath first n ⊎ ((column : ℕ) × (row : ℕ) × IsEntering n.rated (tableau n) column × IsLeavingRow n column row)
  path_goes_on k n path =
      let same = kept first n k path in
      elim (after_goes_on (linear_program first) k (tableau n) starts.program (leads_after first n k starts path)) [
        | inl optimal ↦ inl (record { count = k; path = path; optimal = subst (λ m. IsOptimal m (tableau n)) (sym same.1) optimal })
        | inr found ↦ inr (
          found.0,
          found.1.1.0,
          subst (λ m. IsEntering m (tableau n) found.0) (sym same.1) found.1.0,
          subst₂ (λ (m : ℕ) (ss : List ℕ). IsLexicographicRow m (variable_at ss) (tableau n) found.0 found.1.1.0) (sym same.1) (sym same.0)
              (lex_row_by first.rated first.rated (tableau first).basic (variable_at first.starts) (tableau n) found.0 found.1.1.0 (λ i l. sym (starts.basics i l)) found.1.1.1),
        )
      ]

  module _ (endless : (n : WholeTableau) → ¬ (EndsPath first n)) (all_fit : (stop : UnfitPivot) → ¬ (IsUnfitPivot first stop)) where
    -- without an end there is a next tableau
    some_next : (k : ℕ) (n : WholeTableau) → LeadsTo first k n → ¬ ¬ ((m : WholeTableau) × LeadsTo first (suc k) m)
    some_next k n path none = elim (path_goes_on k n path) [
      | inl ends ↦ endless n ends
      | inr found ↦ (let column = found.0 in let row = found.1 in let enters = found.2 in let leaves = found.3 in
          pivot-answered n row column (valid_at first n k valid path) leaves.within enters.column (ne_zero_of_pos ((tableau n).cell row column) leaves.positive) (λ pivot. elim pivot [
            | inl made ↦ none (made.0, (n, (path, record { column = column; row = row; entering = enters; leaving = leaves; fitting = made.1 })))
            | inr unfit ↦ all_fit (record { number = pivot_number (suc k); entering = (tableau n).nonbasic column; unfit = unfit.0 })
                (record { count = k; before = n; path = path; column = column; row = row; enters = enters; leaves = leaves; variable = refl; is_number = refl; first_unfit = unfit.1 })
          ]))
    ]

    -- and so a tableau after each number of steps
    some_after : (k : ℕ) → ¬ ¬ ((n : WholeTableau) × LeadsTo first k n)
    some_after zero none = none (first, refl)
    some_after (suc k) none = some_after k (λ before. some_next k before.0 before.1 none)

    -- but a path is short
    no_path : ⊥
    no_path =
        let bound = 2 ^ suc (length first.basics + length first.nonbasics) in
        some_after bound (λ last. let less : bound < bound = short first last.0 bound starts last.1 in omega (arith, less))

pub ends_answered : EndsAreAnswered
ends_answered p program none =
    no_path p.tableau program.start.valid (program_starts p program)
    (λ n ends. none (Ok (record { first = p.first; second = p.second; tableau = n })) (record { first = refl; second = refl; path = ends }))
    (λ stop unfit. none (Err stop) unfit)
