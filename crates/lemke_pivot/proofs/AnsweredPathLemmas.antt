-- The path of a problem has an end: the solution, or the first pivot with a step that does not fit.
use Rattle.std.proofs.Common.{ℕ, zero, suc, ◌+◌, ◌<◌, ◌^◌, ◌≡◌, ◌≢◌, inl, inr, Ok, Err, Some, length, map, refl, sym, subst, arith}
use Rattle.lists.specs.Listed.{IsIndexOf}
use Rattle.lists.proofs.DeniedLemmas.{holds_or_not}
use Rattle.rational.specs.Rational.{zero_ℚ}
use Rattle.rational.proofs.InverseLemmas.{ne_zero_of_pos}
use Rattle.linear_systems.specs.Rows.{basic_solution, IsLexicographicRow}
use Rattle.lex_tableau.specs.Pivots.{pivot_number}
use Rattle.lex_tableau.specs.Rows.{WholeTableau, tableau}
use Rattle.lex_tableau.specs.declared.unfit_pivot.UnfitPivot.{UnfitPivot}
use Rattle.lex_tableau.proofs.AnsweredPivotLemmas.{pivot-answered}
use Rattle.lemke_pivot.specs.AnsweredLaws.{EndsAreAnswered}
use Rattle.lemke_pivot.specs.Parts.{size_of}
use Rattle.lemke_pivot.specs.Paths.{EndsSolved, EndsUnfit, IsPathStart}
use Rattle.lemke_pivot.specs.ProblemPaths.{complement, w_of, z_of, z0_of}
use Rattle.lemke_pivot.proofs.KeptWalkLemmas.{OnWalk, path_of_numbers, row_rated, walk_begins, walk_bound, walk_next, walk_solved, walk_stops, z0_column, z0_entry}
use Rattle.lemke_pivot.proofs.KeyLemmas.{nonbasic_which}
use Rattle.lemke_pivot.proofs.PathEndLemmas.{valid_at}
use Rattle.lemke_pivot.proofs.PathStartLemmas.{path_start}
use Rattle.lemke_pivot.proofs.ProblemPathLemmas.{keys, least_row, leaving_row, next_is_out}

module _ (n r : ℕ) (m : WholeTableau) (start : IsPathStart n r m) where
  -- where z0 is not 0, the variable that is next has a column, and some row leaves
  walk_goes_on : (t : WholeTableau) (c now step : ℕ) → OnWalk n r m t c 0 now step → basic_solution (tableau t) (z0_of n) ≢ zero_ℚ → (column : ℕ) × (row : ℕ) × IsIndexOf t.nonbasics c (Some column) × IsLexicographicRow n w_of (tableau t) column row
  walk_goes_on t c now step o ne =
      let path = path_of_numbers n r m start.matrix start.right start.alike start.first.is_least.within o.earlier t c o.path in
      let next = next_is_out n start.matrix start.right r start.first (map tableau o.earlier) (tableau t) c path ne in
      let positive = keys n start.matrix start.right r start.first (map tableau o.earlier) (tableau t) c path in
      let column = nonbasic_which n start.matrix start.right (tableau t) positive.reached c next.0 (omega (arith, next.1)) next.2 in
      let leaves = leaving_row n start.matrix start.right r start.first (map tableau o.earlier) (tableau t) c column.0 start.excludes_rays path ne column.1 column.2 in
      (column.0, leaves.0, (column.1, column.2), leaves.1)

  module _ (endless : (t : WholeTableau) → ¬ (EndsSolved m n r t)) (all_fit : (stop : UnfitPivot) → ¬ (EndsUnfit m n r stop)) where
    -- without an end the path goes past its bound
    no_walk : (left : ℕ) (t : WholeTableau) (c now step : ℕ) → OnWalk n r m t c 0 now step → 2 ^ suc (suc (n + n)) < now + left → ⊥
    no_walk zero t c now step o past = let bound = walk_bound n r m start t c 0 now step o in omega (arith, bound, past)
    no_walk (suc left) t c now step o past =
        holds_or_not {A = basic_solution (tableau t) (z0_of n) ≡ zero_ℚ} (λ end. elim end [
          | inl z0 ↦ endless t (walk_solved n r m start t c 0 now step o z0)
          | inr ne ↦ (let next = walk_goes_on t c now step o ne in
              let column = next.0 in
              let row = next.1 in
              let leaves = next.3 in
              pivot-answered t row column (valid_at m n r o.earlier t c o.path) (subst (λ k. row < k) (sym o.rated) leaves.within) next.2.0 (ne_zero_of_pos ((tableau t).cell row column) leaves.positive) (λ pivot. elim pivot [
                | inl made ↦ no_walk left made.0 (complement n ((tableau t).basic row)) (now + 1) (pivot_number (suc (suc (length o.earlier))))
                    (walk_next n r m start t c 0 now step o ne column row next.2 leaves made.0 (complement n ((tableau t).basic row)) (now + 1) (pivot_number (suc (suc (length o.earlier)))) made.1 refl refl refl) (omega (arith, past))
                | inr unfit ↦ all_fit (record { number = pivot_number (suc (suc (length o.earlier))); entering = c; unfit = unfit.0 })
                    (walk_stops n r m start t c 0 now step o ne column row next.2 leaves (pivot_number (suc (suc (length o.earlier)))) unfit.0 refl unfit.1)
              ]))
        ])

    -- and it begins with the pivot by which z0 enters
    no_path : ⊥
    no_path =
        pivot-answered m r n start.valid (row_rated n r m start) (z0_column n r m start) (z0_entry n r m start) (λ pivot. elim pivot [
          | inl made ↦ no_walk (2 ^ suc (suc (n + n))) made.0 (z_of n r) 1 1 (walk_begins n r m start made.0 0 1 made.1.is_tableau made.1.pivot made.1.fits refl) (omega arith)
          | inr unfit ↦ all_fit (record { number = 1; entering = z0_of n; unfit = unfit.0 }) (inl (refl, refl, start.valid, unfit.1))
        ])

pub ends_answered : EndsAreAnswered
ends_answered p problem none =
    let first = least_row (size_of p) (tableau p.tableau).right (omega arith) in
    no_path (size_of p) first.0 p.tableau (path_start p problem first.0 first.1)
    (λ t ends. none (Ok (record { first = p.first; second = p.second; tableau = t })) (record { first = refl; second = refl; row = first.0; begins = first.1; path = ends }))
    (λ stop ends. none (Err stop) (record { row = first.0; begins = first.1; path = ends }))
