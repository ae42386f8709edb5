-- What a walk along the path keeps.
use Rattle.std.proofs.Common.{ℕ, suc, ◌<◌, ◌≤◌, ◌≡◌, ◌+◌, ◌^◌, List, [], ◌∷◌, length, arith}
use Rattle.linear_systems.specs.Tableau.{Tableau, pivot}
use Rattle.zero_sum_lp.proofs.ObjectiveGrowthLemmas.{IsLexicographicallyFeasible, Improves, Chain, path_step, step_grows, chain_more, chain_short}
use Rattle.rational.specs.Rational.{zero_ℚ, ◌<ℚ◌}
use Rattle.linear_systems.specs.Rows.{IsLexicographicRow, Alike}
use Rattle.zero_sum_lp.specs.Paths.{LinearProgram, IsFeasibleAndBounded}

-- after `steps` steps from `first`: the tableaux that were left, the last first, each with a less objective row
pub record IsUnderway (g : LinearProgram) (t : Tableau) (first pivots : ℕ) : Type 0 where
  pub path : IsLexicographicallyFeasible g.bound g.rated g.start t
  pub seen : List Tableau
  pub chain : Chain g.bound g.rated g.rated g.start (t ∷ seen)
  pub count : pivots ≡ length seen + first

pub underway_start : (g : LinearProgram) (t : Tableau) (n : ℕ) → IsLexicographicallyFeasible g.bound g.rated g.start t → IsUnderway g t n n
underway_start g t n p = record { path = p; seen = []; chain = (p.reached, (tt, tt)); count = omega arith }

pub underway_step : (g : LinearProgram) (t u : Tableau) (c r first pivots : ℕ) → IsFeasibleAndBounded g → IsUnderway g t first pivots → c < t.width → t.cell g.rated c <ℚ zero_ℚ → IsLexicographicRow g.rated g.start.basic t c r → Alike (pivot t r c) u → IsUnderway g u first (pivots + 1)
underway_step g t u c r first pivots p w hc neg l a =
    let i : Improves g.rated g.rated g.start.basic t c r = record { column = hc; negative = neg; lex_row = l } in
    let next : IsLexicographicallyFeasible g.bound g.rated g.start u = path_step g.bound g.rated g.rated g.start t u c r p.begins w.path i a in
    record {
      path = next;
      seen = t ∷ w.seen;
      chain = chain_more g.bound g.rated g.rated g.start t u w.seen w.chain next.reached (step_grows g.bound g.rated g.rated g.start t u c r p.begins (omega arith) p.objective w.path i a);
      count = (let e : pivots ≡ length w.seen + first = w.count in omega arith);
    }

-- so fewer steps were taken than there are sets of variables
pub underway_less : (g : LinearProgram) (t : Tableau) (first pivots : ℕ) → IsFeasibleAndBounded g → IsUnderway g t first pivots → pivots < 2 ^ g.bound + first
underway_less g t first pivots p w =
    let e : pivots ≡ length w.seen + first = w.count in
    let short : suc (length w.seen) ≤ 2 ^ g.bound = chain_short g.bound g.rated g.rated g.start (t ∷ w.seen) p.begins (omega arith) p.objective w.chain in
    omega arith
