use Rattle.std.proofs.Common.{refl, sym, subst}
use Rattle.std.proofs.lemmas.Result.{err_from_is_err_and}
use Rattle.lex_tableau.specs.Rows.{WholeTableau, tableau}
use Rattle.lemke_pivot.specs.Parts.{Problem, size_for}
use Rattle.lemke_pivot.specs.ProblemPaths.{IsLeastRow}
use Rattle.lemke_pivot.specs.Paths.{IsPathStart, EndsSolved, EndsUnfit, LeadsTo}
use Rattle.lemke_pivot.specs.Ends.{IsSolutionOf, IsUnfitPivot}
use Rattle.lemke_pivot.proofs.PathStartLemmas.{path_start}
use Rattle.lemke_pivot.proofs.lcp.Lcp.solve.Goals as goal

pub walk-requires : goal.walk-requires
walk-requires g c =
    let i = c.self.inside in let p : Problem = record { first = i.first; second = i.second; tableau = i.work } in
    let l : IsLeastRow (size_for i.first i.second) (tableau i.work).right c.least_row-row.result =
    subst (λ k. IsLeastRow k (tableau i.work).right c.least_row-row.result) c.self.invariant.1 (subst (λ (m : WholeTableau). IsLeastRow i.size (tableau m).right c.least_row-row.result) c.now.ensures.value c.least_row-row.ensures.least) in
    record { start = subst (λ k. IsPathStart k c.least_row-row.result i.work) (sym c.self.invariant.1) (path_start p c.self.invariant.0 c.least_row-row.result l) }

pub returns-in_err-walk-clause-end : goal.returns-in_err-walk-clause-end
returns-in_err-walk-clause-end g c =
    let i = c.self.inside in
    let stop = c.in_err-walk.field-0.0 in
    let l : IsLeastRow (size_for i.first i.second) (tableau i.work).right c.least_row-row.result =
    subst (λ k. IsLeastRow k (tableau i.work).right c.least_row-row.result) c.self.invariant.1 (subst (λ (m : WholeTableau). IsLeastRow i.size (tableau m).right c.least_row-row.result) c.now.ensures.value c.least_row-row.ensures.least) in
    let e : EndsUnfit i.work (size_for i.first i.second) c.least_row-row.result stop =
    subst (λ k. EndsUnfit i.work k c.least_row-row.result stop) c.self.invariant.1 c.in_err-walk.ensures.unfit in
    let p = err_from_is_err_and c.from_residual.result c.from_residual.ensures.1 in
    rw (p.1, p.2) (subst (λ (q : Problem). IsUnfitPivot q stop) c.self.view_is (record { row = c.least_row-row.result; begins = l; path = e }))

pub returns-clause-end : goal.returns-clause-end
returns-clause-end g c =
    let i = c.self.inside in
    let l : IsLeastRow (size_for i.first i.second) (tableau i.work).right c.least_row-row.result =
    subst (λ k. IsLeastRow k (tableau i.work).right c.least_row-row.result) c.self.invariant.1 (subst (λ (m : WholeTableau). IsLeastRow i.size (tableau m).right c.least_row-row.result) c.now.ensures.value c.least_row-row.ensures.least) in
    let e : EndsSolved i.work (size_for i.first i.second) c.least_row-row.result c.walk.new.work = subst (λ k. EndsSolved i.work k c.least_row-row.result c.walk.new.work) c.self.invariant.1 c.in_ok-walk.ensures.solved in
    subst (λ (q : Problem). IsSolutionOf q (record { first = i.first; second = i.second; tableau = c.walk.new.work })) c.self.view_is (record { first = refl; second = refl; row = c.least_row-row.result; begins = l; path = e })

pub returns-clause-path : goal.returns-clause-path
returns-clause-path g c =
    let i = c.self.inside in
    let way = c.in_ok-walk.ensures.path in
    let to : LeadsTo i.work (size_for i.first i.second) c.least_row-row.result way.0 c.walk.new.work = subst (λ k. LeadsTo i.work k c.least_row-row.result way.0 c.walk.new.work) c.self.invariant.1 way.2 in
    (c.least_row-row.result, way.0, way.1, subst (λ (q : Problem). LeadsTo q.tableau (size_for q.first q.second) c.least_row-row.result way.0 c.walk.new.work) c.self.view_is to)
