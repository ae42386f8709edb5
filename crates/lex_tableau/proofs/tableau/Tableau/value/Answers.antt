use Rattle.std.proofs.Common.{◌∙◌, ◌<◌, ◌≡◌, ◌≢◌, ℕ, List, length, get_or, arith, ap, sym, subst}
use Rattle.std.proofs.lemmas.List.{get_or_default}
use Rattle.linear_systems.proofs.SolutionLemmas.{solution_elsewhere}
use Rattle.lex_tableau.specs.Rows.{WholeTableau, tableau}
use Rattle.lex_tableau.proofs.TableauLemmas.{value_found}
use Rattle.lex_tableau.proofs.tableau.Tableau.value.Goals as goal

pub returns-then-index-variable-clause-value : goal.returns-then-index-variable-clause-value
returns-then-index-variable-clause-value c =
    let items = c.self.inside.basics.items in
    let row = c.loop-row.row in
    let basics_is : items ≡ c.args.self.now.basics = ap (λ (n : WholeTableau). n.basics) c.self.view_is in
    let within : row < length items = omega (arith, c.len-row-end.ensures, c.self.inside.basics.ok.0) in
    c.right.ensures.value
    ∙ value_found c.args.self.now row c.args.variable c.right.ensures.valid (subst (λ (xs : List ℕ). row < length xs) basics_is within)
    (subst (λ (xs : List ℕ). get_or xs row 0 ≡ c.args.variable) basics_is (sym (c.index.ensures ∙ get_or_default items row c.index.result.now 0 within) ∙ c.if-index-variable.true))

pub returns-clause-value : goal.returns-clause-value
returns-clause-value c =
    let basics_is : c.self.inside.basics.items ≡ c.args.self.now.basics = ap (λ (n : WholeTableau). n.basics) c.self.view_is in
    c.zero.ensures
    ∙ sym (solution_elsewhere (tableau c.args.self.now) c.args.variable
    (subst (λ (xs : List ℕ). (i : ℕ) → i < length xs → get_or xs i 0 ≢ c.args.variable) basics_is
    (λ i h. c.loop-row.invariant i (omega (arith, h, c.len-row-end.ensures, c.self.inside.basics.ok.0)))))
