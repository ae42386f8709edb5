use Rattle.std.proofs.Common.{◌∙◌, sym}
use Rattle.lex_tableau.specs.Rows.{tableau as fractions_of}
use Rattle.linear_systems.proofs.SolutionLemmas.{solution_elsewhere}
use Rattle.lex_tableau.proofs.TableauLemmas.{value_found}
use Rattle.basis_enum.proofs.BasicValueLemmas.{row_found}
use Rattle.basis_enum.proofs.marking.value.Goals as goal

pub returns-in-Some : goal.returns-in-Some
returns-in-Some c =
    let t = c.args.tableau.now in
    let row = row_found t c.args.rows.now c.args.variable _ c.requires.rows c.requires.above c.requires.most c.in-Some.is in
    c.right.ensures.value ∙ value_found t c.in-Some.row c.args.variable c.right.ensures.valid row.0 row.1

pub returns-in-None : goal.returns-in-None
returns-in-None c =
    let t = c.args.tableau.now in
    let none = row_found t c.args.rows.now c.args.variable _ c.requires.rows c.requires.above c.requires.most c.in-None.is in
    c.zero.ensures ∙ sym (solution_elsewhere (fractions_of t) c.args.variable none)
