use Rattle.std.proofs.Common.{suc, ◌≡◌, ◌+◌, length, get_or, List, ℕ, ◌≢◌, map, ap, ap₂, ◌∙◌, subst, sym}
use Rattle.std.specs.List.{All, Any}
use Rattle.rational.specs.Rational.{zero_ℚ}
use Rattle.lex_tableau.specs.Rows.{tableau as fractions_of}
use Rattle.linear_systems.specs.Rows.{basic_solution}
use Rattle.linear_systems.specs.Vertices.{IsZeroWord}
use Rattle.basis_enum.specs.Marks.{AreUpTo}
use Rattle.basis_enum.specs.Systems.{most_variables}
use Rattle.basis_enum.proofs.BasicValueLemmas.{up_to_most}
use Rattle.basis_enum.proofs.VertexMarkLemmas.{nonbasics_numbered, vertex_is, vertex_none}
use Rattle.basis_enum.proofs.marking.vertex_of.Goals as goal

pub values-requires-clause-basics : goal.values-requires-clause-basics
values-requires-clause-basics c = up_to_most _ _ c.requires.enumerable.few c.requires.numbered

pub values-requires-clause-variables : goal.values-requires-clause-variables
values-requires-clause-variables c =
    subst (AreUpTo most_variables) (sym c.nonbasics.ensures.value) (up_to_most _ _ c.requires.enumerable.few (nonbasics_numbered c.args.system.now c.requires.enumerable))

pub returns : goal.returns
returns c =
    let s = c.args.system.now in
    let t = c.args.tableau.now in
    let count = ap₂ (λ (xs ys : List ℕ). length xs + length ys) c.basics.ensures.value c.nonbasics-2.ensures.value in
    vertex_is s t (record { mask = c.words-mask.result; point = c.in_ok-point.point })
    c.mask.result
    (subst (λ n. IsZeroWord n (λ l. basic_solution (fractions_of t) (suc l)) c.mask.result) count c.mask.ensures)
    (ap (λ w. get_or w 0 0) c.words-mask.ensures) (ap (λ w. get_or w 1 0) c.words-mask.ensures)
    (c.in_ok-point.ensures ∙ ap (map (basic_solution (fractions_of t))) c.nonbasics.ensures.value)
    (subst (Any (λ q. q ≢ zero_ℚ)) c.as_slice.ensures.value c.if-not-is_nonzero.ensures)

pub returns-then-not-is_nonzero : goal.returns-then-not-is_nonzero
returns-then-not-is_nonzero c =
    let s = c.args.system.now in
    let t = c.args.tableau.now in
    vertex_none s t c.in_ok-point.point.items
    (c.in_ok-point.ensures ∙ ap (map (basic_solution (fractions_of t))) c.nonbasics.ensures.value)
    (subst (All (λ q. q ≡ zero_ℚ)) c.as_slice.ensures.value c.if-not-is_nonzero.ensures)
