use Rattle.std.proofs.Common.{◌∙◌, arith}
use Rattle.std.proofs.lemmas.List.{length-map}
use Rattle.std.proofs.lemmas.Result.{err_from_is_err_and}
use Rattle.basis_enum.specs.Vertices.{mark_of, vertex_list}
use Rattle.basis_enum.proofs.VertexCountLemmas.{vertices-few}
use Rattle.basis_enum.proofs.WalkLemmas.{walk_vertices, reached_stop}
use Rattle.basis_enum.proofs.enumeration.enumerate_with.Goals as goal

pub returns-clause-vertices : goal.returns-clause-vertices
returns-clause-vertices g c =
    walk_vertices c.args.system.now c.in_ok-walk.walk (vertex_list (record { bases = c.len.result; list = c.in_order.result })) c.requires.enumerable c.in_ok-walk.ensures.walk (c.len.ensures ∙ c.in_ok-walk.walk.known.ok.0) c.in_order.ensures

pub returns-clause-fewer : goal.returns-clause-fewer
returns-clause-fewer g c =
    let few = vertices-few c.args.system.now (vertex_list (record { bases = c.len.result; list = c.in_order.result })) c.in_ok-walk.ensures.walk.walk.valid c.requires.enumerable (returns-clause-vertices g c) in
    omega (arith, few, length-map c.in_order.result.items mark_of)

pub returns-in_err-walk-clause-vertices : goal.returns-in_err-walk-clause-vertices
returns-in_err-walk-clause-vertices g c =
    let p = err_from_is_err_and c.from_residual.result c.from_residual.ensures.1 in
    rw (p.1, p.2) (reached_stop c.args.system.now c.in_err-walk.field-0.0 c.in_err-walk.ensures.stop)
