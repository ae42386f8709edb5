use Rattle.std.proofs.Common.{◌≡◌, ◌∙◌, ◌++◌, ◌∷◌, [], List, length, option_to_list, ap, inl, refl, sym, subst, subst₂, arith}
use Rattle.std.proofs.lemmas.Result.{err_from_is_err_and}
use Rattle.std.specs.List.Sorted.{IsStrictlyIncreasing}
use Rattle.basis_enum.specs.declared.vertex.Vertex.{Vertex}
use Rattle.basis_enum.specs.Bases.{AreVariables, basis_of}
use Rattle.basis_enum.specs.Next.{AreNewPivots}
use Rattle.basis_enum.proofs.LevelPivotLemmas.{found_small, new_pivots_are}
use Rattle.basis_enum.proofs.WalkLemmas.{start_stop, system_variables, first_ready, first_numbered, first_basis, first_found, first_all_ready, walk_start}
use Rattle.basis_enum.proofs.walk.start.Goals as goal

pub returns-in_err-tableau-clause-stop : goal.returns-in_err-tableau-clause-stop
returns-in_err-tableau-clause-stop g c =
    let p = err_from_is_err_and c.from_residual.result c.from_residual.ensures.1 in
    rw (p.1, p.2) (start_stop c.args.system.now c.in_err-tableau.field-0.0 c.in_err-tableau.ensures)

pub basis-basis-requires : goal.basis-basis-requires
basis-basis-requires g c = subst AreVariables (sym c.nonbasics.ensures.value) (system_variables c.args.system.now c.nonbasics.ensures.valid c.requires.enumerable)

pub found_from-requires-clause-numbered : goal.found_from-requires-clause-numbered
found_from-requires-clause-numbered g c = first_numbered c.args.system.now c.in_ok-tableau.tableau c.nonbasics.ensures.valid c.requires.enumerable c.in_ok-tableau.ensures.2

pub found_from-requires-clause-ready : goal.found_from-requires-clause-ready
found_from-requires-clause-ready g c = first_ready c.args.system.now c.in_ok-tableau.tableau c.nonbasics.ensures.valid c.requires.enumerable c.in_ok-tableau.ensures.2

pub found_from-requires-clause-basis : goal.found_from-requires-clause-basis
found_from-requires-clause-basis g c = c.basis-basis.ensures ∙ ap basis_of c.nonbasics.ensures.value ∙ first_basis c.args.system.now c.in_ok-tableau.tableau c.in_ok-tableau.ensures.2

pub found_from-requires-clause-known : goal.found_from-requires-clause-known
found_from-requires-clause-known g c =
    subst IsStrictlyIncreasing (sym (c.as_slice.ensures.value ∙ c.in_ok-known.ensures.items)) (λ k h. absurd (omega arith))

pub next_pivots-next-requires : goal.next_pivots-next-requires
next_pivots-next-requires g c =
    let s = c.args.system.now in
    let t = c.in_ok-tableau.tableau in
    let ready = first_ready s t c.nonbasics.ensures.valid c.requires.enumerable c.in_ok-tableau.ensures.2 in
    found_small (t ∷ []) c.as_slice.result.now c.in_ok-findings.findings.found.items (first_all_ready t ready) (omega arith)
    (first_found t c.as_slice.result.now c.in_ok-findings.findings.found.items c.in_ok-findings.ensures.found)

pub returns-clause-walk : goal.returns-clause-walk
returns-clause-walk g c =
    let vertices : c.add_vertex.new.vertices.items ≡ option_to_list c.in_ok-findings.findings.vertex = ◌∙◌ {A = List Vertex} c.in_ok-add_vertex.ensures (ap (λ xs. xs ++ option_to_list c.in_ok-findings.findings.vertex) c.new-vertices.ensures.items) in
    walk_start c.args.system.now c.in_ok-tableau.tableau (record { level = c.in_ok-level.level; known = c.in_ok-known.known; vertices = c.add_vertex.new.vertices; spent = c.in_ok-new.field-0 }) c.in_ok-findings.findings.vertex c.nonbasics.ensures.valid c.in_ok-tableau.ensures
    c.in_ok-level.ensures.items
    (c.in_ok-known.ensures.items ∙ ap (λ b. b ∷ []) (c.basis-basis.ensures ∙ ap basis_of c.nonbasics.ensures.value))
    vertices
    c.in_ok-findings.ensures.vertex

pub returns-clause-next : goal.returns-clause-next
returns-clause-next g c =
    let s = c.args.system.now in
    let t = c.in_ok-tableau.tableau in
    let ready = first_ready s t c.nonbasics.ensures.valid c.requires.enumerable c.in_ok-tableau.ensures.2 in
    subst₂ (λ level known. AreNewPivots level known c.next_pivots-next.result.items) (sym c.in_ok-level.ensures.items) c.as_slice.ensures.value
    (new_pivots_are (t ∷ []) c.as_slice.result.now c.in_ok-findings.findings.found.items c.next_pivots-next.result.items (first_all_ready t ready) (omega arith)
    (first_found t c.as_slice.result.now c.in_ok-findings.findings.found.items c.in_ok-findings.ensures.found) c.next_pivots-next.ensures)

pub returns-in_err-known-clause-stop : goal.returns-in_err-known-clause-stop
returns-in_err-known-clause-stop g c =
    let p = err_from_is_err_and c.from_residual-in_err-known.result c.from_residual-in_err-known.ensures.1 in
    rw (p.1, p.2) (inl refl)

pub returns-in_err-findings-clause-stop : goal.returns-in_err-findings-clause-stop
returns-in_err-findings-clause-stop g c =
    let p = err_from_is_err_and c.from_residual-in_err-findings.result c.from_residual-in_err-findings.ensures.1 in
    rw (p.1, p.2) (inl refl)

pub returns-in_err-level-clause-stop : goal.returns-in_err-level-clause-stop
returns-in_err-level-clause-stop g c =
    let p = err_from_is_err_and c.from_residual-in_err-level.result c.from_residual-in_err-level.ensures.1 in
    rw (p.1, p.2) (inl refl)

pub returns-in_err-add_vertex-clause-stop : goal.returns-in_err-add_vertex-clause-stop
returns-in_err-add_vertex-clause-stop g c =
    let p = err_from_is_err_and c.from_residual-in_err-add_vertex.result c.from_residual-in_err-add_vertex.ensures.1 in
    rw (p.1, p.2) (inl refl)

pub returns-in_err-new-clause-stop : goal.returns-in_err-new-clause-stop
returns-in_err-new-clause-stop g c =
    let p = err_from_is_err_and c.from_residual-in_err-new.result c.from_residual-in_err-new.ensures.1 in
    rw (p.1, p.2) (inl refl)

pub returns-clause-one : goal.returns-clause-one
returns-clause-one g c = ap length c.in_ok-known.ensures.items
