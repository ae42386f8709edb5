use Rattle.std.proofs.Common.{ℕ, ◌+◌, List, ◌++◌, codes, sym, ap₂, ◌∙◌, subst}
use Rattle.std.proofs.lemmas.List.{append_assoc}
use Rattle.std.specs.Fmt.{HasWritten, decimal}
use Rattle.refusals.proofs.site.SiteDisplay.fmt.Goals as goal

pub returns-in-PolytopeStart-clause-writes : goal.returns-in-PolytopeStart-clause-writes
returns-in-PolytopeStart-clause-writes g c = λ plain ok.
    let written = λ (text : List ℕ). HasWritten g.W.Write.write_str_gives c.args.f.now (codes "polytope " ++ text) c.write-in-PolytopeStart.new.self in
    let same =
    ap₂ (λ polytope row. decimal polytope ++ (codes " start row " ++ decimal row)) c.from_one-polytope.ensures c.from_one-row.ensures
    ∙ sym (append_assoc (decimal (c.in-PolytopeStart.polytope + 1)) (codes " start row ") (decimal (c.in-PolytopeStart.row + 1))) in
    rw c.in-PolytopeStart.is (subst written same (c.write-in-PolytopeStart.ensures.writes plain ok))
