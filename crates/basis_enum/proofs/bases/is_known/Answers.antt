use Rattle.std.proofs.Common.{◌∙◌, sym}
use Rattle.basis_enum.proofs.SearchLemmas.{search_tells}
use Rattle.basis_enum.proofs.bases.is_known.Goals as goal

pub returns : goal.returns
returns c =
    let p = search_tells c.args.known.now c.args.basis c.binary_search.result c.requires c.binary_search.ensures.position in
    record { known = λ e. p.0 (sym c.is_ok.ensures.value ∙ e); new = λ e. p.1 (sym c.is_ok.ensures.value ∙ e) }
