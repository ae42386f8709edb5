use Rattle.std.proofs.Common.{List, ◌∙◌, map, ap, sym, subst}
use Rattle.rational.specs.Rational.{ℚ}
use Rattle.enummixed.specs.ExtremeText.{IsExtremeEquilibriaText}
use Rattle.enummixed.specs.Pairs.{pairs_of}
use Rattle.enummixed.proofs.VertexPairLemmas.{sorted-text, within-weaker}
use Rattle.enummixed.proofs.listing.text.Goals as goal

pub returns : goal.returns
returns c = λ game h.
    let firsts : List (List ℚ) = map (λ v. v.items) c.as_slice-firsts.result.now in
    let seconds : List (List ℚ) = map (λ v. v.items) c.as_slice-seconds.result.now in
    within-weaker _ (IsExtremeEquilibriaText game) (λ text t. subst (IsExtremeEquilibriaText game) (sym t.is_text) (sorted-text game (pairs_of c.args.extreme) h firsts seconds t.sorted (ap (map (λ v. v.items)) c.as_slice-firsts.ensures.value ∙ c.requires.firsts) (ap (map (λ v. v.items)) c.as_slice-seconds.ensures.value ∙ c.requires.seconds) t.permutation t.in_order)) _ c.text_in_order.ensures
