use Rattle.std.proofs.Common.{◌^◌, ◌/◌, ◌%◌, ◌∷◌, [], ◌∙◌, ap, ap₂}
use Rattle.basis_enum.proofs.MaskLemmas.{ones_words}
use Rattle.basis_enum.proofs.marking.all_labels.Goals as goal

pub returns : goal.returns
returns c =
    let both = ones_words c.args.count in
    c.words.ensures ∙ ap (λ mask. mask % 2 ^ 64 ∷ mask / 2 ^ 64 ∷ []) c.ones.ensures ∙ ap₂ (λ low high. low ∷ high ∷ []) both.0 both.1
