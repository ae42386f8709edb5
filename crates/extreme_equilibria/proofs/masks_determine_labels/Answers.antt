use Rattle.extreme_equilibria.proofs.MaskLemmas.{masks_determine_labels}
use Rattle.extreme_equilibria.proofs.masks_determine_labels.Goals as goal

pub returns : goal.returns
returns c = masks_determine_labels
