use Rattle.basis_enum.proofs.CompleteLevelLaws.{complete_cover, complete_extreme}
use Rattle.basis_enum.proofs.complete_levels_cover.Goals as goal

pub returns-clause-cover : goal.returns-clause-cover
returns-clause-cover c = complete_cover

pub returns-clause-extreme : goal.returns-clause-extreme
returns-clause-extreme c = complete_extreme
