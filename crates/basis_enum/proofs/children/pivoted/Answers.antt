use Rattle.std.proofs.Common.{◌∙◌}
use Rattle.std.proofs.lemmas.List.{get_or_default}
use Rattle.basis_enum.specs.Levels.{no_tableau}
use Rattle.basis_enum.specs.Next.{pivot_of}
use Rattle.basis_enum.proofs.NextLevelLemmas.{made_child}
use Rattle.basis_enum.proofs.children.pivoted.Goals as goal

pub returns-clause-child : goal.returns-clause-child
returns-clause-child g c =
    made_child c.args.level.now (pivot_of c.args.pivot.now) c.index-level-pivot.result c.pivoted.result (c.index-level-pivot.is ∙ get_or_default c.args.level.now c.args.pivot.now.parent c.index-level-pivot.result no_tableau c.requires.pivot.parent) c.pivoted.ensures.pivot c.pivoted.ensures.valid c.pivoted.ensures.fits
