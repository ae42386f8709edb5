use Rattle.std.proofs.Common.{sym, subst}
use Rattle.basis_enum.specs.Systems.{IsEnumerable}
use Rattle.worked_tableaux.proofs.CubeSystemLemmas.{cube_system, cube_enumerable}
use Rattle.worked_tableaux.proofs.cubes.cube.Goals as goal

pub new-requires : goal.new-requires
new-requires c =
    cube_system c.args.size _ _ _ c.requires c.in_ok-basics.ensures c.in_ok-nonbasics.ensures
    c.in_ok-cells.ensures.length

pub returns : goal.returns
returns c =
    subst IsEnumerable (sym c.new.ensures.value)
    (cube_enumerable c.args.size _ _ _ c.requires c.in_ok-basics.ensures c.in_ok-nonbasics.ensures
    c.in_ok-cells.ensures.above)
