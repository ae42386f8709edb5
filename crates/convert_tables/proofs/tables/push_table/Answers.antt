use Rattle.convert_tables.proofs.CellPlaceLemmas.{IsOthersProfile-profile}
use Rattle.convert_tables.proofs.AxisLemmas.{are_axes}
use Rattle.convert_tables.proofs.tables.push_table.Goals as goal

pub push_heading-requires : goal.push_heading-requires
push_heading-requires c =
    let l = c.args.axes.now in
    (IsOthersProfile-profile l.table.now l.row l.column c.args.profile.now (are_axes l) c.requires.profile).is_profile
