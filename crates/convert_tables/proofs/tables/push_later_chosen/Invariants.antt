use Rattle.std.proofs.Common.{◌≡◌, ◌++◌, take}
use Rattle.std.specs.List.{flat_map}
use Rattle.convert_tables.specs.Layouts.{later_chosen_text}
use Rattle.convert_tables.proofs.tables.push_later_chosen.Given as goal

abbrev pub invariant-loop-player : goal.invariant-loop-player
invariant-loop-player l =
    l.text.items ≡ l.initial.text.items ++ flat_map (later_chosen_text l.axes.style l.axes.table.now l.profile) (take l.player-index l.players)
