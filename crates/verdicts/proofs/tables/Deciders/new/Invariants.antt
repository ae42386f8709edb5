use Rattle.std.proofs.Common.{◌≡◌, length}
use Rattle.verdicts.specs.TableReplies.{AreDeciders, most_listed}
use Rattle.verdicts.proofs.tables.Deciders.new.Given as goal

-- those so far are listed, and the next player is the end
abbrev pub invariant-loop-player : goal.invariant-loop-player
invariant-loop-player l =
    record {
      room : length l.listed ≡ most_listed;
      listed : AreDeciders l.table l.mixed (record { listed = l.listed; count = l.count; end = record { player = l.player; first = l.first } });
    }
