use Rattle.std.proofs.Common.{◌*◌, ◌^◌}
use Rattle.game_text.proofs.PowerLemmas.{long_whole, raised_long}
use Rattle.game_text.proofs.values.raised.Goals as goal

pub returns-then-size-ge-TWO_TO_63 : goal.returns-then-size-ge-TWO_TO_63
returns-then-size-ge-TWO_TO_63 c =
    long_whole c.args.negative (c.args.size * 10 ^ c.args.power) (raised_long c.args.size c.args.power c.if-size-ge-TWO_TO_63.true)
