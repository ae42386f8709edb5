use Rattle.pure_payoffs.specs.Plays.{choice_of, game_of}
use Rattle.pure_payoffs.proofs.shortcuts.Entries.settle.Goals as goal

pub returns : goal.returns
returns c =
    let t = game_of c.args.play.now in
    let room = c.requires.keep.room in
    record {
      keep = record {
        room = record { rounds_long = room.rounds_long; targets_long = room.targets_long; no_later = room.no_later; settled = c.keep.ensures t (choice_of c.args.play.now) c.requires.play.tree room.settled c.requires.gives };
        stand = c.requires.keep.stand;
      };
    }
